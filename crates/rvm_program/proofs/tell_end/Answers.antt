use Rattle.rvm_program.specs.Ended.{written}
use Rattle.rvm_program.proofs.Statuses.{unbegun}
use Rattle.rvm_program.proofs.tell_end.Goals as goal

pub returns-in-Err-clause-untold : goal.returns-in-Err-clause-untold
returns-in-Err-clause-untold g c =
    unbegun (g.F.NamedFiles.bytes_of c.args.files.now) (g.F.NamedFiles.created_of c.args.files.now) c.args.arguments.now
    (g.I.Read.remaining c.args.input.now)
    (written (g.O.Write.contents c.args.output.now) (g.O.Write.contents c.begin.new.output))
    c.in-Err.refusal c.tell.result c.in-Err.ensures.unbegun.0
