use Rattle.rvm_program.specs.Ended.{written}
use Rattle.rvm_program.proofs.Explained.{unpassed}
use Rattle.rvm_program.proofs.do_explained.Goals as goal

pub returns-then-is_err-clause-refused : goal.returns-then-is_err-clause-refused
returns-then-is_err-clause-refused g c =
    λ one. unpassed (g.F.NamedFiles.bytes_of c.args.files.now) (g.F.NamedFiles.created_of c.args.files.now) c.args.arguments.now
    (g.I.Read.remaining c.args.input.now)
    (written (g.O.Write.contents c.args.output.now) (g.O.Write.contents c.do_command-status.new.output))
    (written (g.E.Write.contents c.args.errors.now) (g.E.Write.contents c.pass_on.new.errors))
    c.in-Ok.report.items c.do_command-status.new.errors.items c.do_command-status.result c.in-Ok.ensures.items c.do_command-status.ensures.done
    c.do_command-status.ensures.others c.do_command-status.ensures.refused
