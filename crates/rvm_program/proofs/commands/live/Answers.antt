use Rattle.rvm_program.specs.Ended.{written}
use Rattle.rvm_program.proofs.Ended.{live_unread, live_untold}
use Rattle.rvm_program.proofs.commands.live.Goals as goal

pub returns-in-Ok-clause-untold : goal.returns-in-Ok-clause-untold
returns-in-Ok-clause-untold g c =
    live_untold (g.F.NamedFiles.bytes_of c.args.files.now) c.args.arguments.now c.in-Ok.read.image.items
    (written (g.O.Write.contents c.args.output.now) (g.O.Write.contents c.run_live.new.output)) c.run_live.result
    c.in-Ok.ensures.image c.run_live.ensures.output

pub returns-in-Err-clause-untold : goal.returns-in-Err-clause-untold
returns-in-Err-clause-untold g c =
    live_unread (g.F.NamedFiles.bytes_of c.args.files.now) c.args.arguments.now (g.O.Write.contents c.args.output.now)
    c.tell_file.result
