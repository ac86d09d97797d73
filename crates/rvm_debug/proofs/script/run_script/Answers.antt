use Rattle.rvm_debug.proofs.Running.{unread_script}
use Rattle.rvm_debug.proofs.script.run_script.Goals as goal

pub returns-in-Err-clause-run : goal.returns-in-Err-clause-run
returns-in-Err-clause-run g c =
    unread_script (g.R.Read.remaining c.args.reader.now) c.args.board.now (g.W.Write.contents c.args.writer.now) c.in-Err.error c.in-Err.ensures.refused
