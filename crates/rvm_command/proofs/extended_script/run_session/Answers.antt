use Rattle.rvm_command.proofs.Sessions.{unread_session}
use Rattle.rvm_command.proofs.extended_script.run_session.Goals as goal

pub returns-in-Err-clause-run : goal.returns-in-Err-clause-run
returns-in-Err-clause-run g c =
    unread_session (g.R.Read.remaining c.args.reader.now) c.args.board.now (g.W.Write.contents c.args.writer.now) c.in-Err.error c.in-Err.ensures.refused
