use Rattle.std.specs.Io.Buffered.{writer_contents}
use Rattle.rvm_replay.proofs.UntoldReplays.{on_error, refused_untold}
use Rattle.rvm_replay.proofs.replay_session.session_of.Goals as goal

pub returns-in_err-_status-in-Err-clause-untold : goal.returns-in_err-_status-in-Err-clause-untold
returns-in_err-_status-in-Err-clause-untold g c name count =
    on_error c.from_residual.result _
    (refused_untold name count c.args.guest.guest (g.R.Read.remaining c.args.reader.now)
    (writer_contents g.O.Write.contents c.args.output.now)
    (writer_contents g.O.Write.contents c.answer-answered.new.output) c.in-Err.why c.in-Err.ensures.end)
