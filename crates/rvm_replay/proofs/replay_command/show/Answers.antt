use Rattle.std.proofs.Common.{rules}
use Rattle.rvm_replay.proofs.UntoldReplays.{on_error, shown_untold, unwritten_untold}
use Rattle.rvm_replay.proofs.replay_command.show.Goals as goal

pub returns-in_err-writeln-in-Ok-clause-untold : goal.returns-in_err-writeln-in-Ok-clause-untold
returns-in_err-writeln-in-Ok-clause-untold g c =
    on_error c.from_residual.result _
    (shown_untold c.args.console.now.bytes.items c.args.count (g.O.Write.contents c.args.output.now)
    (g.O.Write.contents c.write_all.new.self) (search rules))

pub returns-in_err-_status-in-Err-clause-untold : goal.returns-in_err-_status-in-Err-clause-untold
returns-in_err-_status-in-Err-clause-untold g c =
    on_error c.from_residual-in_err-_status-in-Err.result _
    (unwritten_untold c.args.console.now.bytes.items c.args.count (g.O.Write.contents c.args.output.now)
    (g.O.Write.contents c.write_all.new.self))
