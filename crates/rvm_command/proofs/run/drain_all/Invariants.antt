use Rattle.std.proofs.Common.{length}
use Rattle.rvm_command.specs.Run.{drains}
use Rattle.rvm_command.proofs.Runs.{Progress}
use Rattle.rvm_command.proofs.run.drain_all.Given as goal

-- the drains so far and those that are left are all
abbrev pub invariant-loop-buffer : goal.invariant-loop-buffer
invariant-loop-buffer g l =
    Progress (drains l.fn.guest.guest) (drains l.guest.guest) l.fn.guest l.guest l.fn.buffer l.buffer (g.W.Write.contents l.fn.writer) (g.W.Write.contents l.writer)

abbrev pub decreases-loop-buffer : goal.decreases-loop-buffer
decreases-loop-buffer g l = length l.guest.guest.board.shared.devices.output
