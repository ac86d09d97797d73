use Rattle.rvm_replay.specs.Meetings.{HaveProcess}
use Rattle.rvm_replay.proofs.meetings.have_process.Given as goal

-- the journals so far tell no other process
abbrev pub invariant-loop-index : goal.invariant-loop-index
invariant-loop-index l = HaveProcess l.files l.meeting l.index
