use Rattle.rvm_replay.specs.Meetings.{HaveMet}
use Rattle.rvm_replay.proofs.meetings.check_meetings.Given as goal

-- what the journals so far tell agrees
abbrev pub invariant-loop-index : goal.invariant-loop-index
invariant-loop-index l = HaveMet l.files l.index l.opening.world
