use Rattle.std.proofs.Common.{◌≡◌, take}
use Rattle.rvm_replay.specs.Journals.{known_in, known_of}
use Rattle.rvm_replay.proofs.turn_session.slices_of.Given as goal

-- the journals so far
abbrev pub invariant-loop-journal : goal.invariant-loop-journal
invariant-loop-journal l = known_of l.slices.items ≡ known_in (take l.journal-index l.journals)
