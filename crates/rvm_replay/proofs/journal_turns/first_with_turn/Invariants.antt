use Rattle.rvm_replay.proofs.JournalTurns.{Searched}
use Rattle.rvm_replay.proofs.journal_turns.first_with_turn.Given as goal

abbrev pub invariant-loop-item : goal.invariant-loop-item
invariant-loop-item l = Searched l.items l.item-index l.turn l.left l.count
