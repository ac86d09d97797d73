use Rattle.std.proofs.Common.{take}
use Rattle.std.specs.Io.KnownBytes.{Appends, append_known}
use Rattle.rvm_recorder.specs.Items.{all_of}
use Rattle.rvm_move.specs.Answers.{answers_text}
use Rattle.rvm_move.proofs.answers.write_together.Given as goal

abbrev pub invariant-loop-item : goal.invariant-loop-item
invariant-loop-item g l =
    Appends (append_known (g.E.Write.contents l.fn.errors) l.fn.piece.items)
    (append_known (g.E.Write.contents l.errors) l.piece.items) (answers_text (all_of (take l.item-index l.items)))
