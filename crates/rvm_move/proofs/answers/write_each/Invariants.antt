use Rattle.std.proofs.Common.{take}
use Rattle.std.specs.Io.KnownBytes.{Appends}
use Rattle.rvm_recorder.specs.Items.{all_of}
use Rattle.rvm_move.specs.Answers.{answers_text}
use Rattle.rvm_move.proofs.answers.write_each.Given as goal

abbrev pub invariant-loop-item : goal.invariant-loop-item
invariant-loop-item g l =
    Appends (g.E.Write.contents l.fn.errors) (g.E.Write.contents l.errors) (answers_text (all_of (take l.item-index l.items)))
