use Rattle.rvm_asm.specs.LineViews.{names_of}
use Rattle.rvm_asm.specs.Refusals.{count_to}
use Rattle.rvm_asm.specs.Views.{lines_of, texts_of, ArePlaced, IsRoom}
use Rattle.rvm_asm.proofs.placing.place_lines.Given as goal

-- the bytes of the lines so far have these extents, and their number leaves this room
abbrev pub invariant-loop-index : goal.invariant-loop-index
invariant-loop-index l = record {
  placed : ArePlaced (lines_of (texts_of l.texts)) (names_of l.symbols) l.places l.index l.extents;
  room : IsRoom l.room (count_to (lines_of (texts_of l.texts)) (names_of l.symbols) l.places l.index);
}
