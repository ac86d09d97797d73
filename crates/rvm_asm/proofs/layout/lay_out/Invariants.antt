use Rattle.std.proofs.Common.{◌≡◌, ◌≤◌, ◌^◌, get_or}
use Rattle.rvm_asm.specs.LineViews.{names_of}
use Rattle.rvm_asm.specs.Assembly.{IsLaidTo}
use Rattle.rvm_asm.specs.Views.{lines_of, texts_of}
use Rattle.rvm_asm.proofs.layout.lay_out.Given as goal

-- the lines so far are laid
abbrev pub invariant-loop-index : goal.invariant-loop-index
invariant-loop-index l = record {
  laid : IsLaidTo (lines_of (texts_of l.texts)) l.index (names_of l.symbols) l.places.items;
  at : l.place ≡ get_or l.places.items l.index 0;
  below : l.place ≤ 2 ^ 32;
}
