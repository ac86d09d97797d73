use Rattle.std.proofs.Common.{◌≡◌, ℕ, length}
use Rattle.rvm_asm.specs.LineViews.{names_of}
use Rattle.rvm_asm.specs.Images.{byte_at, or_else, pieces_of}
use Rattle.rvm_asm.specs.Pieces.{AreOrdered, end_of}
use Rattle.rvm_asm.specs.Views.{extent_pieces, line_bytes, lines_of, texts_of, AreExtents}
use Rattle.rvm_asm.proofs.Placed.{pieces}
use Rattle.rvm_asm.proofs.filling.fill.Given as goal

-- the segments so far are made, and the extents that are left begin after them
abbrev pub invariant-loop-address : goal.invariant-loop-address
invariant-loop-address l = record {
  same : (a : ℕ) → byte_at (extent_pieces (line_bytes (lines_of (texts_of l.texts)) (names_of l.symbols) l.places) l.fn.extents) a ≡ or_else (byte_at (pieces (line_bytes (lines_of (texts_of l.texts)) (names_of l.symbols) l.places) l.address-iterator) a) (byte_at (pieces_of l.segments.items) a);
  joined : AreOrdered 1 0 (pieces_of l.segments.items);
  left : AreOrdered 0 (end_of 0 0 (pieces_of l.segments.items)) (pieces (line_bytes (lines_of (texts_of l.texts)) (names_of l.symbols) l.places) l.address-iterator);
  each : AreExtents (line_bytes (lines_of (texts_of l.texts)) (names_of l.symbols) l.places) (length (lines_of (texts_of l.texts))) l.address-iterator;
}
