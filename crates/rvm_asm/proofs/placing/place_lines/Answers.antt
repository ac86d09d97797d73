use Rattle.std.proofs.Common.{◌≡◌, ◌∙◌, ap, arith, length, not, subst}
use Rattle.rvm_asm.specs.LineViews.{names_of}
use Rattle.rvm_asm.specs.Refusals.{count_to}
use Rattle.rvm_asm.specs.Views.{lines_of, texts_of, ArePlaced, IsRoom}
use Rattle.rvm_asm.proofs.Claims.{no_room, oversized, placed_none, room_more, room_none}
use Rattle.rvm_asm.proofs.Lines.{lines_count}
use Rattle.rvm_asm.proofs.placing.place_lines.Goals as goal

pub loop-index-init : goal.loop-index-init
loop-index-init c = record {
  placed = placed_none (lines_of (texts_of c.args.texts.now)) (names_of c.args.symbols.now) c.args.places.now c.new-extents.result c.new-extents.ensures.empty;
  room = room_none (lines_of (texts_of c.args.texts.now)) (names_of c.args.symbols.now) c.args.places.now;
}

pub loop-index-preserved : goal.loop-index-preserved
loop-index-preserved c = record {
  placed = c.in-Ok.ensures.placed;
  room = room_more (lines_of (texts_of c.args.texts.now)) (names_of c.args.symbols.now) c.args.places.now c.loop-index.index c.in-Ok.count c.room_after-room.result
      (c.room_after-room.ensures (count_to (lines_of (texts_of c.args.texts.now)) (names_of c.args.symbols.now) c.args.places.now c.loop-index.index) c.loop-index.invariant.room) c.in-Ok.ensures.count;
}

pub returns-then-is_none-clause-refused : goal.returns-then-is_none-clause-refused
returns-then-is_none-clause-refused c =
    let lines = lines_of (texts_of c.args.texts.now) in
    let names = names_of c.args.symbols.now in
    let e : c.loop-index.index ≡ length lines = omega (arith, lines_count c.args.texts.now) in
    let placed : ArePlaced lines names c.args.places.now (length lines) c.loop-index.extents =
    subst (λ n. ArePlaced lines names c.args.places.now n c.loop-index.extents) e c.loop-index.invariant.placed in
    oversized lines names c.args.places.now c.loop-index.extents c.size_error.result c.requires.laid placed
    (no_room c.loop-index.room (count_to lines names c.args.places.now (length lines)) (c.is_none.ensures ∙ ap not c.if-is_none.true)
    (subst (λ n. IsRoom c.loop-index.room (count_to lines names c.args.places.now n)) e c.loop-index.invariant.room))
    (c.size_error.ensures _ (length lines) placed.held)

pub returns-clause-placed : goal.returns-clause-placed
returns-clause-placed c =
    let lines = lines_of (texts_of c.args.texts.now) in
    let e : c.loop-index.index ≡ length lines = omega (arith, lines_count c.args.texts.now) in
    subst (λ n. ArePlaced lines (names_of c.args.symbols.now) c.args.places.now n c.loop-index.extents) e c.loop-index.invariant.placed
