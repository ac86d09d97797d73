use Rattle.std.proofs.Common.{◌∙◌, ap, arith, length, sym, subst}
use Rattle.rvm_asm.specs.LineViews.{names_of}
use Rattle.rvm_asm.specs.Images.{byte_at, or_else, piece, pieces_of}
use Rattle.rvm_asm.specs.Pieces.{AreOrdered, end_of}
use Rattle.rvm_asm.specs.Views.{line_bytes, lines_of, texts_of, AreExtents}
use Rattle.rvm_asm.proofs.Bytes.{image_same, or_none, same_more}
use Rattle.rvm_asm.proofs.Claims.{its_bytes}
use Rattle.rvm_asm.proofs.Lines.{lines_count}
use Rattle.rvm_asm.proofs.Order.{none_ordered, weaker, rising, no_zeros}
use Rattle.rvm_asm.proofs.Placed.{pieces, extent_left, first_left}
use Rattle.rvm_asm.proofs.filling.fill.Goals as goal

pub loop-address-init : goal.loop-address-init
unfolding end_of
loop-address-init c =
    let bytes = line_bytes (lines_of (texts_of c.args.texts.now)) (names_of c.args.symbols.now) c.args.places.now in
    let all = sym c.into_iter-address-iterator.ensures.into_iter_gives.0 in
    let none = sym c.new-segments.ensures.items in
    record {
      same = λ a.
          sym (or_none (byte_at (pieces bytes c.args.extents.entries) a))
          ∙ ap (λ l. or_else (byte_at (pieces bytes c.args.extents.entries) a) (byte_at (pieces_of l) a)) none
          ∙ ap (λ l. or_else (byte_at (pieces bytes l) a) (byte_at (pieces_of c.new-segments.result.items) a)) all;
      joined = none_ordered 1 (pieces_of c.new-segments.result.items) (ap pieces_of (sym none));
      left = subst (λ l. AreOrdered 0 (end_of 0 0 (pieces_of c.new-segments.result.items)) (pieces bytes l)) all
          (subst (λ l. AreOrdered 0 (end_of 0 0 (pieces_of l)) (pieces bytes c.args.extents.entries)) none c.requires.placed.held.ordered);
      each = subst (AreExtents bytes (length (lines_of (texts_of c.args.texts.now)))) all c.requires.placed.held.each;
    }

pub line_bytes-requires-clause-inside : goal.line_bytes-requires-clause-inside
line_bytes-requires-clause-inside c =
    let is = (extent_left _ _ (c.in-Some.address, c.in-Some.extent) c.next.new.self _ c.in-Some.ensures.steps c.loop-address.invariant.each).0 in
    omega (arith, is.0, lines_count c.args.texts.now)

pub line_bytes-requires-clause-sound : goal.line_bytes-requires-clause-sound
line_bytes-requires-clause-sound c =
    let is = (extent_left _ _ (c.in-Some.address, c.in-Some.extent) c.next.new.self _ c.in-Some.ensures.steps c.loop-address.invariant.each).0 in
    let b = c.requires.placed.image.bytes c.in-Some.extent.line is.0 in
    its_bytes (lines_of (texts_of c.args.texts.now)) (names_of c.args.symbols.now) c.args.places.now c.in-Some.extent.line b.0 b.1

pub append-requires-clause-some : goal.append-requires-clause-some
append-requires-clause-some c =
    omega (arith, ap length c.in_ok-bytes.ensures, (first_left _ _ (c.in-Some.address, c.in-Some.extent) c.next.new.self _ c.in-Some.ensures.steps c.loop-address.invariant.left).1)

pub append-requires-clause-ordered : goal.append-requires-clause-ordered
append-requires-clause-ordered c = weaker 1 0 0 0 (pieces_of c.loop-address.segments.items) (omega arith) (omega arith) c.loop-address.invariant.joined

pub append-requires-clause-behind : goal.append-requires-clause-behind
append-requires-clause-behind c = (first_left _ _ (c.in-Some.address, c.in-Some.extent) c.next.new.self _ c.in-Some.ensures.steps c.loop-address.invariant.left).0

pub loop-address-preserved : goal.loop-address-preserved
loop-address-preserved c =
    let bytes = line_bytes (lines_of (texts_of c.args.texts.now)) (names_of c.args.symbols.now) c.args.places.now in
    let left = first_left bytes _ (c.in-Some.address, c.in-Some.extent) c.next.new.self _ c.in-Some.ensures.steps c.loop-address.invariant.left in
    record {
      same = λ a.
          c.loop-address.invariant.same a
          ∙ ap (λ l. or_else (byte_at (pieces bytes l) a) (byte_at (pieces_of c.loop-address.segments.items) a)) c.in-Some.ensures.steps
          ∙ same_more (pieces bytes c.next.new.self) (pieces_of c.loop-address.segments.items) (pieces_of c.append.new.segments.items) (piece c.in-Some.address (bytes c.in-Some.extent.line)) a (rw c.in_ok-bytes.ensures at c.in_ok-append.ensures.joined);
      joined = c.in_ok-append.ensures.ordered 1 (omega arith) c.loop-address.invariant.joined;
      left = subst (λ n. AreOrdered 0 n (pieces bytes c.next.new.self)) (sym (rw c.in_ok-bytes.ensures at c.in_ok-append.ensures.ends)) left.2;
      each = (extent_left bytes _ (c.in-Some.address, c.in-Some.extent) c.next.new.self _ c.in-Some.ensures.steps c.loop-address.invariant.each).1;
    }

pub returns-clause-image : goal.returns-clause-image
returns-clause-image c =
    let bytes = line_bytes (lines_of (texts_of c.args.texts.now)) (names_of c.args.symbols.now) c.args.places.now in
    image_same (lines_of (texts_of c.args.texts.now)) (names_of c.args.symbols.now) c.args.places.now (pieces bytes c.args.extents.entries) (pieces_of c.loop-address.segments.items) c.requires.placed.image
    (λ a. c.loop-address.invariant.same a ∙ ap (λ l. or_else (byte_at (pieces bytes l) a) (byte_at (pieces_of c.loop-address.segments.items) a)) c.in-None.ensures.steps.0)

pub returns-clause-rising : goal.returns-clause-rising
returns-clause-rising c = rising 0 (pieces_of c.loop-address.segments.items) c.loop-address.invariant.joined

pub returns-clause-zeros : goal.returns-clause-zeros
returns-clause-zeros c = no_zeros 1 0 c.loop-address.segments.items c.loop-address.invariant.joined
