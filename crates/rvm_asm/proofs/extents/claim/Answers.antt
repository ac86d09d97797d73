use Rattle.std.proofs.Common.{◌+◌, ◌-◌, ◌<◌, ◌∙◌, ap, sym, subst, arith, length, rules}
use Rattle.rvm_asm.specs.Images.{byte_at}
use Rattle.rvm_asm.specs.declared.extents.Extent.{Extent}
use Rattle.rvm_asm.specs.Pieces.{AreOrdered, IsFree, IsTaken}
use Rattle.rvm_asm.specs.Views.{extent_pieces, AreExtents}
use Rattle.rvm_asm.proofs.Placed.{pieces, claims_none, inserted_extents, inserted_joins, inserted_ordered, extents_more}
use Rattle.rvm_asm.proofs.extents.claim.Goals as goal

pub returns-then-count-eq0 : goal.returns-then-count-eq0
returns-then-count-eq0 c = λ bytes held long. claims_none bytes c.args.line c.args.place c.args.extents.now held (long ∙ c.if-count-eq0.true)

pub returns-then-not-is_free : goal.returns-then-not-is_free
returns-then-not-is_free c = λ bytes held long.
    (search rules, subst (IsTaken (extent_pieces bytes c.args.extents.now) c.args.place) (sym long) (c.is_free.ensures.taken bytes c.args.line c.args.count held (omega arith) (omega (arith, c.requires)) (search rules)))

pub returns : goal.returns
returns c = λ bytes held long.
    let some : 0 < length (bytes c.args.line) = omega (arith, long, c.if-count-eq0.false) in
    let free : IsFree (extent_pieces bytes c.args.extents.now) c.args.place (length (bytes c.args.line)) =
    subst (IsFree (extent_pieces bytes c.args.extents.now) c.args.place) (sym long) (c.is_free.ensures.free bytes c.args.line c.args.count held (omega arith) (omega arith) (search rules)) in
    let extent : Extent = record { line = c.args.line; last = c.args.place + (c.args.count - 1) } in (
      free,
      λ a. ap (λ l. byte_at (pieces bytes l) a) c.in_ok-insert.ensures.entries ∙ inserted_joins bytes 0 c.args.place c.args.extents.now.entries extent held.ordered free some a,
      record {
        each = subst (AreExtents bytes (c.args.line + 1)) (sym c.in_ok-insert.ensures.entries) (inserted_extents bytes (c.args.line + 1) 0 c.args.place c.args.extents.now.entries extent (extents_more bytes c.args.line c.args.extents.now.entries held.each) held.ordered free some (omega arith, omega (arith, long, some)));
        ordered = subst (λ l. AreOrdered 0 0 (pieces bytes l)) (sym c.in_ok-insert.ensures.entries) (inserted_ordered bytes 0 c.args.place c.args.extents.now.entries extent held.ordered free some (omega arith));
      },
    )
