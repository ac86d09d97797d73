use Rattle.std.proofs.Common.{◌≡◌, ◌∙◌, sym, ap, arith, false, count_by, nat_lt}
use Rattle.std.specs.List.{insert}
use Rattle.rvm_board.specs.Guest.{is_in, with}
use Rattle.rvm_board.specs.Marks.{marks_of}
use Rattle.rvm_board.proofs.Rising.{inserted, rising_with}
use Rattle.rvm_board.proofs.breakpoints.Breakpoints.set.Goals as goal

-- the address joins those that were there
pub invariant_of-self : goal.invariant_of-self
invariant_of-self c =
    let a = c.args.address in
    let old = c.self.inside.addresses.items in
    let new : is_in a old ≡ false =
    ap (is_in a) (sym c.deref.ensures.0) ∙ sym c.contains.ensures.value ∙ c.if-contains.false in
    let at : c.count_below-index.result ≡ count_by (λ b. nat_lt b a) old =
    c.count_below-index.ensures ∙ ap (count_by (λ b. nat_lt b a)) c.deref-2.ensures.0 in
    let joined : c.insert.new.self.items ≡ with a old =
    c.insert.ensures.items ∙ ap (λ i. insert old i a) at ∙ inserted a old c.self.invariant.1 new in (
      omega (arith, c.insert.ensures.len, c.self.invariant.0, c.if-len-eq-MAX_BREAKPOINTS.false),
      rw joined (rising_with a old c.self.invariant.1),
      c.marks_for-self-inside.ensures ∙ ap marks_of c.deref-3.ensures.0,
    )

pub returns-clause-set : goal.returns-clause-set
returns-clause-set c =
    let a = c.args.address in
    let old = c.self.inside.addresses.items in
    let new : is_in a old ≡ false =
    ap (is_in a) (sym c.deref.ensures.0) ∙ sym c.contains.ensures.value ∙ c.if-contains.false in
    let at : c.count_below-index.result ≡ count_by (λ b. nat_lt b a) old =
    c.count_below-index.ensures ∙ ap (count_by (λ b. nat_lt b a)) c.deref-2.ensures.0 in
    let joined : c.insert.new.self.items ≡ with a old =
    c.insert.ensures.items ∙ ap (λ i. insert old i a) at ∙ inserted a old c.self.invariant.1 new in
    rw (sym c.self.view_is) (rw new joined)
