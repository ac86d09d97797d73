use Rattle.std.proofs.Common.{◌≡◌, ◌∙◌, sym, ap, arith, true, count_by, nat_lt}
use Rattle.std.specs.List.{remove}
use Rattle.rvm_board.specs.Guest.{is_in, without}
use Rattle.rvm_board.specs.Marks.{marks_of}
use Rattle.rvm_board.proofs.Rising.{removed, rising_without, not_there, place_below}
use Rattle.rvm_board.proofs.breakpoints.Breakpoints.clear.Goals as goal

-- the address is in the list, after the addresses below it
pub remove-requires : goal.remove-requires
remove-requires c =
    let a = c.args.address in
    let old = c.self.inside.addresses.items in
    let there : is_in a old ≡ true =
    ap (is_in a) c.self.view_is ∙ sym c.has.ensures ∙ c.if-has.true in
    let at : c.count_below-index.result ≡ count_by (λ b. nat_lt b a) old =
    c.count_below-index.ensures ∙ ap (count_by (λ b. nat_lt b a)) c.deref.ensures.0 in
    (omega arith, rw at (place_below a old c.self.invariant.1 there))

-- the address is removed
pub invariant_of-self : goal.invariant_of-self
invariant_of-self c =
    let a = c.args.address in
    let old = c.self.inside.addresses.items in
    let there : is_in a old ≡ true =
    ap (is_in a) c.self.view_is ∙ sym c.has.ensures ∙ c.if-has.true in
    let at : c.count_below-index.result ≡ count_by (λ b. nat_lt b a) old =
    c.count_below-index.ensures ∙ ap (count_by (λ b. nat_lt b a)) c.deref.ensures.0 in
    let gone : c.remove.new.self.items ≡ without a old =
    c.remove.ensures.items ∙ ap (remove old) at ∙ removed a old c.self.invariant.1 there in (
      omega (arith, c.remove.ensures.len, c.self.invariant.0),
      rw gone (rising_without a old c.self.invariant.1),
      c.marks_for-self-inside.ensures ∙ ap marks_of c.deref-then-has.ensures.0,
    )

pub returns-then-has : goal.returns-then-has
returns-then-has c =
    let a = c.args.address in
    let old = c.self.inside.addresses.items in
    let there : is_in a old ≡ true =
    ap (is_in a) c.self.view_is ∙ sym c.has.ensures ∙ c.if-has.true in
    let at : c.count_below-index.result ≡ count_by (λ b. nat_lt b a) old =
    c.count_below-index.ensures ∙ ap (count_by (λ b. nat_lt b a)) c.deref.ensures.0 in
    let gone : c.remove.new.self.items ≡ without a old =
    c.remove.ensures.items ∙ ap (remove old) at ∙ removed a old c.self.invariant.1 there in
    gone ∙ ap (without a) c.self.view_is

pub returns-else-has : goal.returns-else-has
returns-else-has c = sym (not_there c.args.address c.args.self.now (sym c.has.ensures ∙ c.if-has.false))
