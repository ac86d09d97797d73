use Rattle.std.proofs.Common.{◌∙◌, Bool, List, ap, arith, length}
use Rattle.std.proofs.lemmas.List.{length-replicate}
use Rattle.rvm_audit.specs.declared.part.Place.{Place}
use Rattle.rvm_audit.proofs.Parts.{starts}
use Rattle.rvm_audit.proofs.Passed.{has_passed, starts_passing}
use Rattle.rvm_audit.proofs.passing.pass_all.Goals as goal

pub loop-turn-init : goal.loop-turn-init
loop-turn-init c =
    let known = c.in_ok-known.known in
    let places = c.in_ok-places.places.items in
    let items = c.in_ok-places.ensures.items_if_clones_equal (λ y same. same) in
    let spent = c.in_ok-known.ensures.spent in
    record {
      passing = starts_passing c.args.parts.now c.args.cuts.now places known _ c.in_ok-known.ensures.made spent
          (ap (λ (bs : List Bool). length bs) spent ∙ length-replicate _ _)
          (ap (λ (ps : List Place). length ps) items ∙ length-replicate _ _) (λ x. starts _ x places items);
      there = omega arith;
      blocked = λ x part lt there. absurd (omega (arith, lt));
    }

pub returns-then-host-parts-clause-end : goal.returns-then-host-parts-clause-end
returns-then-host-parts-clause-end c = λ j are.
    has_passed c.args.parts.now c.args.cuts.now c.loop-turn.places.items c.loop-turn.known c.loop-turn.host
    c.loop-turn.invariant.passing c.loop-turn.invariant.blocked (omega (arith, c.if-host-parts.true)) j are
