use Rattle.std.proofs.Common.{◌∙◌, List, ap, arith, length}
use Rattle.std.proofs.lemmas.List.{length-replicate}
use Rattle.rvm_audit.specs.declared.part.Place.{Place}
use Rattle.rvm_audit.proofs.Parts.{at_end, begins, starts}
use Rattle.rvm_audit.proofs.merging.merge_all.Goals as goal

pub loop-turn-init : goal.loop-turn-init
loop-turn-init c =
    let m = c.new-merge.ensures in
    let made = m.made in
    let places = c.in_ok-places.places.items in
    let items = c.in_ok-places.ensures.items_if_clones_equal (λ y same. same) in
    record {
      stands = begins c.args.parts.now places c.new-merge.result m.order m.made m.places
          (ap (λ (ps : List Place). length ps) items ∙ length-replicate _ _) (λ x. starts _ x places items);
      made = omega (arith, made);
      there = omega arith;
      waits = λ x part lt there. absurd (omega (arith, lt));
    }

pub returns-then-host-parts-clause-end : goal.returns-then-host-parts-clause-end
returns-then-host-parts-clause-end c = λ j are.
    at_end c.args.parts.now c.loop-turn.places.items c.loop-turn.merge c.loop-turn.host c.loop-turn.invariant.stands
    c.loop-turn.invariant.waits (omega (arith, c.if-host-parts.true)) j are
