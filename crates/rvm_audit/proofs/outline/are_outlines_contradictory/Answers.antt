use Rattle.rvm_audit.proofs.Outlined.{contradicted, explained}
use Rattle.rvm_audit.proofs.outline.are_outlines_contradictory.Goals as goal

pub returns-clause-found : goal.returns-clause-found
returns-clause-found c = λ hs are.
    contradicted hs c.args.outlines.now are c.args.cuts.now c.in_ok-places.places.items c.as_slice.result.now
    (c.in_ok-places.ensures.end hs are) c.as_slice.ensures.value c.unfinished.result c.is_some.result c.unfinished.ensures
    c.is_some.ensures

pub returns-clause-none : goal.returns-clause-none
returns-clause-none c = λ hs are.
    explained hs c.args.outlines.now are c.args.cuts.now c.in_ok-places.places.items c.as_slice.result.now
    (c.in_ok-places.ensures.end hs are) c.as_slice.ensures.value c.unfinished.result c.is_some.result c.unfinished.ensures
    c.is_some.ensures
