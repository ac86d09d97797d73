use Rattle.std.proofs.Common.{◌≡◌, ◌∙◌, Bool, List, ap, false, length, replicate}
use Rattle.rvm_audit.specs.Cuts.{marked}
use Rattle.rvm_audit.proofs.Passed.{no_marks}
use Rattle.rvm_audit.proofs.Outlined.{ordered, unordered}
use Rattle.rvm_audit.proofs.outline.audit_outlines.Goals as goal

pub returns-in-None : goal.returns-in-None
returns-in-None c = λ hs are.
    let cuts = c.as_slice.result.now in
    let none : ◌≡◌ {A = List Bool} cuts (replicate (length c.args.outlines.now) false) =
    c.as_slice.ensures.value ∙ c.in_ok-cuts.ensures.items_if_clones_equal (λ y same. same) in
    ordered hs c.args.outlines.now are cuts c.in_ok-places.places.items c.as_slice-2.result.now
    (c.in_ok-places.ensures.end hs are) c.as_slice-2.ensures.value
    (λ x. ap (λ (bs : List Bool). marked bs x) none ∙ no_marks (length c.args.outlines.now) x) c.in-None.ensures

pub returns : goal.returns
returns c = λ hs are.
    let cuts = c.as_slice.result.now in
    let none : ◌≡◌ {A = List Bool} cuts (replicate (length c.args.outlines.now) false) =
    c.as_slice.ensures.value ∙ c.in_ok-cuts.ensures.items_if_clones_equal (λ y same. same) in
    unordered hs c.args.outlines.now are cuts c.in_ok-places.places.items c.as_slice-2.result.now
    (c.in_ok-places.ensures.end hs are) c.as_slice-2.ensures.value
    (λ x. ap (λ (bs : List Bool). marked bs x) none ∙ no_marks (length c.args.outlines.now) x) c.in-Some._host c.in-Some.ensures
