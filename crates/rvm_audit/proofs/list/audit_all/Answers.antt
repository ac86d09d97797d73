use Rattle.std.proofs.Common.{◌<◌, ◌≤◌, List, length, subst, sym}
use Rattle.rvm_audit.specs.Audits.{entries_of, histories_of}
use Rattle.rvm_audit.specs.declared.part.Place.{Place}
use Rattle.rvm_audit.specs.ListOrders.{journals_of}
use Rattle.rvm_audit.specs.Parts.{AreSized, taken}
use Rattle.rvm_audit.proofs.Lists.{all_sized, are_all, at_dead_end, in_order, there_in, there_of}
use Rattle.rvm_audit.proofs.list.audit_all.Goals as goal

pub merge_all-requires-clause-sized : goal.merge_all-requires-clause-sized
merge_all-requires-clause-sized g c =
    subst AreSized (sym c.as_slice.ensures.value)
    (all_sized (histories_of c.args.journals.now) c.in_ok-parts.parts.items c.in_ok-parts.ensures.each)

pub returns-in-None : goal.returns-in-None
returns-in-None g c =
    let journals = c.args.journals.now in
    let hs = histories_of journals in
    let are =
    are_all journals c.in_ok-parts.parts.items c.as_slice.result.now c.in_ok-parts.ensures.long c.in_ok-parts.ensures.each
    c.as_slice.ensures.value
    in
    in_order (journals_of hs) c.in_ok-ended.ended.places.items c.in_ok-ended.ended.order
    (c.in_ok-ended.ensures.end (journals_of hs) are)
    (λ x lt. subst (λ (ps : List Place). length (entries_of hs x) ≤ taken ps x) c.as_slice-2.ensures.value
    (c.in-None.ensures x (there_of journals x lt)))

pub returns : goal.returns
returns g c =
    let journals = c.args.journals.now in
    let hs = histories_of journals in
    let x = c.in-Some._host in
    let are =
    are_all journals c.in_ok-parts.parts.items c.as_slice.result.now c.in_ok-parts.ensures.long c.in_ok-parts.ensures.each
    c.as_slice.ensures.value
    in
    at_dead_end (journals_of hs) c.in_ok-ended.ended.places.items c.in_ok-ended.ended.order
    (c.in_ok-ended.ensures.end (journals_of hs) are) x (there_in journals x c.in-Some.ensures.0)
    (subst (λ (ps : List Place). taken ps x < length (entries_of hs x)) c.as_slice-2.ensures.value c.in-Some.ensures.1)
