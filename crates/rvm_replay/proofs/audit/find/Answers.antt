use Rattle.std.proofs.Common.{◌≤◌, ◌∙◌, ap, length, subst, sym}
use Rattle.rvm_audit.specs.Audits.{IsAudit, histories_of}
use Rattle.rvm_audit.specs.ListOrders.{journals_of}
use Rattle.rvm_replay.proofs.AuditEnds.{contradicted_if, explained_if, marks_long}
use Rattle.rvm_replay.proofs.HostJournals.{as_many, same_count}
use Rattle.rvm_replay.proofs.audit.find.Goals as goal

pub audit_all-requires : goal.audit_all-requires
audit_all-requires g c = record {
  few = subst (λ js. length js ≤ 8) (sym c.as_slice.ensures.value)
      (as_many c.args.all.now c.in_ok-journals.journals.items c.in_ok-journals.ensures c.requires);
}

pub are_contradictory-requires : goal.are_contradictory-requires
are_contradictory-requires g c = record {
  few = subst (λ js. length js ≤ 8) (sym c.as_slice-in-NoOrder.ensures.value)
      (as_many c.args.all.now c.in_ok-journals.journals.items c.in_ok-journals.ensures c.requires);
  long = ap length c.as_slice-in-NoOrder-2.ensures.value ∙ ap length c.in_ok-cuts-in-NoOrder.ensures
      ∙ marks_long c.args.files.now (length c.args.all.now)
      ∙ sym (ap length c.as_slice-in-NoOrder.ensures.value
      ∙ same_count c.args.all.now c.in_ok-journals.journals.items c.in_ok-journals.ensures);
}

pub returns-in-true-clause-found : goal.returns-in-true-clause-found
returns-in-true-clause-found g c =
    contradicted_if c.args.files.now c.args.all.now c.in_ok-journals.journals.items c.as_slice.result.now
    c.as_slice-in-NoOrder.result.now (record { places = c.in-NoOrder.places; counts = c.in_ok-counts_of-in-NoOrder.field-0 })
    c.in_ok-cuts-in-NoOrder.cuts.items c.as_slice-in-NoOrder-2.result.now
    c.in_ok-journals.ensures c.as_slice.ensures.value c.as_slice-in-NoOrder.ensures.value
    (subst (IsAudit (journals_of (histories_of c.as_slice.result.now))) c.in-NoOrder.is c.in_ok-order.ensures) c.in_ok-counts_of-in-NoOrder.ensures
    c.in_ok-cuts-in-NoOrder.ensures c.as_slice-in-NoOrder-2.ensures.value c.in_ok-are_contradictory-in-NoOrder.field-0
    c.in_ok-are_contradictory-in-NoOrder.ensures.found c.in-true.is

pub returns-clause-found : goal.returns-clause-found
returns-clause-found g c =
    explained_if c.args.files.now c.args.all.now c.in_ok-journals.journals.items c.as_slice.result.now
    c.as_slice-in-NoOrder.result.now (record { places = c.in-NoOrder.places; counts = c.in_ok-counts_of-in-NoOrder.field-0 })
    c.in_ok-cuts-in-NoOrder.cuts.items c.as_slice-in-NoOrder-2.result.now
    c.in_ok-journals.ensures c.as_slice.ensures.value c.as_slice-in-NoOrder.ensures.value
    (subst (IsAudit (journals_of (histories_of c.as_slice.result.now))) c.in-NoOrder.is c.in_ok-order.ensures) c.in_ok-counts_of-in-NoOrder.ensures
    c.in_ok-cuts-in-NoOrder.ensures c.as_slice-in-NoOrder-2.ensures.value c.in_ok-are_contradictory-in-NoOrder.field-0
    c.in_ok-are_contradictory-in-NoOrder.ensures.none c.in-false.is
