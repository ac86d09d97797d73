use Rattle.std.proofs.Common.{ap, arith, length}
use Rattle.std.proofs.lemmas.List.{length-map}
use Rattle.rvm_audit.proofs.Outlined.{as_many_outlines}
use Rattle.rvm_recorder.specs.History.{Recording}
use Rattle.rvm_replay.proofs.AuditEnds.{marks_long}
use Rattle.rvm_replay.proofs.audit.why_unordered.Goals as goal

pub are_outlines_contradictory-requires-clause-long : goal.are_outlines_contradictory-requires-clause-long
are_outlines_contradictory-requires-clause-long g c =
    let all = c.args.all.now in
    let outlines = c.in_ok-outlines.outlines.items in
    let cuts = ap length c.as_slice-3.ensures.value in
    let marks = ap length c.in_ok-cuts.ensures in
    let slice = ap length c.as_slice-2.ensures.value in
    let count = c.in_ok-outlines.ensures.count_is in
    omega (
      arith,
      cuts,
      marks,
      slice,
      count,
      marks_long c.args.files.now (length all),
      length-map all (λ (r : Recording). r.journal),
      as_many_outlines outlines,
    )
