use Rattle.std.proofs.Common.{map, subst}
use Rattle.std.specs.Io.Buffered.{writer_contents}
use Rattle.std.specs.Prelude.{IfOk, OnErr}
use Rattle.rvm_replay.specs.Findings.{HasFindingStatus, IsUntoldFinding, text_of}
use Rattle.rvm_replay.proofs.AllHosts.{replayed}
use Rattle.rvm_replay.proofs.AuditEnds.{all_audited, all_untold, events_fault, texts_audited, texts_refused, texts_refused_untold, texts_untold}
use Rattle.rvm_replay.proofs.UntoldReplays.{on_error}
use Rattle.rvm_replay.proofs.audit.audit_events.Goals as goal

pub returns-in-Ok-clause-status : goal.returns-in-Ok-clause-status
returns-in-Ok-clause-status g c =
    let files = c.in-Ok.world.files.items in
    let all = c.in-Ok.world.hosts.items in
    let image = c.args.image.now in
    let before = writer_contents g.O.Write.contents c.args.output.now in
    let after = writer_contents g.O.Write.contents c.audit_replayed-ended.new.output in
    let errors = g.E.Write.contents c.args.errors.now in
    let errors' = g.E.Write.contents c.audit_replayed-ended.new.errors in
    let ended = c.audit_replayed-ended.result in
    texts_audited c.args.names.now (map g.I.Read.remaining c.args.inputs.items) image (text_of c.args.text) before after ended files errors errors'
    c.in-Ok.ensures.texts
    (all_audited files image all (replayed files image all c.in-Ok.ensures.world c.in-Ok.ensures.each)
    c.the_guest_of_an_order_never_moves.ensures (text_of c.args.text) before after ended errors errors'
    (subst (λ fs. IfOk ended (λ s. HasFindingStatus s fs all (text_of c.args.text) before after errors errors')) c.as_slice-files.ensures.value
    (subst (λ rs. IfOk ended (λ s. HasFindingStatus s c.as_slice-files.result.now rs (text_of c.args.text) before after errors errors'))
    c.as_slice.ensures.value c.audit_replayed-ended.ensures.status)))

pub returns-in-Ok-clause-untold : goal.returns-in-Ok-clause-untold
returns-in-Ok-clause-untold g c =
    let files = c.in-Ok.world.files.items in
    let all = c.in-Ok.world.hosts.items in
    let image = c.args.image.now in
    let before = writer_contents g.O.Write.contents c.args.output.now in
    let after = writer_contents g.O.Write.contents c.audit_replayed-ended.new.output in
    let ended = c.audit_replayed-ended.result in
    texts_untold c.args.names.now (map g.I.Read.remaining c.args.inputs.items) image (text_of c.args.text) before after ended files
    c.in-Ok.ensures.texts
    (all_untold files image all (replayed files image all c.in-Ok.ensures.world c.in-Ok.ensures.each)
    c.the_guest_of_an_order_never_moves.ensures (text_of c.args.text) before after ended
    (subst (λ fs. OnErr ended (IsUntoldFinding fs all (text_of c.args.text) before after)) c.as_slice-files.ensures.value
    (subst (λ rs. OnErr ended (IsUntoldFinding c.as_slice-files.result.now rs (text_of c.args.text) before after))
    c.as_slice.ensures.value c.audit_replayed-ended.ensures.untold)))

pub returns-in_ok-tell_fault-in-Err-clause-status : goal.returns-in_ok-tell_fault-in-Err-clause-status
returns-in_ok-tell_fault-in-Err-clause-status g c =
    let image = c.args.image.now in
    let out = writer_contents g.O.Write.contents c.args.output.now in
    let fault = c.in-Err.ensures.fault in
    texts_refused c.args.names.now (map g.I.Read.remaining c.args.inputs.items) image (text_of c.args.text) out c.in-Err.fault (fault.0, fault.1, events_fault fault.0 image c.args.text c.in-Err.fault fault.2)
    (g.E.Write.contents c.args.errors.now) (g.E.Write.contents c.tell_fault.new.errors) c.in_ok-tell_fault-in-Err.ensures

pub returns-in_err-tell_fault-in-Err-clause-untold : goal.returns-in_err-tell_fault-in-Err-clause-untold
returns-in_err-tell_fault-in-Err-clause-untold g c =
    let image = c.args.image.now in
    let out = writer_contents g.O.Write.contents c.args.output.now in
    let fault = c.in-Err.ensures.fault in
    on_error c.from_residual.result _
    (texts_refused_untold c.args.names.now (map g.I.Read.remaining c.args.inputs.items) image (text_of c.args.text) out c.in-Err.fault (fault.0, fault.1, events_fault fault.0 image c.args.text c.in-Err.fault fault.2))
