use Rattle.std.proofs.Common.{inl, refl}
use Rattle.std.specs.Io.Buffered.{writer_contents}
use Rattle.rvm_replay.specs.Replays.{HasSessionStatus, IsUntold}
use Rattle.rvm_replay.proofs.UntoldReplays.{on_error, session_untold, sessions_ended, sessions_untold, with_text, with_text_untold}
use Rattle.rvm_replay.proofs.replay_session.replay_session.Goals as goal

pub returns-in-Ok-clause-status : goal.returns-in-Ok-clause-status
returns-in-Ok-clause-status g c =
    let host = c.in-Ok.ensures.host in
    let text = host.0 in
    let done = host.2 in
    let image = c.args.image.now in
    let session = g.R.Read.remaining c.args.reader.now in
    let out = writer_contents g.O.Write.contents c.args.output.now in
    let out' = writer_contents g.O.Write.contents c.session_at.new.output in
    let errors = g.E.Write.contents c.args.errors.now in
    let errors' = g.E.Write.contents c.session_at.new.errors in
    with_text (g.I.Read.remaining c.args.journal) c.session_at.result
    (λ t s. HasSessionStatus s c.args.name.now c.args.until t image session out out' errors errors') text host.1
    (sessions_ended c.args.name.now c.args.until text image out out' done.recording done.replay c.session_at.result
    session _ c.in-Ok.done.count errors errors' done.guest_is done.count_is c.session_at.ensures.status)

pub returns-in-Ok-clause-untold : goal.returns-in-Ok-clause-untold
returns-in-Ok-clause-untold g c =
    let host = c.in-Ok.ensures.host in
    let text = host.0 in
    let done = host.2 in
    let image = c.args.image.now in
    let session = g.R.Read.remaining c.args.reader.now in
    let out = writer_contents g.O.Write.contents c.args.output.now in
    let out' = writer_contents g.O.Write.contents c.session_at.new.output in
    with_text_untold (g.I.Read.remaining c.args.journal) c.session_at.result
    (λ t. IsUntold (λ status before after. HasSessionStatus status c.args.name.now c.args.until t image session out out'
    before after)) text host.1
    (sessions_untold c.args.name.now c.args.until text image out out' done.recording done.replay c.session_at.result
    session _ c.in-Ok.done.count done.guest_is done.count_is c.session_at.ensures.untold)

pub returns-in_ok-report_fault-in-Err-clause-status : goal.returns-in_ok-report_fault-in-Err-clause-status
returns-in_ok-report_fault-in-Err-clause-status g c =
    let bad = c.in-Err.ensures.fault in (
      bad.0,
      bad.1,
      inl (record { why = c.in-Err.fault; fault = bad.2; reported = c.in_ok-report_fault-in-Err.ensures }, refl),
    )

pub returns-in_err-report_fault-in-Err-clause-untold : goal.returns-in_err-report_fault-in-Err-clause-untold
returns-in_err-report_fault-in-Err-clause-untold g c =
    let bad = c.in-Err.ensures.fault in
    let out = writer_contents g.O.Write.contents c.args.output.now in
    on_error c.from_residual.result _ (
      bad.0,
      bad.1,
      session_untold c.args.name.now c.args.until bad.0 c.args.image.now out out c.in-Err.fault bad.2 refl
          (g.R.Read.remaining c.args.reader.now),
    )
