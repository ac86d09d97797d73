use Rattle.std.proofs.Common.{inl, refl}
use Rattle.rvm_replay.specs.Replays.{HasReplayStatus, IsUntold}
use Rattle.rvm_replay.proofs.UntoldReplays.{on_error, replay_untold, replays_ended, replays_untold, with_text, with_text_untold}
use Rattle.rvm_replay.proofs.replay_command.replay_command.Goals as goal

pub returns-in-Ok-clause-status : goal.returns-in-Ok-clause-status
returns-in-Ok-clause-status g c =
    let host = c.in-Ok.ensures.host in
    let text = host.0 in
    let done = host.2 in
    let image = c.args.image.now in
    let out = g.O.Write.contents c.args.output.now in
    let out' = g.O.Write.contents c.show-status.new.output in
    let errors = g.E.Write.contents c.args.errors.now in
    let errors' = g.E.Write.contents c.show-status.new.errors in
    with_text (g.I.Read.remaining c.args.journal) c.show-status.result
    (λ t s. HasReplayStatus s c.args.name.now c.args.until t image out out' errors errors') text host.1
    (replays_ended c.args.name.now c.args.until text image out out' done.recording done.replay c.show-status.result
    c.in-Ok.done.observer.bytes.items c.in-Ok.done.count errors errors' done.shown done.count_is c.show-status.ensures.status)

pub returns-in-Ok-clause-untold : goal.returns-in-Ok-clause-untold
returns-in-Ok-clause-untold g c =
    let host = c.in-Ok.ensures.host in
    let text = host.0 in
    let done = host.2 in
    let image = c.args.image.now in
    let out = g.O.Write.contents c.args.output.now in
    let out' = g.O.Write.contents c.show-status.new.output in
    with_text_untold (g.I.Read.remaining c.args.journal) c.show-status.result
    (λ t. IsUntold (λ status before after. HasReplayStatus status c.args.name.now c.args.until t image out out' before after))
    text host.1
    (replays_untold c.args.name.now c.args.until text image out out' done.recording done.replay c.show-status.result
    c.in-Ok.done.observer.bytes.items c.in-Ok.done.count done.shown done.count_is c.show-status.ensures.untold)

pub returns-in_ok-report_fault-in-Err-clause-status : goal.returns-in_ok-report_fault-in-Err-clause-status
returns-in_ok-report_fault-in-Err-clause-status g c =
    let bad = c.in-Err.ensures.fault in (
      bad.0,
      bad.1,
      inl (record { why = c.in-Err.fault; fault = bad.2; reported = c.in_ok-report_fault-in-Err.ensures }, refl),
    )

pub returns-in_err-report_fault-in-Err-clause-untold : goal.returns-in_err-report_fault-in-Err-clause-untold
returns-in_err-report_fault-in-Err-clause-untold g c =
    let bad = c.in-Err.ensures.fault in
    let out = g.O.Write.contents c.args.output.now in
    on_error c.from_residual.result _
    (bad.0, bad.1, replay_untold c.args.name.now c.args.until bad.0 c.args.image.now out out c.in-Err.fault bad.2 refl)
