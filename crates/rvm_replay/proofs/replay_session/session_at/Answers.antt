use Rattle.std.proofs.Common.{ap, option_map, refl, subst, sym}
use Rattle.std.specs.Prelude.{IfOk, OnErr}
use Rattle.rvm_board.specs.Guest.{GuestState}
use Rattle.std.specs.Io.Buffered.{writer_contents}
use Rattle.rvm_replay.specs.Replays.{HasAnswerStatus, IsUntold}
use Rattle.rvm_replay.proofs.Replayed.{nobody_here}
use Rattle.rvm_replay.proofs.UntoldReplays.{nobody_untold, on_error}
use Rattle.rvm_replay.proofs.replay_session.session_at.Goals as goal

pub returns-in_ok-report_no_guest-in-None-clause-status : goal.returns-in_ok-report_no_guest-in-None-clause-status
returns-in_ok-report_no_guest-in-None-clause-status g c =
    let before = g.E.Write.contents c.args.errors.now in
    let after = g.E.Write.contents c.report_no_guest.new.errors in
    nobody_here c.args.name.now (option_map (λ (g : GuestState). g.guest) c.args.guest) c.args.count c.args.count
    (g.R.Read.remaining c.args.reader.now) (writer_contents g.O.Write.contents c.args.output.now) before after
    (ap (option_map (λ (g : GuestState). g.guest)) (sym c.in-None.is)) refl c.in_ok-report_no_guest-in-None.ensures

pub returns-in-Some-clause-status : goal.returns-in-Some-clause-status
returns-in-Some-clause-status g c =
    subst (λ o. IfOk c.session_of.result (λ status. HasAnswerStatus status c.args.name.now
    (option_map (λ (g : GuestState). g.guest) o) c.args.count (g.R.Read.remaining c.args.reader.now)
    (writer_contents g.O.Write.contents c.args.output.now) (writer_contents g.O.Write.contents c.session_of.new.output)
    (g.E.Write.contents c.args.errors.now) (g.E.Write.contents c.session_of.new.errors))) (sym c.in-Some.is)
    (c.session_of.ensures.status c.args.name.now c.args.count)

pub returns-in-Some-clause-untold : goal.returns-in-Some-clause-untold
returns-in-Some-clause-untold g c =
    subst (λ o. OnErr c.session_of.result (IsUntold (λ status before after. HasAnswerStatus status c.args.name.now
    (option_map (λ (g : GuestState). g.guest) o) c.args.count (g.R.Read.remaining c.args.reader.now)
    (writer_contents g.O.Write.contents c.args.output.now) (writer_contents g.O.Write.contents c.session_of.new.output)
    before after))) (sym c.in-Some.is)
    (c.session_of.ensures.untold c.args.name.now c.args.count)

pub returns-in_err-report_no_guest-in-None-clause-untold : goal.returns-in_err-report_no_guest-in-None-clause-untold
returns-in_err-report_no_guest-in-None-clause-untold g c =
    on_error c.from_residual.result _
    (nobody_untold c.args.name.now c.args.count (g.R.Read.remaining c.args.reader.now)
    (writer_contents g.O.Write.contents c.args.output.now) (writer_contents g.O.Write.contents c.args.output.now)
    (option_map (λ (g : GuestState). g.guest) c.args.guest) (ap (option_map (λ (g : GuestState). g.guest)) (sym c.in-None.is)) refl)
