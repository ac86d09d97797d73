use Rattle.std.proofs.Common.{◌≡◌, ◌&&◌, Option, false, ◌∙◌, ap, sym, refl, subst, arith}
use Rattle.std.specs.Prelude.{not}
use Rattle.rvm_frame.specs.declared.frame.Frame.{Frame}
use Rattle.rvm_message.specs.Events.{BoardHostEvent}
use Rattle.rvm_message.specs.declared.reply.HostReply.{HostReply}
use Rattle.rvm_precopy.specs.Policies.{policy_of}
use Rattle.rvm_protocol.specs.Commands as commands
use Rattle.rvm_protocol.specs.Host.{is_there}
use Rattle.rvm_host.specs.Bounds.{CanBePosted, frame_bound}
use Rattle.rvm_host.specs.Hosts.{PlainHost, Steps, step_of}
use Rattle.rvm_host.specs.Modes.{plain_of, runs}
use Rattle.rvm_host.proofs.Moves.{host_stays}
use Rattle.rvm_host.proofs.Postings.{host_posts}
use Rattle.rvm_host.proofs.Settling.{begin_steps, not_running, target_there}
use Rattle.rvm_host.proofs.Refused.{begin_not_refused}
use Rattle.rvm_host.proofs.Targets.{on_err}
use Rattle.rvm_message.specs.Replies.{is_refused_outright}
use Rattle.rvm_host.proofs.host.Host.begin.Given.{Over}
use Rattle.rvm_host.proofs.host.Host.begin.Goals.{else-runs-via-then-runs+else-not-is_there, else-runs-via-else-runs}
use Rattle.rvm_host.proofs.host.Host.begin.Goals as goal

module _ (g : Over) (c : goal.After-addressed g) where
  abbrev before : PlainHost
  before =
      let f = c.self.inside in
      record { mode = plain_of f.mode; partner = f.partner; id = f.id; count = f.count; limit = f.limit; version = f.version }

  abbrev after : PlainHost
  after = record before { mode = plain_of c.begin.new.self; partner = c.partner_begun-self-inside.result }

  abbrev event : BoardHostEvent
  event = commands.Do (commands.Begin c.args.to (policy_of c.args.policy))

  steps : Steps before event (c.in_ok-reply.reply, c.addressed.result) after
  steps =
      let f = c.self.inside in
      let to = c.args.to in
      let policy = policy_of c.args.policy in
      let partner = c.partner_begun-self-inside.result in
      let answer : HostReply × Option Frame = (c.in_ok-reply.reply, c.in_ok-reply.frame) in
      let clear : (runs (plain_of f.mode) && not (is_there f.id f.count to)) ≡ false =
      elim c.else-runs.branch [
        | else-runs-via-then-runs+else-not-is_there w ↦
            target_there (runs (plain_of f.mode)) (is_there f.id f.count to)
            (sym (w.if-not-is_there.ensures ∙ ap (λ (h : PlainHost). is_there h.id h.count to) (sym c.self.view_is)))
        | else-runs-via-else-runs w ↦ not_running (runs (plain_of f.mode)) (not (is_there f.id f.count to)) (sym w.if-runs.ensures)
      ] in
      begin_steps before after to policy answer c.addressed.result (plain_of c.begin.new.self) partner clear (c.in_ok-reply.ensures.answer f.version)
      (c.partner_begun-self-inside.ensures policy) c.addressed.ensures.made refl

pub returns-clause-steps : goal.returns-clause-steps
returns-clause-steps g c =
    subst (λ (h : PlainHost). Steps h (event g c) (c.in_ok-reply.reply, c.addressed.result) (after g c)) c.self.view_is (steps g c)

pub returns-clause-sent : goal.returns-clause-sent
returns-clause-sent g c =
    subst (λ (h : PlainHost). CanBePosted h (frame_bound h (event g c)) c.addressed.result) c.self.view_is
    (host_posts (before g c) c.self.invariant (after g c) (event g c) (c.in_ok-reply.reply, c.addressed.result) c.partner_begun-self-inside.result c.in_ok-reply.frame (steps g c) c.addressed.ensures.frame
    (omega arith) (c.in_ok-reply.ensures.sent c.self.inside.version))

pub invariant_of-self-2 : goal.invariant_of-self-2
invariant_of-self-2 g c =
    host_stays (before g c) c.self.invariant (after g c) (event g c) (c.in_ok-reply.reply, c.addressed.result) (steps g c)

pub returns-in_err-reply-clause-refused : goal.returns-in_err-reply-clause-refused
returns-in_err-reply-clause-refused g c =
    let f = c.self.inside in
    let to = c.args.to in
    let policy = policy_of c.args.policy in
    let e = commands.Do (commands.Begin to policy) in
    let before : PlainHost = record { mode = plain_of f.mode; partner = f.partner; id = f.id; count = f.count; limit = f.limit; version = f.version } in
    let clear : (runs (plain_of f.mode) && not (is_there f.id f.count to)) ≡ false =
    elim c.else-runs.branch [
      | else-runs-via-then-runs+else-not-is_there w ↦
          target_there (runs (plain_of f.mode)) (is_there f.id f.count to)
          (sym (w.if-not-is_there.ensures ∙ ap (λ (h : PlainHost). is_there h.id h.count to) (sym c.self.view_is)))
      | else-runs-via-else-runs w ↦ not_running (runs (plain_of f.mode)) (not (is_there f.id f.count to)) (sym w.if-runs.ensures)
    ] in
    on_err c.from_residual.result (is_refused_outright (step_of c.args.self.now e).reply ≡ false)
    (subst (λ (h : PlainHost). is_refused_outright (step_of h e).reply ≡ false) c.self.view_is
    (begin_not_refused before to policy clear c.in_err-reply.ensures.refused))
