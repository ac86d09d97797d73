use Rattle.std.proofs.Common.{◌≡◌, ◌∙◌, Option, false, refl, subst}
use Rattle.rvm_frame.specs.declared.frame.Frame.{Frame}
use Rattle.rvm_message.specs.Events.{BoardHostEvent, command_of}
use Rattle.rvm_message.specs.declared.reply.HostReply.{HostReply}
use Rattle.rvm_protocol.specs.Commands as commands
use Rattle.rvm_host.specs.Bounds.{CanBePosted, IsShort, frame_bound}
use Rattle.rvm_host.specs.Hosts.{PlainHost, Steps, step_of}
use Rattle.rvm_host.specs.Modes.{plain_of}
use Rattle.rvm_host.proofs.Moves.{host_stays}
use Rattle.rvm_host.proofs.Postings.{host_posts}
use Rattle.rvm_host.proofs.Settling.{obey_steps}
use Rattle.rvm_host.proofs.Refused.{obey_refused}
use Rattle.rvm_host.proofs.Targets.{on_err}
use Rattle.rvm_message.specs.Replies.{is_refused_outright}
use Rattle.rvm_host.proofs.host.Host.obey.Given.{Over}
use Rattle.rvm_host.proofs.host.Host.obey.Goals as goal

module _ (g : Over) (c : goal.After-addressed g) where
  abbrev before : PlainHost
  before =
      let f = c.self.inside in
      record { mode = plain_of f.mode; partner = f.partner; id = f.id; count = f.count; limit = f.limit; version = f.version }

  abbrev after : PlainHost
  after = record before { mode = plain_of c.obey.new.self }

  abbrev event : BoardHostEvent
  event = commands.Do (command_of c.args.command.now)

  steps : Steps before event (c.in_ok-reply.reply, c.addressed.result) after
  steps =
      let answer : HostReply × Option Frame = (c.in_ok-reply.reply, c.in_ok-reply.frame) in
      obey_steps before after answer c.addressed.result (plain_of c.obey.new.self) c.addressed.ensures.made refl c.args.command.now c.in_default.not-Begin c.in_ok-reply.ensures.answer

pub returns : goal.returns
returns g c =
    record {
      steps = subst (λ (h : PlainHost). Steps h (event g c) (c.in_ok-reply.reply, c.addressed.result) (after g c)) c.self.view_is (steps g c);
      err = tt;
      memory = tt;
      refused = tt;
      sent = subst (λ (h : PlainHost). CanBePosted h (frame_bound h (event g c)) c.addressed.result) c.self.view_is
          (host_posts (before g c) c.self.invariant (after g c) (event g c) (c.in_ok-reply.reply, c.addressed.result) c.self.inside.partner c.in_ok-reply.frame (steps g c) c.addressed.ensures.frame
          (subst IsShort c.command_body-body.ensures.body c.command_body-body.ensures.short) c.in_ok-reply.ensures.sent);
    }

pub invariant_of-self-2 : goal.invariant_of-self-2
invariant_of-self-2 g c =
    host_stays (before g c) c.self.invariant (after g c) (event g c) (c.in_ok-reply.reply, c.addressed.result) (steps g c)

pub returns-in_err-reply-clause-refused : goal.returns-in_err-reply-clause-refused
returns-in_err-reply-clause-refused g c =
    let f = c.self.inside in
    let before : PlainHost = record { mode = plain_of f.mode; partner = f.partner; id = f.id; count = f.count; limit = f.limit; version = f.version } in
    let e = commands.Do (command_of c.args.command.now) in
    on_err c.from_residual.result (is_refused_outright (step_of c.args.self.now e).reply ≡ false)
    (subst (λ (h : PlainHost). is_refused_outright (step_of h e).reply ≡ false) c.self.view_is
    (obey_refused before c.args.command.now c.in_default.not-Begin ∙ c.in_err-reply.ensures.refused))
