use Rattle.std.proofs.Common.{Option, ◌∙◌, ap, sym, refl, subst}
use Rattle.rvm_frame.specs.declared.frame.Frame.{Frame}
use Rattle.rvm_guest.specs.TheGuest.{board}
use Rattle.rvm_message.specs.Events.{BoardHostEvent}
use Rattle.rvm_message.specs.Frames.{frame_heard}
use Rattle.rvm_message.specs.declared.reply.HostReply.{HostReply}
use Rattle.rvm_protocol.specs.Commands as commands
use Rattle.rvm_protocol.specs.Frames.{plain}
use Rattle.rvm_protocol.specs.Host.{is_heard}
use Rattle.rvm_host.specs.Bounds.{CanBePosted, frame_bound}
use Rattle.rvm_host.specs.Hosts.{PlainHost, Steps, host_of}
use Rattle.rvm_host.specs.Modes.{plain_of}
use Rattle.rvm_host.proofs.Moves.{host_stays}
use Rattle.rvm_host.proofs.Postings.{came_short, host_posts}
use Rattle.rvm_host.proofs.Settling.{came_steps}
use Rattle.rvm_host.proofs.host.Host.came.Given.{Over}
use Rattle.rvm_host.proofs.host.Host.came.Goals as goal

module _ (g : Over) (c : goal.After-addressed g) where
  abbrev before : PlainHost
  before =
      let f = c.self.inside in
      record { mode = plain_of f.mode; partner = f.partner; id = f.id; count = f.count; limit = f.limit; version = f.version }

  abbrev after : PlainHost
  after = record before { mode = plain_of c.came.new.self; partner = c.partner_accepted-self-inside.result }

  abbrev event : BoardHostEvent
  event = commands.Came c.args.from (frame_heard c.args.frame.now)

  steps : Steps before event (c.in_ok-reply.reply, c.addressed.result) after
  steps =
      let frame = frame_heard c.args.frame.now in
      let answer : HostReply × Option Frame = (c.in_ok-reply.reply, c.in_ok-reply.made) in
      let heard = c.if-not-hears.ensures ∙ ap (λ (h : PlainHost). is_heard h.id h.count c.args.from (plain board frame) (host_of h)) (sym c.self.view_is) in
      came_steps before c.args.from frame after answer c.addressed.result (plain_of c.came.new.self) c.partner_accepted-self-inside.result heard
      (c.in_ok-reply.ensures.answer c.self.inside.version) (c.partner_accepted-self-inside.ensures frame) c.addressed.ensures.made refl

pub returns-clause-steps : goal.returns-clause-steps
returns-clause-steps g c =
    subst (λ (h : PlainHost). Steps h (event g c) (c.in_ok-reply.reply, c.addressed.result) (after g c)) c.self.view_is (steps g c)

pub returns-clause-sent : goal.returns-clause-sent
returns-clause-sent g c =
    subst (λ (h : PlainHost). CanBePosted h (frame_bound h (event g c)) c.addressed.result) c.self.view_is
    (host_posts (before g c) c.self.invariant (after g c) (event g c) (c.in_ok-reply.reply, c.addressed.result) c.args.from c.in_ok-reply.made (steps g c) c.addressed.ensures.frame
    (came_short (frame_heard c.args.frame.now)) (c.in_ok-reply.ensures.sent c.self.inside.version))

pub invariant_of-self-2 : goal.invariant_of-self-2
invariant_of-self-2 g c =
    host_stays (before g c) c.self.invariant (after g c) (event g c) (c.in_ok-reply.reply, c.addressed.result) (steps g c)
