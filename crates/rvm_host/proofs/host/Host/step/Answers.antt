use Rattle.std.proofs.Common.{Option, None, refl, subst}
use Rattle.rvm_frame.specs.declared.frame.Frame.{Frame}
use Rattle.rvm_message.specs.Events.{BoardHostEvent, event_of}
use Rattle.rvm_message.specs.Exchanges.{step_of_hart}
use Rattle.rvm_message.specs.Steps.{reply_to_step}
use Rattle.rvm_message.specs.declared.reply.HostReply.{HostReply}
use Rattle.rvm_host.specs.Hosts.{PlainHost, Steps}
use Rattle.rvm_host.specs.Modes.{plain_of}
use Rattle.rvm_host.proofs.Moves.{host_stays}
use Rattle.rvm_host.proofs.Settling.{settle}
use Rattle.rvm_host.proofs.host.Host.step.Given.{Over}
use Rattle.rvm_host.proofs.host.Host.step.Goals as goal

module _ (g : Over) (c : goal.After-step g) where
  abbrev before : PlainHost
  before =
      let f = c.self.inside in
      record { mode = plain_of f.mode; partner = f.partner; id = f.id; count = f.count; limit = f.limit; version = f.version }

  abbrev after : PlainHost
  after = record before { mode = plain_of c.step.new.self }

  abbrev event : BoardHostEvent
  event = event_of (step_of_hart c.args.hart)

  abbrev answer : HostReply × Option Frame
  answer = (reply_to_step c.step.result, None)

  steps : Steps before event (reply_to_step c.step.result, None) after
  steps =
      settle before after event answer None (plain_of c.step.new.self) before.partner
      (c.step.ensures before.version) refl refl refl

pub returns : goal.returns
returns g c =
    subst (λ (h : PlainHost). Steps h (event g c) (reply_to_step c.step.result, None) (after g c)) c.self.view_is (steps g c)

pub invariant_of-self : goal.invariant_of-self
invariant_of-self g c =
    host_stays (before g c) c.self.invariant (after g c) (event g c) (reply_to_step c.step.result, None) (steps g c)
