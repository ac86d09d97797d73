use Rattle.std.proofs.Common.{◌≡◌, sym, subst}
use Rattle.rvm_host.specs.Bounds.{frame_bound}
use Rattle.rvm_frame.specs.declared.frame.Frame.{Frame}
use Rattle.rvm_message.specs.Events.{event_of}
use Rattle.rvm_message.specs.declared.event.HostEvent.{HostEvent}
use Rattle.rvm_message.specs.declared.event.HostEvent.TheVariants.{Came}
use Rattle.rvm_host.proofs.host.Host.frame_bound.Goals as goal

pub returns-in-Came : goal.returns-in-Came
returns-in-Came g c =
    let from = c.in-Came.field-0 in
    let is_bound : HostEvent → Type 0 = λ e. c.came_bound.result ≡ frame_bound c.args.self.now (event_of e) in
    subst is_bound (sym c.in-Came.is) (subst (λ (f : Frame). is_bound (Came from f)) c.get.ensures (c.came_bound.ensures from))
