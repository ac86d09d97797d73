use Rattle.rvm_message.specs.declared.event.HostEvent.TheVariants.{Came}
use Rattle.rvm_message.specs.Events.{event_of}
use Rattle.rvm_station.proofs.Events.{made_in}
use Rattle.rvm_station.proofs.Logged.{one_kept}
use Rattle.rvm_station.proofs.reached.Reached.came.Goals as goal

pub handed_out-requires : goal.handed_out-requires
handed_out-requires g c =
    made_in g.L.Opening.opening c.self.inside.host c.came.new.self (event_of (Came c.args.from c.args.frame.now))
    c.in_ok-reply.reply c.in_ok-reply.made c.self.invariant.reached c.in_ok-reply.ensures.steps

pub invariant_of-self-2 : goal.invariant_of-self-2
invariant_of-self-2 g c =
    one_kept g.L.Opening.opening c.self.inside.host c.came.new.self (g.J.EventLog.kept c.self.inside.log)
    (g.J.EventLog.kept c.came-2.new.self) (Came c.args.from c.args.frame.now) (c.in_ok-reply.reply, c.in_ok-reply.made)
    c.self.invariant c.in_ok-reply.ensures.steps c.came-2.ensures
