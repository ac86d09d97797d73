use Rattle.rvm_message.specs.declared.event.HostEvent.TheVariants.{Do}
use Rattle.rvm_message.specs.Events.{event_of}
use Rattle.rvm_station.proofs.Events.{made_in}
use Rattle.rvm_station.proofs.Logged.{one_kept}
use Rattle.rvm_station.proofs.reached.Reached.obey.Goals as goal

pub handed_out-requires : goal.handed_out-requires
handed_out-requires g c =
    made_in g.L.Opening.opening c.self.inside.host c.obey.new.self (event_of (Do c.args.command.now)) c.in_ok-reply.reply
    c.in_ok-reply.frame c.self.invariant.reached c.in_ok-reply.ensures.steps

pub invariant_of-self-2 : goal.invariant_of-self-2
invariant_of-self-2 g c =
    one_kept g.L.Opening.opening c.self.inside.host c.obey.new.self (g.J.EventLog.kept c.self.inside.log)
    (g.J.EventLog.kept c.command.new.self) (Do c.args.command.now) (c.in_ok-reply.reply, c.in_ok-reply.frame)
    c.self.invariant c.in_ok-reply.ensures.steps c.command.ensures
