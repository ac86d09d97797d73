use Rattle.rvm_station.proofs.Asked.{one_given}
use Rattle.rvm_message.specs.declared.event.HostEvent.TheVariants.{Do}
use Rattle.rvm_station.proofs.station.Station.obey.Goals as goal

pub note_command-requires : goal.note_command-requires
note_command-requires g c =
    one_given g.L.Hosting.gave (g.A.Access.asked c.args.access.now) (g.A.Access.asked c.obey.new.self) (Do c.args.command.now)
    c.in_ok-reply.reply c.in_ok-reply.ensures.asked

pub returns-clause-gave : goal.returns-clause-gave
returns-clause-gave g c =
    one_given g.L.Hosting.gave (g.A.Access.asked c.args.access.now) (g.A.Access.asked c.obey.new.self) (Do c.args.command.now)
    c.in_ok-reply.reply c.in_ok-reply.ensures.asked
