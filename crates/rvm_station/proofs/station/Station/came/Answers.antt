use Rattle.rvm_station.proofs.Asked.{one_given}
use Rattle.rvm_message.specs.declared.event.HostEvent.TheVariants.{Came}
use Rattle.rvm_station.proofs.station.Station.came.Goals as goal

pub note_frame-requires : goal.note_frame-requires
note_frame-requires g c = (
  c.args.from,
  one_given g.L.Hosting.gave (g.A.Access.asked c.args.access.now) (g.A.Access.asked c.came.new.self) (Came c.args.from c.args.frame.now)
      c.in_ok-reply.reply c.in_ok-reply.ensures.asked,
)
