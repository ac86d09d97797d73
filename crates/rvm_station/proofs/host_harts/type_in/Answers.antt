use Rattle.std.proofs.Common.{refl}
use Rattle.rvm_board.specs.declared.event.BoardEvent.TheVariants.{Input}
use Rattle.rvm_station.proofs.AllOf.{more_of}
use Rattle.rvm_station.specs.Console.{IsInput}
use Rattle.rvm_message.specs.declared.event.Command.TheVariants.{Board}
use Rattle.rvm_message.specs.declared.event.HostEvent.TheVariants.{Do}
use Rattle.rvm_station.proofs.host_harts.type_in.Goals as goal

pub returns-then-ne : goal.returns-then-ne
returns-then-ne g c =
    more_of IsInput g.L.Hosting.gave (g.A.Access.asked c.args.access.now) (g.A.Access.asked c.loop-byte.access)
    (g.A.Access.asked c.obey.new.access) (Do (Board (Input c.in-Some-first.byte))) c.in-Ok.reply c.loop-byte.invariant
    (c.in-Some-first.byte, refl) c.in-Ok.ensures.asked

pub loop-byte-preserved : goal.loop-byte-preserved
loop-byte-preserved g c =
    more_of IsInput g.L.Hosting.gave (g.A.Access.asked c.args.access.now) (g.A.Access.asked c.loop-byte.access)
    (g.A.Access.asked c.obey.new.access) (Do (Board (Input c.in-Some-first.byte))) c.in-Ok.reply c.loop-byte.invariant
    (c.in-Some-first.byte, refl) c.in-Ok.ensures.asked
