use Rattle.rvm_station.specs.Asked.{AreAllOf}
use Rattle.rvm_station.specs.Console.{IsInput}
use Rattle.rvm_station.proofs.host_harts.type_in.Given as goal

abbrev pub invariant-loop-byte : goal.invariant-loop-byte
invariant-loop-byte g l = AreAllOf IsInput g.L.Hosting.gave (g.A.Access.asked l.fn.access) (g.A.Access.asked l.access)
