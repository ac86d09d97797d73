use Rattle.rvm_station.specs.Console.{IsShown}
use Rattle.rvm_station.proofs.host_harts.harts_worker.Given as goal

abbrev pub invariant-loop-slice : goal.invariant-loop-slice
invariant-loop-slice g l =
    IsShown g.L.Hosting.gave (g.A.Access.asked l.fn.access) (g.A.Access.asked l.access)
    (g.O.Write.contents l.fn.output) (g.O.Write.contents l.output)
