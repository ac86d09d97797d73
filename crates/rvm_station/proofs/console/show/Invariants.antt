use Rattle.rvm_station.specs.Console.{IsShown}
use Rattle.rvm_station.proofs.console.show.Given as goal

abbrev pub invariant-loop-drain : goal.invariant-loop-drain
invariant-loop-drain g l =
    IsShown g.L.Hosting.gave (g.A.Access.asked l.fn.access) (g.A.Access.asked l.access)
    (g.O.Write.contents l.fn.output) (g.O.Write.contents l.output)
