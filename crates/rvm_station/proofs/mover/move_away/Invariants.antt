use Rattle.rvm_station.specs.Asked.{AreAllOf}
use Rattle.rvm_station.specs.Movers.{IsOfCopier}
use Rattle.rvm_station.proofs.mover.move_away.Given as goal

abbrev pub invariant-loop-step : goal.invariant-loop-step
invariant-loop-step g l =
    AreAllOf (IsOfCopier l.plan.to l.plan.policy) g.L.Hosting.gave (g.A.Access.asked l.fn.access) (g.A.Access.asked l.access)
