use Rattle.rvm_station.proofs.Logged.{same_kept}
use Rattle.rvm_station.proofs.reached.Reached.finish.Goals as goal

pub invariant_of-self : goal.invariant_of-self
invariant_of-self g c =
    same_kept g.L.Opening.opening c.self.inside.host (g.J.EventLog.kept c.self.inside.log)
    (g.J.EventLog.kept c.finish.new.self) c.self.invariant c.finish.ensures
