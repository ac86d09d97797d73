use Rattle.std.proofs.Common.{subst}
use Rattle.std.specs.Prelude.{ℕ}
use Rattle.rvm_station.specs.Logs.{KeepsOn, steps_from}
use Rattle.rvm_station.proofs.Events.{last_given}
use Rattle.rvm_station.proofs.Logged.{turns_kept}
use Rattle.rvm_station.proofs.reached.Reached.retire.Goals as goal

pub returns-clause-given : goal.returns-clause-given
returns-clause-given g c =
    last_given g.L.Opening.opening c.args.harts c.args.turn c.args.count c.self.inside.host c.retire-retired.new.self
    c.retire-retired.result c.self.invariant.reached c.retire-retired.ensures

pub invariant_of-self : goal.invariant_of-self
invariant_of-self g c =
    turns_kept g.L.Opening.opening c.self.inside.host c.retire-retired.new.self (g.J.EventLog.kept c.self.inside.log)
    (g.J.EventLog.kept c.turns.new.self) c.args.harts c.args.turn c.args.count c.retire-retired.result c.self.invariant
    c.retire-retired.ensures
    (subst (λ (n : ℕ). KeepsOn (g.J.EventLog.kept c.self.inside.log) (g.J.EventLog.kept c.turns.new.self)
    (steps_from c.args.turn c.args.harts n)) c.made_in.ensures c.turns.ensures)
