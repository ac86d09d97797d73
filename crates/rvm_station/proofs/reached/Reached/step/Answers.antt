use Rattle.std.proofs.Common.{ℕ, ◌%◌, None, subst}
use Rattle.rvm_host.specs.Hosts.{Steps}
use Rattle.rvm_message.specs.Events.{event_of}
use Rattle.rvm_message.specs.Exchanges.{step_of_hart}
use Rattle.rvm_message.specs.Steps.{reply_to_step}
use Rattle.rvm_station.proofs.Logged.{turn_kept}
use Rattle.rvm_station.proofs.reached.Reached.step.Goals as goal

pub invariant_of-self : goal.invariant_of-self
invariant_of-self g c =
    turn_kept g.L.Opening.opening c.self.inside.host c.step-reply.new.self (g.J.EventLog.kept c.self.inside.log)
    (g.J.EventLog.kept c.turns.new.self) c.args.turn c.args.harts (reply_to_step c.step-reply.result) c.self.invariant
    (subst (λ (n : ℕ). Steps c.self.inside.host (event_of (step_of_hart (c.args.turn % n))) (reply_to_step c.step-reply.result, None)
    c.step-reply.new.self) c.from.ensures c.step-reply.ensures)
    c.turns.ensures
