use Rattle.std.proofs.Common.{sym, ap, ◌∙◌}
use Rattle.rvm_hart.specs.Machine.{HartState, machine}
use Rattle.rvm_hart.proofs.Made.{quiet_for}
use Rattle.rvm_hart.proofs.hart.Hart.quiet_steps.Goals as goal

pub returns-clause-quiet : goal.returns-clause-quiet
returns-clause-quiet g c =
    quiet_for c.steps_to_timer.result c.hart.result c.pending.result (machine c.args.self.now c.args.bus.now) c.pending.ensures
    (sym c.is_some.ensures ∙ c.if-is_some.false) (c.hart.ensures ∙ ap (λ (h : HartState). h.csrs.hart) c.self.view_is) c.steps_to_timer.ensures.time c.steps_to_timer.ensures.range
