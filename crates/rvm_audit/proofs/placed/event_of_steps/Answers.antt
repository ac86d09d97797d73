use Rattle.std.proofs.Common.{◌∙◌, sym, Some}
use Rattle.rvm_board.specs.declared.event.BoardEvent.TheVariants.{Step}
use Rattle.rvm_message.specs.declared.event.Command.TheVariants.{Board}
use Rattle.rvm_core.specs.declared.event.Event.TheVariants.{At}
use Rattle.rvm_audit.proofs.Commands.{step_stands, steps_end}
use Rattle.rvm_audit.proofs.placed.event_of_steps.Goals as goal

pub returns-then-skipped-steps-clause-event : goal.returns-then-skipped-steps-clause-event
returns-then-skipped-steps-clause-event c =
    let s = c.args.steps.now in steps_end c.args.host s.turn s.harts s.count c.args.skipped c.if-skipped-steps.true

pub returns-clause-event : goal.returns-clause-event
returns-clause-event c =
    let s = c.args.steps.now in
    (λ i. Some (At c.args.host (Board (Step (c.hart_behind.ensures i)))))
    ∙ sym (step_stands c.args.host s.turn s.harts s.count c.args.skipped c.if-skipped-steps.false)
