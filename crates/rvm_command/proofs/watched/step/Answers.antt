use Rattle.std.proofs.Common.{◌≡◌, ap, sym, ◌∙◌}
use Rattle.rvm_mem.specs.Pages.{mark_all}
use Rattle.rvm_board.specs.declared.event.BoardEvent.TheVariants.{Step}
use Rattle.rvm_board.specs.Events.{Answered, answered, steps}
use Rattle.rvm_command.proofs.Runs.{there_steps}
use Rattle.rvm_command.proofs.Watching.{step_count, step_made}
use Rattle.rvm_command.proofs.watched.step.Goals as goal

pub returns-clause-step : goal.returns-clause-step
returns-clause-step g c =
    let same : steps c.args.hart c.args.guest.now.guest ≡ answered (Step c.args.hart) c.args.guest.now.guest = sym (there_steps c.args.hart c.args.guest.now.guest c.requires) in
    step_made c.args.hart c.args.guest.now c.step.new.self (c.step.ensures.guest ∙ ap (λ (a : Answered). a.guest) same) (c.step.ensures.dirty ∙ ap (λ (a : Answered). mark_all a.pages c.args.guest.now.dirty) same)

pub returns-clause-guest : goal.returns-clause-guest
returns-clause-guest g c = c.step.ensures.guest ∙ ap (λ (a : Answered). a.guest) (sym (there_steps c.args.hart c.args.guest.now.guest c.requires))

pub returns-clause-harts : goal.returns-clause-harts
returns-clause-harts g c =
    step_count c.args.hart c.args.guest.now c.step.new.self c.requires (c.step.ensures.guest ∙ ap (λ (a : Answered). a.guest) (sym (there_steps c.args.hart c.args.guest.now.guest c.requires)))

pub returns-clause-reply : goal.returns-clause-reply
returns-clause-reply g c = c.step.ensures.answer ∙ ap (λ (a : Answered). a.reply) (sym (there_steps c.args.hart c.args.guest.now.guest c.requires))
