use Rattle.std.proofs.Common.{sym, ap, ◌∙◌, arith}
use Rattle.rvm_mem.specs.Pages.{mark_all}
use Rattle.rvm_hart.specs.Machine.{machine}
use Rattle.rvm_hart.specs.Step.{After}
use Rattle.rvm_hart.proofs.Made.{step_next}
use Rattle.rvm_hart.proofs.hart.Hart.step_with.Goals as goal

pub returns-clause-machine : goal.returns-clause-machine
returns-clause-machine g c =
    c.execute_word.ensures.left ∙ ap (λ (a : After). a.machine) (sym (step_next c.args.word (machine c.args.self.now c.args.bus.now) (omega (arith, c.if-word-eq0.false)) c.requires.next))

pub returns-clause-dirty : goal.returns-clause-dirty
returns-clause-dirty g c =
    c.execute_word.ensures.dirty ∙ ap (λ (a : After). mark_all a.pages c.args.bus.now.dirty) (sym (step_next c.args.word (machine c.args.self.now c.args.bus.now) (omega (arith, c.if-word-eq0.false)) c.requires.next))

pub returns-clause-answer : goal.returns-clause-answer
returns-clause-answer g c =
    c.execute_word.ensures.answer ∙ ap (λ (a : After). a.answer) (sym (step_next c.args.word (machine c.args.self.now c.args.bus.now) (omega (arith, c.if-word-eq0.false)) c.requires.next))
