use Rattle.std.proofs.Common.{◌≡◌, ℕ, false, sym, subst, IfOk, ◌∙◌}
use Rattle.std.specs.Prelude.{OnErr}
use Rattle.rvm_guest.specs.TheGuest.{board}
use Rattle.rvm_message.specs.Answers.{Answers}
use Rattle.rvm_message.specs.Replies.{is_refused_outright}
use Rattle.rvm_precopy.specs.Policies.{policy_of}
use Rattle.rvm_protocol.specs.Obeying as obeying
use Rattle.rvm_host.specs.declared.mode.Mode.{Mode}
use Rattle.rvm_host.specs.Modes.{mode_of, plain_of}
use Rattle.rvm_host.proofs.mode.Mode.begin.Goals as goal

pub returns-in-Run-clause-answer : goal.returns-in-Run-clause-answer
returns-in-Run-clause-answer g c =
    subst (λ (m : Mode g.row.M.Denot). IfOk c.begin_run.result (λ a. (version : ℕ) → Answers version (obeying.begin board (policy_of c.args.policy) (mode_of (plain_of m))) a (mode_of (plain_of c.begin_run.new.self))))
    (sym c.in-Run.is ∙ c.take.ensures) c.begin_run.ensures.answer

pub returns-in-Run-clause-refused : goal.returns-in-Run-clause-refused
returns-in-Run-clause-refused g c =
    subst (λ (m : Mode g.row.M.Denot). OnErr c.begin_run.result (is_refused_outright (obeying.begin board (policy_of c.args.policy) (mode_of (plain_of m))).reply ≡ false))
    (sym c.in-Run.is ∙ c.take.ensures) c.begin_run.ensures.refused
