use Rattle.std.proofs.Common.{◌≡◌, ◌∙◌, ◌+◌, [], ◌∷◌, ◌++◌, ap, sym, arith}
use Rattle.std.proofs.lemmas.List.{append_assoc, append-nil}
use Rattle.rvm_recorder.specs.Entries.{silent}
use Rattle.rvm_recorder.specs.Items.{all_of, last_of, step_entry, steps_in_turn}
use Rattle.rvm_recorder.proofs.StepRuns.{all_push, no_steps}
use Rattle.rvm_recorder.proofs.recorded.push_run.Goals as goal
use Rattle.rvm_recorder.proofs.recorded.push_run.Goals.{then-steps-gt0, else-steps-gt0}
use Rattle.rvm_message.specs.Exchanges.{step_of_hart}
use Rattle.rvm_message.specs.Steps.{reply_to_step}

pub returns-in-Some-clause-items : goal.returns-in-Some-clause-items
returns-in-Some-clause-items c =
    let s = c.args.steps in
    let old = all_of c.args.items.now.items in
    let steps = steps_in_turn s.turn s.harts s.count in
    let first : all_of c.if-steps-gt0.items.items ≡ old ++ steps =
    (elim c.if-steps-gt0.branch [
      | then-steps-gt0 w ↦ ap (λ v. all_of v.items) w.items-is ∙ w.push_steps.ensures.items
      | else-steps-gt0 w ↦
          let none : s.count ≡ 0 = omega (arith, w.if-steps-gt0.false) in
          ap (λ v. all_of v.items) w.items-is ∙ sym (append-nil old)
          ∙ ap (λ xs. old ++ xs) (sym (no_steps s.turn s.harts)) ∙ ap (λ n. old ++ steps_in_turn s.turn s.harts n) (sym none)
    ]) in
    let one : c.of_entry.result ≡ step_entry (s.turn + s.count) s.harts c.in-Some.reply ∷ [] =
    c.of_entry.ensures ∙ ap (λ x. x ∷ []) (c.of_step.ensures ∙ ap (λ h. silent (step_of_hart h) (reply_to_step c.in-Some.reply)) c.hart_behind-hart.ensures) in
    ap all_of c.push_reserved.ensures.items ∙ all_push c.if-steps-gt0.items.items c.of_entry.result
    ∙ ap (λ xs. xs ++ c.of_entry.result) first ∙ ap (λ xs. (old ++ steps) ++ xs) one
    ∙ append_assoc old steps (step_entry (s.turn + s.count) s.harts c.in-Some.reply ∷ [])
    ∙ ap (λ o. old ++ (steps ++ last_of (s.turn + s.count) s.harts o)) (sym c.in-Some.is)

pub returns-in_default-clause-items : goal.returns-in_default-clause-items
returns-in_default-clause-items c =
    let s = c.args.steps in
    let old = all_of c.args.items.now.items in
    let steps = steps_in_turn s.turn s.harts s.count in
    let first : all_of c.if-steps-gt0.items.items ≡ old ++ steps =
    (elim c.if-steps-gt0.branch [
      | then-steps-gt0 w ↦ ap (λ v. all_of v.items) w.items-is ∙ w.push_steps.ensures.items
      | else-steps-gt0 w ↦
          let none : s.count ≡ 0 = omega (arith, w.if-steps-gt0.false) in
          ap (λ v. all_of v.items) w.items-is ∙ sym (append-nil old)
          ∙ ap (λ xs. old ++ xs) (sym (no_steps s.turn s.harts)) ∙ ap (λ n. old ++ steps_in_turn s.turn s.harts n) (sym none)
    ]) in
    first ∙ ap (λ xs. old ++ xs) (sym (append-nil steps)) ∙ ap (λ o. old ++ (steps ++ last_of (s.turn + s.count) s.harts o)) (sym c.in_default.is)
