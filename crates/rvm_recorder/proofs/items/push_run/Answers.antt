use Rattle.std.proofs.Common.{◌≡◌, ◌∙◌, ◌+◌, ◌++◌, ◌∷◌, [], ap, sym, arith}
use Rattle.std.proofs.lemmas.List.{append_assoc, append-nil}
use Rattle.rvm_recorder.specs.declared.items.ReceiptItem.TheVariants as item
use Rattle.rvm_recorder.specs.Runs.{all_of, last_receipt, step_receipt, steps_receipts}
use Rattle.rvm_recorder.proofs.Runs.{all_push, none_retired}
use Rattle.rvm_recorder.proofs.items.push_run.Goals as goal
use Rattle.rvm_recorder.proofs.items.push_run.Goals.{then-retired-gt0, else-retired-gt0}

pub returns-in-Some-clause-receipts : goal.returns-in-Some-clause-receipts
returns-in-Some-clause-receipts c =
    let a = c.args in
    let n = a.run.retired in
    let old = all_of a.receipts.now.items in
    let steps = steps_receipts a.place a.seat a.count a.turn a.harts n in
    let first : all_of c.if-retired-gt0.receipts.items ≡ old ++ steps =
    (elim c.if-retired-gt0.branch [
      | then-retired-gt0 w ↦ ap (λ v. all_of v.items) w.receipts-is ∙ ap all_of w.push_reserved.ensures.items ∙ all_push a.receipts.now.items _
      | else-retired-gt0 w ↦
          let none : n ≡ 0 = omega (arith, w.if-retired-gt0.false) in
          ap (λ v. all_of v.items) w.receipts-is ∙ sym (append-nil old)
          ∙ ap (λ xs. old ++ xs) (sym (none_retired a.place a.seat a.count a.turn a.harts))
          ∙ ap (λ k. old ++ steps_receipts a.place a.seat a.count a.turn a.harts k) (sym none)
    ]) in
    let r = c.in-Some.reply in
    let one : c.receipt_of_step.result ≡ step_receipt (a.place + n) a.seat (a.count + n) (a.turn + n) a.harts r =
    c.receipt_of_step.ensures ∙ (λ i. step_receipt (a.place + n) a.seat (a.count + c.from.ensures i) (a.turn + c.from-in-Some.ensures i) a.harts r) in
    ap all_of c.push_reserved-in-Some.ensures.items ∙ all_push c.if-retired-gt0.receipts.items (item.One c.receipt_of_step.result)
    ∙ ap (λ xs. xs ++ c.receipt_of_step.result ∷ []) first ∙ ap (λ x. (old ++ steps) ++ x ∷ []) one
    ∙ append_assoc old steps (step_receipt (a.place + n) a.seat (a.count + n) (a.turn + n) a.harts r ∷ [])
    ∙ ap (λ o. old ++ (steps ++ last_receipt (a.place + n) a.seat (a.count + n) (a.turn + n) a.harts o)) (sym c.in-Some.is)

pub returns-in_default-clause-receipts : goal.returns-in_default-clause-receipts
returns-in_default-clause-receipts c =
    let a = c.args in
    let n = a.run.retired in
    let old = all_of a.receipts.now.items in
    let steps = steps_receipts a.place a.seat a.count a.turn a.harts n in
    let first : all_of c.if-retired-gt0.receipts.items ≡ old ++ steps =
    (elim c.if-retired-gt0.branch [
      | then-retired-gt0 w ↦ ap (λ v. all_of v.items) w.receipts-is ∙ ap all_of w.push_reserved.ensures.items ∙ all_push a.receipts.now.items _
      | else-retired-gt0 w ↦
          let none : n ≡ 0 = omega (arith, w.if-retired-gt0.false) in
          ap (λ v. all_of v.items) w.receipts-is ∙ sym (append-nil old)
          ∙ ap (λ xs. old ++ xs) (sym (none_retired a.place a.seat a.count a.turn a.harts))
          ∙ ap (λ k. old ++ steps_receipts a.place a.seat a.count a.turn a.harts k) (sym none)
    ]) in
    first ∙ ap (λ xs. old ++ xs) (sym (append-nil steps))
    ∙ ap (λ o. old ++ (steps ++ last_receipt (a.place + n) a.seat (a.count + n) (a.turn + n) a.harts o)) (sym c.in_default.is)
