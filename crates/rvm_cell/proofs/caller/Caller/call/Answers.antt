use Rattle.std.proofs.Common.{◌≡◌, ◌∙◌, ◌++◌, ◌∷◌, [], ap, sym, subst}
use Rattle.rvm_recorder.specs.Runs.{all_of}
use Rattle.rvm_cell.specs.Work.{IsCall, IsWork, PlainCaller}
use Rattle.rvm_cell.proofs.Works.{work_call}
use Rattle.rvm_cell.proofs.caller.Caller.call.Goals as goal

pub invariant_of-self-in-Ok : goal.invariant_of-self-in-Ok
invariant_of-self-in-Ok g c =
    let old = c.self.inside in
    let r = c.in-Ok.receipt in
    let added : all_of c.push_receipt.new.all.items ≡ all_of old.receipts.items ++ r ∷ [] =
    c.push_receipt.ensures ∙ ap (λ xs. all_of xs ++ r ∷ []) c.reserve.ensures.items in
    subst (IsWork old.first.value c.call.new.seat) (sym added)
    (work_call old.first.value old.seat c.call.new.seat c.args.event (all_of old.receipts.items) r c.self.invariant c.in-Ok.ensures.receipt c.in-Ok.ensures.seat)

pub returns-in-Ok-clause-call : goal.returns-in-Ok-clause-call
returns-in-Ok-clause-call g c =
    let old = c.self.inside in
    let r = c.in-Ok.receipt in
    let added : all_of c.push_receipt.new.all.items ≡ all_of old.receipts.items ++ r ∷ [] =
    c.push_receipt.ensures ∙ ap (λ xs. all_of xs ++ r ∷ []) c.reserve.ensures.items in
    subst (λ (v : PlainCaller). IsCall v.seat c.args.event v.receipts c.call.new.seat (all_of c.push_receipt.new.all.items) c.reply-reply.result)
    c.self.view_is (record {
      receipt = r;
      of_event = c.in-Ok.ensures.receipt;
      answered = sym c.reply-reply.ensures;
      added = added;
      counted = c.in-Ok.ensures.seat;
    })
