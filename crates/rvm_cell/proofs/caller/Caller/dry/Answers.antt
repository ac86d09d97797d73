use Rattle.std.proofs.Common.{◌≡◌, ◌∙◌, ◌++◌, ◌∷◌, [], ap, sym, subst}
use Rattle.rvm_recorder.specs.Runs.{all_of}
use Rattle.rvm_message.specs.Exchanges.{dry_exchange}
use Rattle.rvm_cell.specs.Work.{IsWork}
use Rattle.rvm_cell.proofs.Works.{work_call}
use Rattle.rvm_cell.proofs.caller.Caller.dry.Goals as goal

pub invariant_of-self-in-Some : goal.invariant_of-self-in-Some
invariant_of-self-in-Some g c =
    let old = c.self.inside in
    let r = c.in-Some.receipt in
    let added : all_of c.push_receipt.new.all.items ≡ all_of old.receipts.items ++ r ∷ [] =
    c.push_receipt.ensures ∙ ap (λ xs. all_of xs ++ r ∷ []) c.reserve.ensures.items in
    subst (IsWork old.first.value c.call_dry.new.seat) (sym added)
    (work_call old.first.value old.seat c.call_dry.new.seat (dry_exchange c.args.bytes).event (all_of old.receipts.items) r c.self.invariant c.in-Some.ensures.receipt c.in-Some.ensures.seat)
