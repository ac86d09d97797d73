use Rattle.std.proofs.Common.{◌∙◌, ◌+◌, ap, sym}
use Rattle.rvm_recorder.specs.Receipts.{PlainReceipt}
use Rattle.rvm_recorder.proofs.RoundsTold.{round_receipts}
use Rattle.rvm_recorder.proofs.items.round_of.Goals as goal

pub returns : goal.returns
returns c =
    let s = c.args.steps.now in
    let r = c.args.receipt.now in
    round_receipts s.place s.seat s.count s.steps.turn s.steps.harts s.steps.count c.args.drain r
    (ap (λ (x : PlainReceipt). x.place) (sym c.receipt.view_is) ∙ c.if-branch.false ∙ c.in_ok-checked_add.ensures.1)
    (ap (λ (x : PlainReceipt). x.seat) (sym c.receipt.view_is) ∙ c.if-receipt-steps.false)
    (ap (λ (x : PlainReceipt). x.count) (sym c.receipt.view_is) ∙ c.if-branch-2.false ∙ c.in_ok-checked_add-2.ensures.1 ∙ ap (λ n. s.count + n) c.from.ensures)
    c.requires
