use Rattle.std.proofs.Common.{◌∷◌, []}
use Rattle.rvm_recorder.specs.declared.items.ReceiptItem.TheVariants as item
use Rattle.rvm_recorder.specs.Runs.{all_of}
use Rattle.rvm_recorder.proofs.RoundsTold.{both_in, rounded_in}
use Rattle.rvm_recorder.proofs.items.push_receipt.Goals as goal

pub returns-in-Some-with_drain : goal.returns-in-Some-with_drain
returns-in-Some-with_drain c =
    rounded_in c.args.all.now.items c.pop.new.self.items (all_of c.push_rounds.new.all.items) c.in-Some.last (item.Rounds c.in-Some-with_drain.rounds)
    (c.args.receipt ∷ []) c.in-Some.ensures.items c.push_rounds.ensures c.in-Some-with_drain.ensures

pub returns-in-None : goal.returns-in-None
returns-in-None c =
    both_in c.args.all.now.items c.pop.new.self.items c.push_reserved-in-None.new.self.items c.push_reserved-in-None-2.new.self.items
    c.in-Some.last (item.One c.args.receipt) c.in-Some.ensures.items c.push_reserved-in-None.ensures.items c.push_reserved-in-None-2.ensures.items
