use Rattle.rvm_recorder.specs.declared.items.ReceiptItem.TheVariants as item
use Rattle.rvm_recorder.specs.Runs.{receipts_of}
use Rattle.rvm_recorder.proofs.RoundsTold.{both_in, joined_in}
use Rattle.rvm_recorder.proofs.items.push_rounds.Goals as goal

pub returns-in-Some-joined_with : goal.returns-in-Some-joined_with
returns-in-Some-joined_with c =
    joined_in c.args.all.now.items c.pop.new.self.items c.push_reserved-in-Some-joined_with.new.self.items c.in-Some.last
    (item.Rounds c.in-Some-joined_with.joined) (receipts_of (item.Rounds c.args.rounds)) c.in-Some.ensures.items
    c.push_reserved-in-Some-joined_with.ensures.items c.in-Some-joined_with.ensures

pub returns-in-None : goal.returns-in-None
returns-in-None c =
    both_in c.args.all.now.items c.pop.new.self.items c.push_reserved-in-None.new.self.items c.push_reserved-in-None-2.new.self.items
    c.in-Some.last (item.Rounds c.args.rounds) c.in-Some.ensures.items c.push_reserved-in-None.ensures.items c.push_reserved-in-None-2.ensures.items
