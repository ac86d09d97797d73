use Rattle.std.proofs.Common.{◌≡◌, ◌∙◌, ◌++◌, ap, subst, sym}
use Rattle.rvm_recorder.specs.Runs.{all_of}
use Rattle.rvm_recorder.specs.Seats.{PlainSeat}
use Rattle.rvm_cell.specs.Work.{AreSliceSteps, IsSliceCall, IsWork, PlainCaller}
use Rattle.rvm_cell.proofs.Works.{work_slice}
use Rattle.rvm_cell.proofs.caller.Caller.slice.Goals as goal

pub invariant_of-self-2 : goal.invariant_of-self-2
invariant_of-self-2 g c =
    let old = c.self.inside in
    let more = all_of c.in_ok-receipts.receipts.items in
    let said = c.in_ok-receipts.ensures in
    let added : all_of c.append-room.new.all.items ≡ all_of old.receipts.items ++ more =
    c.append-room.ensures ∙ ap (λ xs. all_of xs ++ more) c.reserve.ensures.items in
    subst (λ (s : PlainSeat). IsWork old.first.value s (all_of c.append-room.new.all.items)) (sym c.give_back.ensures)
    (subst (IsWork old.first.value c.call_slice.new.seat) (sym added)
    (work_slice old.first.value old.seat c.call_slice.new.seat c.args.turn c.args.harts (all_of old.receipts.items) more
    c.self.invariant said.receipts said.seat))

pub returns-clause-slice : goal.returns-clause-slice
returns-clause-slice g c =
    let old = c.self.inside in
    let more = all_of c.in_ok-receipts.receipts.items in
    let said = c.in_ok-receipts.ensures in
    let added : all_of c.append-room.new.all.items ≡ all_of old.receipts.items ++ more =
    c.append-room.ensures ∙ ap (λ xs. all_of xs ++ more) c.reserve.ensures.items in
    let told : AreSliceSteps (all_of c.as_slice.result.now) c.steps_of-steps.result =
    record { count = c.steps_of-steps.ensures.count; last = c.steps_of-steps.ensures.last } in
    subst (λ (v : PlainCaller). IsSliceCall v.seat g.L.Seating.capacity c.args.turn c.args.harts c.args.n v.receipts
    c.give_back.new.self (all_of c.append-room.new.all.items) c.steps_of-steps.result) c.self.view_is (record {
      receipts = more;
      of_seat = said.receipts;
      whole = said.whole;
      told = subst (λ l. AreSliceSteps (all_of l) c.steps_of-steps.result) c.as_slice.ensures.value told;
      added = added;
      counted = c.give_back.ensures ∙ said.seat;
    })
