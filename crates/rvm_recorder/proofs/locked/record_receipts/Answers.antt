use Rattle.std.proofs.Common.{rules, ◌+◌, ◌∙◌, ap, length, sym, subst, arith}
use Rattle.rvm_recorder.specs.Runs.{all_of}
use Rattle.rvm_recorder.specs.Seats.{seat_of}
use Rattle.rvm_recorder.proofs.Slicing.{AreSoFar, ended_so_far, many_more, more_so_far, none_so_far, receipts_more}
use Rattle.rvm_recorder.proofs.locked.record_receipts.Goals as goal

pub loop-made-init : goal.loop-made-init
loop-made-init g c =
    let a = c.args in
    let none = c.requires.room.0 in
    record {
      so_far = subst (λ l. AreSoFar a.recorded.now (seat_of a.seat a.count) a.turn a.harts 0 (all_of l) a.recorded.now) (sym none)
          (none_so_far a.recorded.now (seat_of a.seat a.count) a.turn a.harts);
      few = omega arith;
      len = omega (arith, ap length none);
      room = c.requires.room.1;
    }

pub loop-made-preserved : goal.loop-made-preserved
loop-made-preserved g c =
    let a = c.args in
    let so = c.loop-made.invariant in
    let made = c.loop-made.made in
    let run = c.record_run-run in
    let rs = all_of c.push_run.new.receipts.items in
    let many = c.count-made.ensures in
    record {
      so_far = subst (λ k. AreSoFar a.recorded.now (seat_of a.seat a.count) a.turn a.harts k rs run.new.self)
          (ap (λ k. made + k) (sym many))
          (more_so_far a.recorded.now c.loop-made.recorded run.new.self (seat_of a.seat a.count) a.turn a.harts made
          (c.count-place.result + made) _ _ (all_of c.loop-made.receipts.items) rs run.result so.so_far
          (omega (arith, c.count-place.ensures.count)) (omega arith) (omega arith) run.ensures.recorded
          c.push_run.ensures.receipts (sym c.ends_steps.ensures ∙ search rules));
      few = omega (arith, run.ensures.few, c.loop-made-test.true, many);
      len = omega (arith, so.len, c.push_run.ensures.few, many);
      room = omega (arith, so.room, c.push_run.ensures.capacity);
    }

pub returns-then-ends_steps-clause-steps : goal.returns-then-ends_steps-clause-steps
returns-then-ends_steps-clause-steps g c =
    let a = c.args in
    let made = c.loop-made.made in
    let run = c.record_run-run in
    ended_so_far a.recorded.now c.loop-made.recorded run.new.self (seat_of a.seat a.count) a.turn a.harts made
    (c.count-place.result + made) _ _ (all_of c.loop-made.receipts.items) (all_of c.push_run.new.receipts.items) run.result
    c.loop-made.invariant.so_far (omega (arith, c.count-place.ensures.count)) (omega arith) (omega arith) run.ensures.recorded
    c.push_run.ensures.receipts a.most (sym c.ends_steps.ensures ∙ search rules)
    (omega (arith, run.ensures.few, c.loop-made-test.true))

pub returns-then-ends_steps-clause-receipts : goal.returns-then-ends_steps-clause-receipts
returns-then-ends_steps-clause-receipts g c =
    let a = c.args in
    let made = c.loop-made.made in
    let run = c.record_run-run in
    receipts_more a.recorded.now c.loop-made.recorded run.new.self (seat_of a.seat a.count) a.turn a.harts made
    (c.count-place.result + made) _ _ (all_of c.loop-made.receipts.items) (all_of c.push_run.new.receipts.items) run.result
    c.loop-made.invariant.so_far (omega (arith, c.count-place.ensures.count)) (omega arith) (omega arith) run.ensures.recorded
    c.push_run.ensures.receipts

pub returns-then-ends_steps-clause-count : goal.returns-then-ends_steps-clause-count
returns-then-ends_steps-clause-count g c =
    let a = c.args in
    let made = c.loop-made.made in
    let run = c.record_run-run in
    ap (λ k. made + k) c.count-made.ensures
    ∙ sym (many_more a.recorded.now c.loop-made.recorded run.new.self (seat_of a.seat a.count) a.turn a.harts made
    (c.count-place.result + made) _ _ (all_of c.loop-made.receipts.items) (all_of c.push_run.new.receipts.items) run.result
    c.loop-made.invariant.so_far (omega (arith, c.count-place.ensures.count)) (omega arith) (omega arith) run.ensures.recorded
    c.push_run.ensures.receipts)
