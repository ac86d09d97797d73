use Rattle.std.proofs.Common.{[], ◌≡◌, ℕ, ◌+◌, ◌-◌, ◌<◌, length, drop, ap, sym, ◌∙◌, refl, arith}
use Rattle.rvm_command.specs.declared.run.Ended.TheVariants as ended
use Rattle.rvm_command.specs.Run.{IsPartWay, Run, after, drains, run_from}
use Rattle.rvm_command.specs.Slices.{rest_of_run}
use Rattle.rvm_command.proofs.Runs.{begins, broken_off, drained_rest, finished, goes_on, halted_rest, last_drains, on_err, quiet_rest, slice_behind, slice_ended, spent_run}
use Rattle.rvm_command.proofs.run.run.Goals as goal

pub loop-turn-init : goal.loop-turn-init
loop-turn-init g c =
    let same : c.args.steps - 0 ≡ c.args.steps = omega arith in
    record {
      next = omega arith;
      turn = omega arith;
      ended = ap (λ (n : ℕ). (run_from n 0 c.args.input.now c.args.guest.now.guest).ended) same;
      events = rw (same, c.new-buffer.ensures) (begins (run_from c.args.steps 0 c.args.input.now c.args.guest.now.guest).events c.args.guest.now [] (g.W.Write.contents c.args.writer.now));
    }

pub returns-in_err-drain-clause-err : goal.returns-in_err-drain-clause-err
returns-in_err-drain-clause-err g c =
    let so_far = slice_behind c.make_turns-slice.ensures.run c.loop-turn.invariant.events in
    let last = halted_rest c.in-Some.status (c.args.steps - c.loop-turn.turn - c.make_turns-slice.result.made) (c.loop-turn.turn + c.make_turns-slice.result.made) (drop c.make_turns-slice.result.next c.args.input.now) c.make_turns-slice.new.guest.guest c.make_turns-slice.result.status c.in-Some.is in
    on_err c.from_residual.result (0 < length (after (run_from c.args.steps 0 c.args.input.now c.args.guest.now.guest).events c.args.guest.now.guest).bytes) (broken_off (record { events = []; ended = ended.HaltedWith c.in-Some.status }) so_far (last_drains c.make_turns-slice.new.guest.guest (ended.HaltedWith c.in-Some.status) _ last) c.in_err-drain.ensures.part c.in_err-drain.ensures.err).some

pub returns-in_err-drain-clause-part : goal.returns-in_err-drain-clause-part
returns-in_err-drain-clause-part g c =
    let so_far = slice_behind c.make_turns-slice.ensures.run c.loop-turn.invariant.events in
    let last = halted_rest c.in-Some.status (c.args.steps - c.loop-turn.turn - c.make_turns-slice.result.made) (c.loop-turn.turn + c.make_turns-slice.result.made) (drop c.make_turns-slice.result.next c.args.input.now) c.make_turns-slice.new.guest.guest c.make_turns-slice.result.status c.in-Some.is in
    on_err c.from_residual.result (IsPartWay (run_from c.args.steps 0 c.args.input.now c.args.guest.now.guest).events c.args.guest.now c.drain.new.guest) (broken_off (record { events = []; ended = ended.HaltedWith c.in-Some.status }) so_far (last_drains c.make_turns-slice.new.guest.guest (ended.HaltedWith c.in-Some.status) _ last) c.in_err-drain.ensures.part c.in_err-drain.ensures.err).part

pub returns-in-Some-clause-written : goal.returns-in-Some-clause-written
returns-in-Some-clause-written g c =
    let so_far = slice_behind c.make_turns-slice.ensures.run c.loop-turn.invariant.events in
    let ended = slice_ended (run_from c.args.steps 0 c.args.input.now c.args.guest.now.guest).ended c.make_turns-slice.ensures.run c.loop-turn.invariant.ended in
    let last = halted_rest c.in-Some.status (c.args.steps - c.loop-turn.turn - c.make_turns-slice.result.made) (c.loop-turn.turn + c.make_turns-slice.result.made) (drop c.make_turns-slice.result.next c.args.input.now) c.make_turns-slice.new.guest.guest c.make_turns-slice.result.status c.in-Some.is in
    (finished (run_from c.args.steps 0 c.args.input.now c.args.guest.now.guest).ended (g.W.Write.contents c.drain.new.writer) so_far ended last c.in_ok-drain.ensures.guest c.in_ok-drain.ensures.written (c.in_ok-drain.ensures.empty refl)).text

pub returns-in-Some-clause-guest : goal.returns-in-Some-clause-guest
returns-in-Some-clause-guest g c =
    let so_far = slice_behind c.make_turns-slice.ensures.run c.loop-turn.invariant.events in
    let ended = slice_ended (run_from c.args.steps 0 c.args.input.now c.args.guest.now.guest).ended c.make_turns-slice.ensures.run c.loop-turn.invariant.ended in
    let last = halted_rest c.in-Some.status (c.args.steps - c.loop-turn.turn - c.make_turns-slice.result.made) (c.loop-turn.turn + c.make_turns-slice.result.made) (drop c.make_turns-slice.result.next c.args.input.now) c.make_turns-slice.new.guest.guest c.make_turns-slice.result.status c.in-Some.is in
    (finished (run_from c.args.steps 0 c.args.input.now c.args.guest.now.guest).ended (g.W.Write.contents c.drain.new.writer) so_far ended last c.in_ok-drain.ensures.guest c.in_ok-drain.ensures.written (c.in_ok-drain.ensures.empty refl)).made.guest

pub returns-in-Some-clause-dirty : goal.returns-in-Some-clause-dirty
returns-in-Some-clause-dirty g c =
    let so_far = slice_behind c.make_turns-slice.ensures.run c.loop-turn.invariant.events in
    let ended = slice_ended (run_from c.args.steps 0 c.args.input.now c.args.guest.now.guest).ended c.make_turns-slice.ensures.run c.loop-turn.invariant.ended in
    let last = halted_rest c.in-Some.status (c.args.steps - c.loop-turn.turn - c.make_turns-slice.result.made) (c.loop-turn.turn + c.make_turns-slice.result.made) (drop c.make_turns-slice.result.next c.args.input.now) c.make_turns-slice.new.guest.guest c.make_turns-slice.result.status c.in-Some.is in
    (finished (run_from c.args.steps 0 c.args.input.now c.args.guest.now.guest).ended (g.W.Write.contents c.drain.new.writer) so_far ended last c.in_ok-drain.ensures.guest c.in_ok-drain.ensures.written (c.in_ok-drain.ensures.empty refl)).made.dirty

pub returns-in-Some-clause-ended : goal.returns-in-Some-clause-ended
returns-in-Some-clause-ended g c =
    let so_far = slice_behind c.make_turns-slice.ensures.run c.loop-turn.invariant.events in
    let ended = slice_ended (run_from c.args.steps 0 c.args.input.now c.args.guest.now.guest).ended c.make_turns-slice.ensures.run c.loop-turn.invariant.ended in
    let last = halted_rest c.in-Some.status (c.args.steps - c.loop-turn.turn - c.make_turns-slice.result.made) (c.loop-turn.turn + c.make_turns-slice.result.made) (drop c.make_turns-slice.result.next c.args.input.now) c.make_turns-slice.new.guest.guest c.make_turns-slice.result.status c.in-Some.is in
    (finished (run_from c.args.steps 0 c.args.input.now c.args.guest.now.guest).ended (g.W.Write.contents c.drain.new.writer) so_far ended last c.in_ok-drain.ensures.guest c.in_ok-drain.ensures.written (c.in_ok-drain.ensures.empty refl)).ended

pub loop-turn-preserved-in-Continue-branch-2 : goal.loop-turn-preserved-in-Continue-branch-2
loop-turn-preserved-in-Continue-branch-2 g c =
    let so_far = slice_behind c.make_turns-slice.ensures.run c.loop-turn.invariant.events in
    let ended = slice_ended (run_from c.args.steps 0 c.args.input.now c.args.guest.now.guest).ended c.make_turns-slice.ensures.run c.loop-turn.invariant.ended in
    let next = drained_rest (c.args.steps - c.loop-turn.turn - c.make_turns-slice.result.made) (c.args.steps - (c.loop-turn.turn + c.make_turns-slice.result.made)) (c.loop-turn.turn + c.make_turns-slice.result.made) (drop c.make_turns-slice.result.next c.args.input.now) c.make_turns-slice.new.guest.guest c.drain-then-turn-eq0.new.guest.guest c.make_turns-slice.result.status c.in_default.is (omega arith) (omega arith) c.in_ok-drain-2.ensures.guest.guest in
    record {
      next = c.make_turns-slice.ensures.next;
      turn = c.make_turns-slice.ensures.within;
      ended = sym (ap (λ (r : Run). r.ended) next) ∙ ended;
      events = goes_on (rest_of_run c.make_turns-slice.result.status (c.args.steps - c.loop-turn.turn - c.make_turns-slice.result.made) (c.loop-turn.turn + c.make_turns-slice.result.made) (drop c.make_turns-slice.result.next c.args.input.now) c.make_turns-slice.new.guest.guest).events (run_from (c.args.steps - (c.loop-turn.turn + c.make_turns-slice.result.made)) (c.loop-turn.turn + c.make_turns-slice.result.made) (drop c.make_turns-slice.result.next c.args.input.now) c.drain-then-turn-eq0.new.guest.guest).events (drains c.make_turns-slice.new.guest.guest) c.make_turns-slice.new.guest c.drain-then-turn-eq0.new.guest c.loop-turn.buffer c.drain-then-turn-eq0.new.buffer (g.W.Write.contents c.loop-turn.writer) (g.W.Write.contents c.drain-then-turn-eq0.new.writer) so_far (ap (λ (r : Run). r.events) next) c.in_ok-drain-2.ensures.guest c.in_ok-drain-2.ensures.written;
    }

pub returns-in_err-drain-2-clause-err : goal.returns-in_err-drain-2-clause-err
returns-in_err-drain-2-clause-err g c =
    let so_far = slice_behind c.make_turns-slice.ensures.run c.loop-turn.invariant.events in
    let next = drained_rest (c.args.steps - c.loop-turn.turn - c.make_turns-slice.result.made) (c.args.steps - (c.loop-turn.turn + c.make_turns-slice.result.made)) (c.loop-turn.turn + c.make_turns-slice.result.made) (drop c.make_turns-slice.result.next c.args.input.now) c.make_turns-slice.new.guest.guest (after (drains c.make_turns-slice.new.guest.guest) c.make_turns-slice.new.guest.guest).guest c.make_turns-slice.result.status c.in_default.is (omega arith) (omega arith) refl in
    on_err c.from_residual-in_err-drain-2.result (0 < length (after (run_from c.args.steps 0 c.args.input.now c.args.guest.now.guest).events c.args.guest.now.guest).bytes) (broken_off (run_from (c.args.steps - (c.loop-turn.turn + c.make_turns-slice.result.made)) (c.loop-turn.turn + c.make_turns-slice.result.made) (drop c.make_turns-slice.result.next c.args.input.now) (after (drains c.make_turns-slice.new.guest.guest) c.make_turns-slice.new.guest.guest).guest) so_far next c.in_err-drain-2.ensures.part c.in_err-drain-2.ensures.err).some

pub returns-in_err-drain-2-clause-part : goal.returns-in_err-drain-2-clause-part
returns-in_err-drain-2-clause-part g c =
    let so_far = slice_behind c.make_turns-slice.ensures.run c.loop-turn.invariant.events in
    let next = drained_rest (c.args.steps - c.loop-turn.turn - c.make_turns-slice.result.made) (c.args.steps - (c.loop-turn.turn + c.make_turns-slice.result.made)) (c.loop-turn.turn + c.make_turns-slice.result.made) (drop c.make_turns-slice.result.next c.args.input.now) c.make_turns-slice.new.guest.guest (after (drains c.make_turns-slice.new.guest.guest) c.make_turns-slice.new.guest.guest).guest c.make_turns-slice.result.status c.in_default.is (omega arith) (omega arith) refl in
    on_err c.from_residual-in_err-drain-2.result (IsPartWay (run_from c.args.steps 0 c.args.input.now c.args.guest.now.guest).events c.args.guest.now c.drain-then-turn-eq0.new.guest) (broken_off (run_from (c.args.steps - (c.loop-turn.turn + c.make_turns-slice.result.made)) (c.loop-turn.turn + c.make_turns-slice.result.made) (drop c.make_turns-slice.result.next c.args.input.now) (after (drains c.make_turns-slice.new.guest.guest) c.make_turns-slice.new.guest.guest).guest) so_far next c.in_err-drain-2.ensures.part c.in_err-drain-2.ensures.err).part

pub loop-turn-preserved : goal.loop-turn-preserved
loop-turn-preserved g c =
    let so_far = slice_behind c.make_turns-slice.ensures.run c.loop-turn.invariant.events in
    let ended = slice_ended (run_from c.args.steps 0 c.args.input.now c.args.guest.now.guest).ended c.make_turns-slice.ensures.run c.loop-turn.invariant.ended in
    let next = quiet_rest (c.args.steps - c.loop-turn.turn - c.make_turns-slice.result.made) (c.args.steps - (c.loop-turn.turn + c.make_turns-slice.result.made)) (c.loop-turn.turn + c.make_turns-slice.result.made) (drop c.make_turns-slice.result.next c.args.input.now) c.make_turns-slice.new.guest.guest c.make_turns-slice.result.status c.in_default.is (grind arith) (omega arith) in
    record {
      next = c.make_turns-slice.ensures.next;
      turn = c.make_turns-slice.ensures.within;
      ended = sym (ap (λ (r : Run). r.ended) next) ∙ ended;
      events = rw (← next) so_far;
    }

pub returns-in_err-drain-3-clause-err : goal.returns-in_err-drain-3-clause-err
returns-in_err-drain-3-clause-err g c =
    let last = spent_run (c.args.steps - c.loop-turn.turn) c.loop-turn.turn (drop c.loop-turn.next c.args.input.now) c.loop-turn.guest.guest (omega arith) in
    let so_far = c.loop-turn.invariant.events in
    on_err c.from_residual-in_err-drain-3.result (0 < length (after (run_from c.args.steps 0 c.args.input.now c.args.guest.now.guest).events c.args.guest.now.guest).bytes) (broken_off (record { events = []; ended = ended.StepsSpent }) so_far (last_drains c.loop-turn.guest.guest ended.StepsSpent _ last) c.in_err-drain-3.ensures.part c.in_err-drain-3.ensures.err).some

pub returns-in_err-drain-3-clause-part : goal.returns-in_err-drain-3-clause-part
returns-in_err-drain-3-clause-part g c =
    let last = spent_run (c.args.steps - c.loop-turn.turn) c.loop-turn.turn (drop c.loop-turn.next c.args.input.now) c.loop-turn.guest.guest (omega arith) in
    let so_far = c.loop-turn.invariant.events in
    on_err c.from_residual-in_err-drain-3.result (IsPartWay (run_from c.args.steps 0 c.args.input.now c.args.guest.now.guest).events c.args.guest.now c.drain-2.new.guest) (broken_off (record { events = []; ended = ended.StepsSpent }) so_far (last_drains c.loop-turn.guest.guest ended.StepsSpent _ last) c.in_err-drain-3.ensures.part c.in_err-drain-3.ensures.err).part

pub returns-clause-written : goal.returns-clause-written
returns-clause-written g c =
    let last = spent_run (c.args.steps - c.loop-turn.turn) c.loop-turn.turn (drop c.loop-turn.next c.args.input.now) c.loop-turn.guest.guest (omega arith) in
    let so_far = c.loop-turn.invariant.events in
    let ended = c.loop-turn.invariant.ended in
    (finished (run_from c.args.steps 0 c.args.input.now c.args.guest.now.guest).ended (g.W.Write.contents c.drain-2.new.writer) so_far ended last c.in_ok-drain-3.ensures.guest c.in_ok-drain-3.ensures.written (c.in_ok-drain-3.ensures.empty refl)).text

pub returns-clause-guest : goal.returns-clause-guest
returns-clause-guest g c =
    let last = spent_run (c.args.steps - c.loop-turn.turn) c.loop-turn.turn (drop c.loop-turn.next c.args.input.now) c.loop-turn.guest.guest (omega arith) in
    let so_far = c.loop-turn.invariant.events in
    let ended = c.loop-turn.invariant.ended in
    (finished (run_from c.args.steps 0 c.args.input.now c.args.guest.now.guest).ended (g.W.Write.contents c.drain-2.new.writer) so_far ended last c.in_ok-drain-3.ensures.guest c.in_ok-drain-3.ensures.written (c.in_ok-drain-3.ensures.empty refl)).made.guest

pub returns-clause-dirty : goal.returns-clause-dirty
returns-clause-dirty g c =
    let last = spent_run (c.args.steps - c.loop-turn.turn) c.loop-turn.turn (drop c.loop-turn.next c.args.input.now) c.loop-turn.guest.guest (omega arith) in
    let so_far = c.loop-turn.invariant.events in
    let ended = c.loop-turn.invariant.ended in
    (finished (run_from c.args.steps 0 c.args.input.now c.args.guest.now.guest).ended (g.W.Write.contents c.drain-2.new.writer) so_far ended last c.in_ok-drain-3.ensures.guest c.in_ok-drain-3.ensures.written (c.in_ok-drain-3.ensures.empty refl)).made.dirty

pub returns-clause-ended : goal.returns-clause-ended
returns-clause-ended g c =
    let last = spent_run (c.args.steps - c.loop-turn.turn) c.loop-turn.turn (drop c.loop-turn.next c.args.input.now) c.loop-turn.guest.guest (omega arith) in
    let so_far = c.loop-turn.invariant.events in
    let ended = c.loop-turn.invariant.ended in
    (finished (run_from c.args.steps 0 c.args.input.now c.args.guest.now.guest).ended (g.W.Write.contents c.drain-2.new.writer) so_far ended last c.in_ok-drain-3.ensures.guest c.in_ok-drain-3.ensures.written (c.in_ok-drain-3.ensures.empty refl)).ended
