use Rattle.std.proofs.Common.{ℕ, ◌+◌, ◌%◌, ◌<◌, ◌++◌, length, drop, ap, subst, ◌∙◌, refl, arith}
use Rattle.rvm_board.specs.Events.{step_reply}
use Rattle.rvm_board.specs.Guest.{GuestState}
use Rattle.rvm_command.specs.Buffered.{GoesOut}
use Rattle.rvm_command.specs.Order.{drawn}
use Rattle.rvm_command.specs.Run.{IsAfter, IsPartWay, after, run_by}
use Rattle.rvm_command.specs.Turns.{between}
use Rattle.rvm_command.specs.Watched.{BreaksOff, run_with, turns_of}
use Rattle.rvm_command.proofs.Runs.{on_err}
use Rattle.rvm_command.proofs.Watching.{TurnMade, drain_failed, line_failed, none_of, none_turned, not_none, run_broken, run_closed, run_counted, turn_there, turned_more, unended}
use Rattle.rvm_command.proofs.watched.run_watched.Goals.{then-loop-turn-test+else-is_none, else-loop-turn-test}
use Rattle.rvm_command.proofs.watched.run_watched.Goals as goal

pub loop-turn-init : goal.loop-turn-init
loop-turn-init g c =
    record {
      next = omega arith;
      turn = omega arith;
      sized = refl;
      turned = rw c.new-buffer.ensures (none_turned c.args.asked.seed c.args.asked.stop_at_fault c.args.asked.traced c.args.input.now c.args.guest.now c.new-traps.result c.args.counts.now (g.W.Write.contents c.args.writer.now) (g.T.Write.contents c.args.trace.now) c.new-traps.ensures c.requires);
    }

pub pc-pc-requires : goal.pc-pc-requires
pc-pc-requires g c =
    turn_there c.hart_of-hart.result c.harts.result (drop c.loop-turn.next c.args.input.now) c.loop-turn.guest c.feed-next.new.guest c.harts.ensures.count c.hart_of-hart.ensures.below c.feed-next.ensures.fed

pub take_step-requires : goal.take_step-requires
take_step-requires g c =
    turn_there c.hart_of-hart.result c.harts.result (drop c.loop-turn.next c.args.input.now) c.loop-turn.guest c.feed-next.new.guest c.harts.ensures.count c.hart_of-hart.ensures.below c.feed-next.ensures.fed

pub note-shown-requires : goal.note-shown-requires
note-shown-requires g c =
    let there = turn_there c.hart_of-hart.result c.harts.result (drop c.loop-turn.next c.args.input.now) c.loop-turn.guest c.feed-next.new.guest c.harts.ensures.count c.hart_of-hart.ensures.below c.feed-next.ensures.fed in
    omega (arith, there, c.take_step.ensures.harts)

-- the line of a step could not be written
pub returns-in_err-stepped-clause-broken : goal.returns-in_err-stepped-clause-broken
returns-in_err-stepped-clause-broken g c =
    let none = none_of c.loop-turn.end c.is_none.result c.is_none.ensures c.if-is_none.true in
    let asked = c.args.asked in
    on_err c.from_residual.result
    (BreaksOff (run_with asked.seed asked.stop_at_fault asked.traced asked.steps c.args.input.now c.args.guest.now.guest) (run_by asked.seed (turns_of asked.seed asked.stop_at_fault asked.steps c.args.input.now c.args.guest.now.guest) 0 c.args.input.now c.args.guest.now.guest).events c.args.guest.now c.take_step.new.guest)
    (line_failed c.hart_of-hart.result asked.steps (drop c.feed-next.result c.args.input.now) c.feed-next.new.guest c.take_step.new.guest c.loop-turn-test.true (unended none c.loop-turn.invariant.turned)
    (c.hart_of-hart.ensures.drawn ∙ ap (λ k. drawn asked.seed c.loop-turn.turn % k) c.harts.ensures.count) c.feed-next.ensures.fed c.feed-next.ensures.left c.in_err-stepped.ensures.step c.in_err-stepped.ensures.err)

pub loop-turn-preserved : goal.loop-turn-preserved
loop-turn-preserved g c =
    let none = none_of c.loop-turn.end c.is_none.result c.is_none.ensures c.if-is_none.true in
    let asked = c.args.asked in
    let hart : ℕ = c.hart_of-hart.result in
    let left = drop c.feed-next.result c.args.input.now in
    let this : TurnMade asked.seed asked.stop_at_fault c.loop-turn.turn hart (drop c.loop-turn.next c.args.input.now) left c.loop-turn.guest c.feed-next.new.guest c.take_step.new.guest c.reply_of-reply.result c.note-shown.result c.end_of-end.result =
    record {
      hart = c.hart_of-hart.ensures.drawn ∙ ap (λ k. drawn asked.seed c.loop-turn.turn % k) c.harts.ensures.count;
      offered = c.feed-next.ensures.fed;
      fewer = c.feed-next.ensures.left;
      made = c.in_ok-stepped.ensures.step;
      said = c.reply_of-reply.ensures ∙ ap (λ k. step_reply k c.in_ok-stepped.stepped) c.pc-pc.ensures ∙ c.in_ok-stepped.ensures.reply;
      ends = c.end_of-end.ensures;
    } in
    let below : hart < 8 = omega (arith, c.hart_of-hart.ensures.below, c.harts.ensures.bound) in
    let end = c.end_of-end.result in
    let turns = c.loop-turn.turn + 1 in
    record {
      next = c.feed-next.ensures.within;
      turn = omega (arith, c.loop-turn-test.true);
      sized = c.note.ensures.count ∙ c.loop-turn.invariant.sized;
      turned = turned_more c.drain_between.new.guest below (omega (arith, c.loop-turn-test.true)) (unended none c.loop-turn.invariant.turned) this c.note.ensures.noted c.pc-pc.ensures c.note-shown.ensures.shown c.note-shown.ensures.noted c.in_ok-stepped.ensures.line
          (subst (λ (x : GuestState). IsAfter (between end turns x.guest) x c.drain_between.new.guest) c.note-shown.ensures.guest c.in_ok-drain_between.ensures.guest)
          (subst (λ (x : GuestState). GoesOut (after (between end turns x.guest) x.guest).bytes c.loop-turn.buffer c.drain_between.new.buffer (g.W.Write.contents c.loop-turn.writer) (g.W.Write.contents c.drain_between.new.writer)) c.note-shown.ensures.guest c.in_ok-drain_between.ensures.written);
    }

-- what the guest sent could not be written after a turn
pub returns-in_err-drain_between-clause-broken : goal.returns-in_err-drain_between-clause-broken
returns-in_err-drain_between-clause-broken g c =
    let none = none_of c.loop-turn.end c.is_none.result c.is_none.ensures c.if-is_none.true in
    let asked = c.args.asked in
    let hart : ℕ = c.hart_of-hart.result in
    let left = drop c.feed-next.result c.args.input.now in
    let this : TurnMade asked.seed asked.stop_at_fault c.loop-turn.turn hart (drop c.loop-turn.next c.args.input.now) left c.loop-turn.guest c.feed-next.new.guest c.take_step.new.guest c.reply_of-reply.result c.note-shown.result c.end_of-end.result =
    record {
      hart = c.hart_of-hart.ensures.drawn ∙ ap (λ k. drawn asked.seed c.loop-turn.turn % k) c.harts.ensures.count;
      offered = c.feed-next.ensures.fed;
      fewer = c.feed-next.ensures.left;
      made = c.in_ok-stepped.ensures.step;
      said = c.reply_of-reply.ensures ∙ ap (λ k. step_reply k c.in_ok-stepped.stepped) c.pc-pc.ensures ∙ c.in_ok-stepped.ensures.reply;
      ends = c.end_of-end.ensures;
    } in
    let end = c.end_of-end.result in
    let turns = c.loop-turn.turn + 1 in
    on_err c.from_residual-in_err-drain_between.result
    (BreaksOff (run_with asked.seed asked.stop_at_fault asked.traced asked.steps c.args.input.now c.args.guest.now.guest) (run_by asked.seed (turns_of asked.seed asked.stop_at_fault asked.steps c.args.input.now c.args.guest.now.guest) 0 c.args.input.now c.args.guest.now.guest).events c.args.guest.now c.drain_between.new.guest)
    (drain_failed asked.steps c.drain_between.new.guest c.loop-turn-test.true (unended none c.loop-turn.invariant.turned) this
    (subst (λ (x : GuestState). IsPartWay (between end turns x.guest) x c.drain_between.new.guest) c.note-shown.ensures.guest c.in_err-drain_between.ensures.part)
    (subst (λ (x : GuestState). 0 < length (c.loop-turn.buffer ++ (after (between end turns x.guest) x.guest).bytes)) c.note-shown.ensures.guest c.in_err-drain_between.ensures.err))

-- what the guest sent could not be written at the end
pub returns-in_err-drain-clause-broken : goal.returns-in_err-drain-clause-broken
returns-in_err-drain-clause-broken g c =
    let asked = c.args.asked in
    on_err c.from_residual-in_err-drain.result
    (BreaksOff (run_with asked.seed asked.stop_at_fault asked.traced asked.steps c.args.input.now c.args.guest.now.guest) (run_by asked.seed (turns_of asked.seed asked.stop_at_fault asked.steps c.args.input.now c.args.guest.now.guest) 0 c.args.input.now c.args.guest.now.guest).events c.args.guest.now c.drain.new.guest)
    (run_broken asked.steps c.loop-turn.end c.loop-turn.invariant.turn
    (elim c.loop-turn-test.branch [ then-loop-turn-test+else-is_none w ↦ (λ none. absurd (not_none c.loop-turn.end w.is_none.result w.is_none.ensures w.if-is_none.false none)) | else-loop-turn-test w ↦ (λ none. omega (arith, w.loop-turn-test.false)) ])
    c.loop-turn.invariant.turned c.in_err-drain.ensures.part c.in_err-drain.ensures.err)

pub returns-clause-counted : goal.returns-clause-counted
returns-clause-counted g c =
    run_counted c.args.asked.steps c.loop-turn.end c.loop-turn.invariant.turn
    (elim c.loop-turn-test.branch [ then-loop-turn-test+else-is_none w ↦ (λ none. absurd (not_none c.loop-turn.end w.is_none.result w.is_none.ensures w.if-is_none.false none)) | else-loop-turn-test w ↦ (λ none. omega (arith, w.loop-turn-test.false)) ])
    c.loop-turn.invariant.turned

pub returns-clause-run : goal.returns-clause-run
returns-clause-run g c =
    let asked = c.args.asked in
    rw c.unwrap_or.ensures
    (run_closed asked.steps c.loop-turn.end (g.W.Write.contents c.drain.new.writer) c.loop-turn.invariant.turn
    (elim c.loop-turn-test.branch [ then-loop-turn-test+else-is_none w ↦ (λ none. absurd (not_none c.loop-turn.end w.is_none.result w.is_none.ensures w.if-is_none.false none)) | else-loop-turn-test w ↦ (λ none. omega (arith, w.loop-turn-test.false)) ])
    c.loop-turn.invariant.turned c.in_ok-drain.ensures.guest c.in_ok-drain.ensures.written (c.in_ok-drain.ensures.empty refl))
