use Rattle.std.proofs.Common.{ℕ, nat_lt, length, ap, ◌≡◌, ◌<◌, ◌-◌, ◌%◌, drop, refl, subst, arith}
use Rattle.rvm_board.specs.Guest.{GuestState}
use Rattle.rvm_board.specs.Turns.{TakesTurns}
use Rattle.rvm_board.specs.WhileFull.{turns_while}
use Rattle.rvm_command.specs.Slices.{takes_none}
use Rattle.rvm_command.proofs.Runs.{computed_from, idle, none_left, slice_from, some_made, unmoved}
use Rattle.rvm_board.proofs.Waiting.{while_within}
use Rattle.rvm_command.proofs.run.make_turns.Goals as goal

-- turns that compute
pub returns-then-made-gt0-clause-run : goal.returns-then-made-gt0-clause-run
returns-then-made-gt0-clause-run g c =
    let is_more = nat_lt c.feed-next.result (length c.args.input.now) in
    let rest = drop c.feed-next.result c.args.input.now in
    let some : 0 < c.compute-made.result = omega (arith, c.if-made-gt0.true) in
    computed_from (c.args.steps - c.args.turn) c.args.turn (c.args.turn % c.harts.result) c.compute-made.result is_more (drop c.args.next c.args.input.now) rest c.args.guest.now c.feed-next.new.guest c.compute-made.new.guest
    some (omega (arith, c.compute-made.ensures.made, c.ahead.ensures)) (ap (λ k. c.args.turn % k) c.harts.ensures.count)
    c.feed-next.ensures.fed c.feed-next.ensures.left (none_left c.feed-next.result c.args.input.now) (c.compute-made.ensures.input some) (c.compute-made.ensures.output some) c.compute-made.ensures.computes

-- turns up to the next drain
pub returns-clause-run : goal.returns-clause-run
returns-clause-run g c =
    let is_more = nat_lt c.feed-next.result (length c.args.input.now) in
    let rest = drop c.feed-next.result c.args.input.now in
    let hart : ℕ = c.args.turn % c.harts.result in
    let same : c.compute-made.new.guest ≡ c.feed-next.new.guest =
    unmoved (length c.feed-next.new.guest.guest.board.harts) c.compute-made.result hart c.feed-next.new.guest c.compute-made.new.guest (omega (arith, c.if-made-gt0.false)) c.compute-made.ensures.computes in
    slice_from (takes_none is_more) c.min-count.result (c.args.steps - c.args.turn) c.args.turn hart c.take_turns-turns.result.made (drop c.args.next c.args.input.now) rest c.status_of.result c.args.guest.now c.feed-next.new.guest c.take_turns-turns.new.guest c.take_turns-turns.result
    (omega arith) (omega arith) (omega arith) (omega arith) (ap (λ k. c.args.turn % k) c.harts.ensures.count)
    c.feed-next.ensures.fed c.feed-next.ensures.left (idle is_more rest (none_left c.feed-next.result c.args.input.now))
    (subst (λ (x : GuestState). TakesTurns (turns_while (takes_none is_more) c.min-count.result hart x.guest) x c.take_turns-turns.new.guest c.take_turns-turns.result) same c.take_turns-turns.ensures)
    refl c.status_of.ensures

pub returns-clause-some : goal.returns-clause-some
returns-clause-some g c =
    omega (arith, c.take_turns-turns.ensures.made, some_made (takes_none (nat_lt c.feed-next.result (length c.args.input.now))) c.min-count.result (c.args.turn % c.harts.result) c.compute-made.new.guest.guest (omega arith))

pub returns-clause-within : goal.returns-clause-within
returns-clause-within g c =
    omega (arith, c.take_turns-turns.ensures.made, while_within (takes_none (nat_lt c.feed-next.result (length c.args.input.now))) c.min-count.result (c.args.turn % c.harts.result) c.compute-made.new.guest.guest)
