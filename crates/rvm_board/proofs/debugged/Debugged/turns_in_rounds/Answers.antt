use Rattle.std.proofs.Common.{ℕ, ◌+◌, ◌-◌, ◌≤◌, length, ap, sym, ◌∙◌, arith, refl}
use Rattle.rvm_board.specs.Guest.{Guest}
use Rattle.rvm_board.specs.declared.turns.Order.TheVariants.{RoundRobin}
use Rattle.rvm_board.proofs.Computes.{compute_count}
use Rattle.rvm_board.proofs.Striding.{goes_on_after}
use Rattle.rvm_board.proofs.Turning.{all_made, goes_on_behind, stops_behind, turns_count}
use Rattle.rvm_board.proofs.debugged.Debugged.turns_in_rounds.Goals as goal

pub turns_in_a_row-ended-requires-clause-end : goal.turns_in_a_row-ended-requires-clause-end
turns_in_a_row-ended-requires-clause-end g c =
    let harts = compute_count (length c.loop-left.self.guest.board.harts) (c.loop-left.left - c.straight_rounds-rounds.result.left) c.loop-left.hart c.loop-left.self c.straight_rounds-rounds.new.self c.straight_rounds-rounds.ensures.computes ∙ c.loop-left.invariant.harts in
    omega (arith, c.min-turns.ensures, c.straight_rounds-rounds.ensures.inside, harts)

-- all that were left were made
pub returns-then-left-eq0-clause-turns : goal.returns-then-left-eq0-clause-turns
returns-then-left-eq0-clause-turns g c =
    let left : ℕ = c.straight_rounds-rounds.result.left in
    let fewer : left ≤ c.loop-left.left = c.straight_rounds-rounds.ensures.left in
    let so_far = goes_on_after c.harts-harts.result c.loop-left.left (c.loop-left.left - left) left c.loop-left.hart c.straight_rounds-rounds.result.hart (c.args.count - c.loop-left.left) (c.args.count - left) c.loop-left.self c.straight_rounds-rounds.new.self c.loop-left.invariant.turns
    c.loop-left.invariant.harts (omega (arith, fewer)) (omega (arith, fewer, c.loop-left.invariant.left)) c.loop-left.invariant.hart c.straight_rounds-rounds.ensures.hart c.straight_rounds-rounds.ensures.computes in
    all_made RoundRobin left c.straight_rounds-rounds.result.hart (c.args.count - left) (c.args.count - 0) _ _ _ so_far c.if-left-eq0.true (omega (arith, c.if-left-eq0.true)) refl

pub returns-then-is_some-clause-turns : goal.returns-then-is_some-clause-turns
returns-then-is_some-clause-turns g c =
    let hart : ℕ = c.straight_rounds-rounds.result.hart in
    let left : ℕ = c.straight_rounds-rounds.result.left in
    let turns : ℕ = c.min-turns.result in
    let fewer : left ≤ c.loop-left.left = c.straight_rounds-rounds.ensures.left in
    let so_far = goes_on_after c.harts-harts.result c.loop-left.left (c.loop-left.left - left) left c.loop-left.hart hart (c.args.count - c.loop-left.left) (c.args.count - left) c.loop-left.self c.straight_rounds-rounds.new.self c.loop-left.invariant.turns
    c.loop-left.invariant.harts (omega (arith, fewer)) (omega (arith, fewer, c.loop-left.invariant.left)) c.loop-left.invariant.hart c.straight_rounds-rounds.ensures.hart c.straight_rounds-rounds.ensures.computes in
    stops_behind left (hart + turns - hart) (left - turns) hart (c.args.count - left) _ _ _ _ _ so_far
    (omega (arith, c.min-turns.ensures)) c.turns_in_a_row-ended.ensures.turns (sym c.is_some.ensures ∙ c.if-is_some.true)
    (omega (arith, c.min-turns.ensures, fewer, c.loop-left.invariant.left, c.turns_in_a_row-ended.ensures.left)) refl

pub loop-left-preserved : goal.loop-left-preserved
loop-left-preserved g c =
    let hart : ℕ = c.straight_rounds-rounds.result.hart in
    let left : ℕ = c.straight_rounds-rounds.result.left in
    let turns : ℕ = c.min-turns.result in
    let fewer : left ≤ c.loop-left.left = c.straight_rounds-rounds.ensures.left in
    let so_far = goes_on_after c.harts-harts.result c.loop-left.left (c.loop-left.left - left) left c.loop-left.hart hart (c.args.count - c.loop-left.left) (c.args.count - left) c.loop-left.self c.straight_rounds-rounds.new.self c.loop-left.invariant.turns
    c.loop-left.invariant.harts (omega (arith, fewer)) (omega (arith, fewer, c.loop-left.invariant.left)) c.loop-left.invariant.hart c.straight_rounds-rounds.ensures.hart c.straight_rounds-rounds.ensures.computes in
    let harts = compute_count (length c.loop-left.self.guest.board.harts) (c.loop-left.left - left) c.loop-left.hart c.loop-left.self c.straight_rounds-rounds.new.self c.straight_rounds-rounds.ensures.computes ∙ c.loop-left.invariant.harts in
    record {
      left = omega (arith, fewer, c.loop-left.invariant.left);
      harts = ap (λ (b : Guest). length b.board.harts) c.turns_in_a_row-ended.ensures.turns.guest
          ∙ turns_count RoundRobin (hart + turns - hart) hart c.straight_rounds-rounds.new.self.guest
          ∙ harts;
      hart = c.harts-harts.ensures.some;
      breakpoints = c.turns_in_a_row-ended.ensures.breakpoints ∙ c.straight_rounds-rounds.ensures.breakpoints ∙ c.loop-left.invariant.breakpoints;
      stopped = rw c.turns_in_a_row-ended.ensures.stopped (rw c.straight_rounds-rounds.ensures.stopped c.loop-left.invariant.stopped);
      turns = goes_on_behind c.harts-harts.result left (hart + turns - hart) (left - turns) hart (c.args.count - left) (c.args.count - (left - turns)) _ _ _ so_far
          harts (omega (arith, c.min-turns.ensures)) (omega (arith, c.min-turns.ensures, fewer, c.loop-left.invariant.left)) (omega (arith, c.straight_rounds-rounds.ensures.inside, harts))
          (λ more. omega (arith, c.min-turns.ensures, c.straight_rounds-rounds.ensures.inside, harts, more)) c.turns_in_a_row-ended.ensures.turns (sym c.is_some.ensures ∙ c.if-is_some.false);
    }

pub returns-clause-turns : goal.returns-clause-turns
returns-clause-turns g c = all_made RoundRobin c.loop-left.left c.loop-left.hart (c.args.count - c.loop-left.left) (c.args.count - 0) _ _ _ c.loop-left.invariant.turns (omega arith) (omega arith) refl
