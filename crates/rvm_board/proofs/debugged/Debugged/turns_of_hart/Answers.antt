use Rattle.std.proofs.Common.{ℕ, ◌-◌, ◌≤◌, length, ap, sym, ◌∙◌, arith, refl}
use Rattle.rvm_board.specs.Guest.{Guest}
use Rattle.rvm_board.specs.Events.{step_reply}
use Rattle.rvm_board.specs.declared.turns.Order.TheVariants.{Alone}
use Rattle.rvm_board.specs.Turns.{stop_in}
use Rattle.rvm_board.proofs.Going.{gone_count}
use Rattle.rvm_board.proofs.Running.{goes_running, halts_turns}
use Rattle.rvm_board.proofs.Turning.{all_made, goes_on, steps_breaks, steps_count, stops_at}
use Rattle.rvm_board.proofs.debugged.Debugged.turns_of_hart.Goals as goal

-- the last turn halted the board
pub returns-in-Some-clause-turns : goal.returns-in-Some-clause-turns
returns-in-Some-clause-turns g c =
    let made : ℕ = c.run_turns-ran.result.made in
    let fewer : made ≤ c.loop-left.left = c.run_turns-ran.ensures.made in
    let left : ℕ = c.loop-left.left - made in
    halts_turns c.loop-left.left made left c.args.hart (c.args.count - c.loop-left.left) (c.args.count - left) c.in-Some.status c.run_turns-ran.result.halted _ c.loop-left.self c.run_turns-ran.new.self _ c.loop-left.invariant.turns (omega (arith, fewer)) (omega (arith, fewer, c.loop-left.invariant.left))
    c.loop-left.invariant.hart c.run_turns-ran.ensures.stand c.run_turns-ran.ensures.stops c.in-Some.is c.run_turns-ran.ensures.ends c.run_turns-ran.ensures.guest c.run_turns-ran.ensures.dirty refl

-- all that were left were made
pub returns-then-left-eq0-clause-turns : goal.returns-then-left-eq0-clause-turns
returns-then-left-eq0-clause-turns g c =
    let made : ℕ = c.run_turns-ran.result.made in
    let fewer : made ≤ c.loop-left.left = c.run_turns-ran.ensures.made in
    let left : ℕ = c.loop-left.left - made in
    let so_far = goes_running c.loop-left.left made left c.args.hart (c.args.count - c.loop-left.left) (c.args.count - left) c.run_turns-ran.result.halted c.loop-left.self c.run_turns-ran.new.self c.loop-left.invariant.turns (omega (arith, fewer)) (omega (arith, fewer, c.loop-left.invariant.left))
    c.loop-left.invariant.hart c.run_turns-ran.ensures.stand c.run_turns-ran.ensures.stops c.in_default.is c.run_turns-ran.ensures.ends c.run_turns-ran.ensures.guest c.run_turns-ran.ensures.dirty in
    all_made Alone left c.args.hart (c.args.count - left) (c.args.count - 0) _ _ _ so_far c.if-left-eq0.true (omega (arith, c.if-left-eq0.true)) refl

pub returns-in-Some-stop_of-clause-turns : goal.returns-in-Some-stop_of-clause-turns
returns-in-Some-stop_of-clause-turns g c =
    let made : ℕ = c.run_turns-ran.result.made in
    let fewer : made ≤ c.loop-left.left = c.run_turns-ran.ensures.made in
    let left : ℕ = c.loop-left.left - made in
    let so_far = goes_running c.loop-left.left made left c.args.hart (c.args.count - c.loop-left.left) (c.args.count - left) c.run_turns-ran.result.halted c.loop-left.self c.run_turns-ran.new.self c.loop-left.invariant.turns (omega (arith, fewer)) (omega (arith, fewer, c.loop-left.invariant.left))
    c.loop-left.invariant.hart c.run_turns-ran.ensures.stand c.run_turns-ran.ensures.stops c.in_default.is c.run_turns-ran.ensures.ends c.run_turns-ran.ensures.guest c.run_turns-ran.ensures.dirty in
    stops_at Alone left (left - 1) c.args.hart (c.args.count - left) (c.args.count - (left - 1)) c.run_turns-ran.new.self.guest c.in-Some-stop_of.stop _ _ _ so_far (omega (arith, c.if-left-eq0.false)) (omega (arith, c.if-left-eq0.false, fewer, c.loop-left.invariant.left))
    (ap stop_in (sym c.step_at_a_mark.ensures.answer) ∙ ap (λ a. stop_in (step_reply a c.step_at_a_mark.result)) (sym c.pc-pc.ensures) ∙ sym c.stop_of.ensures ∙ c.in-Some-stop_of.is) c.step_at_a_mark.ensures.guest c.step_at_a_mark.ensures.dirty refl

pub loop-left-preserved : goal.loop-left-preserved
loop-left-preserved g c =
    let made : ℕ = c.run_turns-ran.result.made in
    let fewer : made ≤ c.loop-left.left = c.run_turns-ran.ensures.made in
    let left : ℕ = c.loop-left.left - made in
    let so_far = goes_running c.loop-left.left made left c.args.hart (c.args.count - c.loop-left.left) (c.args.count - left) c.run_turns-ran.result.halted c.loop-left.self c.run_turns-ran.new.self c.loop-left.invariant.turns (omega (arith, fewer)) (omega (arith, fewer, c.loop-left.invariant.left))
    c.loop-left.invariant.hart c.run_turns-ran.ensures.stand c.run_turns-ran.ensures.stops c.in_default.is c.run_turns-ran.ensures.ends c.run_turns-ran.ensures.guest c.run_turns-ran.ensures.dirty in
    record {
      left = omega (arith, fewer, c.loop-left.invariant.left);
      hart = omega (arith, steps_count c.args.hart c.run_turns-ran.new.self.guest, ap (λ (b : Guest). length b.board.harts) c.step_at_a_mark.ensures.guest, gone_count c.args.hart made c.loop-left.self.guest, ap (λ (b : Guest). length b.board.harts) c.run_turns-ran.ensures.guest, c.loop-left.invariant.hart);
      breakpoints = λ unwatched. ap (λ (b : Guest). b.breakpoints) c.step_at_a_mark.ensures.guest ∙ steps_breaks c.args.hart c.run_turns-ran.new.self.guest ∙ ap (λ (b : Guest). b.breakpoints) c.run_turns-ran.ensures.guest ∙ c.loop-left.invariant.breakpoints unwatched;
      turns = goes_on Alone left (left - 1) c.args.hart c.args.hart (c.args.count - left) (c.args.count - (left - 1)) c.run_turns-ran.new.self.guest _ _ so_far (omega (arith, c.if-left-eq0.false)) (omega (arith, c.if-left-eq0.false, fewer, c.loop-left.invariant.left))
          (ap stop_in (sym c.step_at_a_mark.ensures.answer) ∙ ap (λ a. stop_in (step_reply a c.step_at_a_mark.result)) (sym c.pc-pc.ensures) ∙ sym c.stop_of.ensures ∙ c.in_default-stop_of.is) refl c.step_at_a_mark.ensures.guest c.step_at_a_mark.ensures.dirty;
    }

pub returns-clause-turns : goal.returns-clause-turns
returns-clause-turns g c = all_made Alone c.loop-left.left c.args.hart (c.args.count - c.loop-left.left) (c.args.count - 0) _ _ _ c.loop-left.invariant.turns (omega arith) (omega arith) refl
