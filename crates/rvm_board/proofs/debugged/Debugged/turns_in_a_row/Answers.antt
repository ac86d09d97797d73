use Rattle.std.proofs.Common.{◌+◌, ◌-◌, length, ap, sym, ◌∙◌, arith, refl}
use Rattle.rvm_board.specs.Guest.{Guest}
use Rattle.rvm_board.specs.declared.turns.Order.TheVariants.{RoundRobin}
use Rattle.rvm_board.specs.Turns.{stop_in}
use Rattle.rvm_board.proofs.Turning.{all_made, goes_on_in_a_row, steps_count, stops_at}
use Rattle.rvm_board.proofs.debugged.Debugged.turns_in_a_row.Goals as goal

pub returns-in-Some-clause-turns : goal.returns-in-Some-clause-turns
returns-in-Some-clause-turns g c =
    stops_at RoundRobin (c.args.end - c.loop-hart.hart) (c.args.end - (c.loop-hart.hart + 1)) c.loop-hart.hart (c.loop-hart.hart - c.args.first) (c.args.end - c.args.first - (c.args.end - c.loop-hart.hart - 1)) c.loop-hart.self.guest c.in-Some.stop _ _ _ c.loop-hart.invariant.turns
    (omega (arith, c.loop-hart-test.true)) (omega (arith, c.loop-hart-test.true, c.loop-hart.invariant.first))
    (ap stop_in (sym c.turn_of.ensures.answer) ∙ sym c.stop_of.ensures ∙ c.in-Some.is) c.turn_of.ensures.guest c.turn_of.ensures.dirty refl

pub loop-hart-preserved : goal.loop-hart-preserved
loop-hart-preserved g c =
    record {
      first = omega (arith, c.loop-hart.invariant.first);
      hart = omega (arith, c.loop-hart-test.true);
      end = omega (arith, steps_count c.loop-hart.hart c.loop-hart.self.guest, ap (λ (b : Guest). length b.board.harts) c.turn_of.ensures.guest, c.loop-hart.invariant.end);
      breakpoints = c.turn_of.ensures.breakpoints ∙ c.loop-hart.invariant.breakpoints;
      stopped = c.turn_of.ensures.stopped ∙ c.loop-hart.invariant.stopped;
      none = c.turn_of.ensures.breakpoints ∙ c.loop-hart.invariant.none;
      stand = rw c.turn_of.ensures.stopped c.loop-hart.invariant.stand;
      turns = goes_on_in_a_row (c.args.end - c.loop-hart.hart) (c.args.end - (c.loop-hart.hart + 1)) c.loop-hart.hart (c.loop-hart.hart - c.args.first) (c.loop-hart.hart + 1 - c.args.first) c.loop-hart.self.guest _ _ c.loop-hart.invariant.turns
          (omega (arith, c.loop-hart-test.true)) (omega (arith, c.loop-hart.invariant.first)) (omega (arith, c.loop-hart-test.true, c.loop-hart.invariant.end))
          (ap stop_in (sym c.turn_of.ensures.answer) ∙ sym c.stop_of.ensures ∙ c.in_default.is) c.turn_of.ensures.guest c.turn_of.ensures.dirty;
    }

pub returns-clause-turns : goal.returns-clause-turns
returns-clause-turns g c =
    all_made RoundRobin (c.args.end - c.loop-hart.hart) c.loop-hart.hart (c.loop-hart.hart - c.args.first) (c.args.end - c.args.first - 0) _ _ _ c.loop-hart.invariant.turns
    (omega (arith, c.loop-hart-test.false)) (omega (arith, c.loop-hart-test.false, c.loop-hart.invariant.hart)) refl
