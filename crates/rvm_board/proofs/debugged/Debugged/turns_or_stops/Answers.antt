use Rattle.std.proofs.Common.{◌-◌, length, ap, sym, ◌∙◌, arith, refl}
use Rattle.rvm_board.specs.Guest.{Guest}
use Rattle.rvm_board.specs.Events.{step_reply}
use Rattle.rvm_board.specs.declared.turns.Order.TheVariants.{RoundRobin}
use Rattle.rvm_board.specs.Turns.{next_hart, stop_in}
use Rattle.rvm_board.proofs.Turning.{all_made, goes_on, steps_count, stops_at}
use Rattle.rvm_board.proofs.debugged.Debugged.turns_or_stops.Goals as goal

pub returns-in-Some-clause-turns : goal.returns-in-Some-clause-turns
returns-in-Some-clause-turns g c =
    stops_at RoundRobin c.loop-left.left (c.loop-left.left - 1) c.loop-left.hart (c.args.count - c.loop-left.left) (c.args.count - (c.loop-left.left - 1)) c.loop-left.self.guest c.in-Some.stop _ _ _ c.loop-left.invariant.turns (omega arith) (omega arith)
    (ap stop_in (sym c.turn_or_stop.ensures.answer) ∙ ap (λ a. stop_in (step_reply a c.turn_or_stop.result)) (sym c.pc-pc.ensures) ∙ sym c.stop_of.ensures ∙ c.in-Some.is) c.turn_or_stop.ensures.guest c.turn_or_stop.ensures.dirty refl

pub loop-left-preserved : goal.loop-left-preserved
loop-left-preserved g c =
    record {
      left = omega arith;
      harts = ap (λ (b : Guest). length b.board.harts) c.turn_or_stop.ensures.guest ∙ steps_count c.loop-left.hart c.loop-left.self.guest ∙ c.loop-left.invariant.harts;
      hart = c.next-hart.ensures.below;
      turns = goes_on RoundRobin c.loop-left.left (c.loop-left.left - 1) c.loop-left.hart c.next-hart.result (c.args.count - c.loop-left.left) (c.args.count - (c.loop-left.left - 1)) c.loop-left.self.guest _ _ c.loop-left.invariant.turns (omega arith) (omega arith) (ap stop_in (sym c.turn_or_stop.ensures.answer) ∙ ap (λ a. stop_in (step_reply a c.turn_or_stop.result)) (sym c.pc-pc.ensures) ∙ sym c.stop_of.ensures ∙ c.in_default.is)
          (c.next-hart.ensures.next ∙ ap (λ n. next_hart RoundRobin n c.loop-left.hart) (sym c.loop-left.invariant.harts)) c.turn_or_stop.ensures.guest c.turn_or_stop.ensures.dirty;
    }

pub returns-clause-turns : goal.returns-clause-turns
returns-clause-turns g c = all_made RoundRobin c.loop-left.left c.loop-left.hart (c.args.count - c.loop-left.left) (c.args.count - 0) _ _ _ c.loop-left.invariant.turns (omega arith) (omega arith) refl
