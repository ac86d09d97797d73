use Rattle.std.proofs.Common.{◌-◌, length, ap, sym, ◌∙◌, arith, refl}
use Rattle.rvm_board.specs.Guest.{Guest}
use Rattle.rvm_board.specs.Events.{step_reply}
use Rattle.rvm_board.specs.declared.turns.Order.TheVariants.{RoundRobin}
use Rattle.rvm_board.specs.Turns.{next_hart, stop_in}
use Rattle.rvm_board.specs.WhileFull.{is_full}
use Rattle.rvm_board.proofs.Turning.{steps_count}
use Rattle.rvm_board.proofs.Waiting.{all_while, ends_while, goes_while, stops_while}
use Rattle.rvm_board.proofs.debugged.Debugged.turns_while_full.Goals as goal

pub returns-in-Some : goal.returns-in-Some
returns-in-Some g c =
    stops_while is_full c.loop-left.left (c.loop-left.left - 1) c.loop-left.hart (c.args.count - c.loop-left.left) (c.args.count - (c.loop-left.left - 1)) c.loop-left.self.guest c.in-Some.stop _ _ _ c.loop-left.invariant.turns (omega arith) (omega arith)
    (ap stop_in (sym c.turn_or_stop.ensures.answer) ∙ ap (λ a. stop_in (step_reply a c.turn_or_stop.result)) (sym c.pc-pc.ensures) ∙ sym c.stop_of.ensures ∙ c.in-Some.is) c.turn_or_stop.ensures.guest c.turn_or_stop.ensures.dirty refl

pub returns-then-not-input_is_full : goal.returns-then-not-input_is_full
returns-then-not-input_is_full g c =
    ends_while is_full c.loop-left.left (c.loop-left.left - 1) c.loop-left.hart (c.args.count - c.loop-left.left) (c.args.count - (c.loop-left.left - 1)) c.loop-left.self.guest _ _ _ c.loop-left.invariant.turns (omega arith) (omega arith)
    (ap stop_in (sym c.turn_or_stop.ensures.answer) ∙ ap (λ a. stop_in (step_reply a c.turn_or_stop.result)) (sym c.pc-pc.ensures) ∙ sym c.stop_of.ensures ∙ c.in_default.is)
    (sym c.input_is_full.ensures ∙ c.if-not-input_is_full.true) c.turn_or_stop.ensures.guest c.turn_or_stop.ensures.dirty refl

pub loop-left-preserved : goal.loop-left-preserved
loop-left-preserved g c =
    record {
      left = omega arith;
      harts = ap (λ (b : Guest). length b.board.harts) c.turn_or_stop.ensures.guest ∙ steps_count c.loop-left.hart c.loop-left.self.guest ∙ c.loop-left.invariant.harts;
      hart = c.next-hart.ensures.below;
      turns = goes_while is_full c.loop-left.left (c.loop-left.left - 1) c.loop-left.hart c.next-hart.result (c.args.count - c.loop-left.left) (c.args.count - (c.loop-left.left - 1)) c.loop-left.self.guest _ _ c.loop-left.invariant.turns (omega arith) (omega arith)
          (ap stop_in (sym c.turn_or_stop.ensures.answer) ∙ ap (λ a. stop_in (step_reply a c.turn_or_stop.result)) (sym c.pc-pc.ensures) ∙ sym c.stop_of.ensures ∙ c.in_default.is)
          (sym c.input_is_full.ensures ∙ c.if-not-input_is_full.false)
          (c.next-hart.ensures.next ∙ ap (λ n. next_hart RoundRobin n c.loop-left.hart) (sym c.loop-left.invariant.harts)) c.turn_or_stop.ensures.guest c.turn_or_stop.ensures.dirty;
    }

pub returns : goal.returns
returns g c = all_while is_full c.loop-left.left c.loop-left.hart (c.args.count - c.loop-left.left) c.args.count _ _ _ c.loop-left.invariant.turns (omega arith) (omega arith) refl
