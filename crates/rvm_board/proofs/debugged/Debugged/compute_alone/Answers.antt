use Rattle.std.proofs.Common.{ℕ, ◌≤◌, ◌-◌, length, ap, ◌∙◌, arith}
use Rattle.rvm_board.specs.Guest.{Guest}
use Rattle.rvm_board.proofs.Alone.{computes_more}
use Rattle.rvm_board.proofs.Going.{gone_count}
use Rattle.rvm_board.proofs.debugged.Debugged.compute_alone.Goals as goal

pub returns-then-made-eq0-clause-computes : goal.returns-then-made-eq0-clause-computes
returns-then-made-eq0-clause-computes g c =
    let so = c.loop-left.invariant in
    let on = c.straight_turns-made.ensures in
    let n : ℕ = c.args.count - c.loop-left.left in
    computes_more c.straight_turns-made.result n n c.args.self.now c.loop-left.self c.straight_turns-made.new.self so.are
    (omega (arith, so.harts)) on.stand on.stops on.retired on.devices on.guest on.dirty (omega (arith, c.if-made-eq0.true))

pub loop-left-preserved : goal.loop-left-preserved
loop-left-preserved g c =
    let so = c.loop-left.invariant in
    let on = c.straight_turns-made.ensures in
    let made : ℕ = c.straight_turns-made.result in
    let fewer : made ≤ c.loop-left.left = on.made in
    record {
      left = omega (arith, fewer, so.left);
      harts = ap (λ (b : Guest). length b.board.harts) on.guest ∙ gone_count 0 made c.loop-left.self.guest ∙ so.harts;
      breakpoints = ap (λ (b : Guest). b.breakpoints) on.guest ∙ so.breakpoints;
      stopped = rw (ap (λ (b : Guest). b.stopped) on.guest) so.stopped;
      are = computes_more made (c.args.count - c.loop-left.left) (c.args.count - (c.loop-left.left - made)) c.args.self.now c.loop-left.self c.straight_turns-made.new.self so.are
          (omega (arith, so.harts)) on.stand on.stops on.retired on.devices on.guest on.dirty (omega (arith, fewer, so.left));
    }
