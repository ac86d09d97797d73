use Rattle.std.proofs.Common.{ℕ, ◌≡◌, ◌≤◌, ◌<◌, suc, refl, ◌+◌, ◌-◌, length, ap, sym, subst, ◌∙◌, arith}
use Rattle.rvm_board.specs.Guest.{Guest}
use Rattle.rvm_board.specs.Retiring.{Retire}
use Rattle.rvm_board.proofs.Going.{gone_count}
use Rattle.rvm_board.proofs.Retirings.{all_retired, last_ends, next_of_one, retire_more, retire_straight}
use Rattle.rvm_board.proofs.Turning.{steps_count}
use Rattle.rvm_board.proofs.debugged.Debugged.retire_hart_0.Goals as goal

pub loop-left-preserved : goal.loop-left-preserved
loop-left-preserved g c =
    let so = c.loop-left.invariant in
    let n = c.args.count - c.loop-left.left in
    let made : ℕ = c.straight_turns-left.result in
    let fewer : made ≤ c.loop-left.left = c.straight_turns-left.ensures.made in
    let left : ℕ = c.loop-left.left - made in
    let then : ℕ = c.args.count - left in
    let mid = c.straight_turns-left.new.self in
    let there : 0 < length c.loop-left.self.guest.board.harts = omega (arith, so.harts) in
    let one : length mid.guest.board.harts ≡ 1 = ap (λ (b : Guest). length b.board.harts) c.straight_turns-left.ensures.guest ∙ gone_count 0 made c.loop-left.self.guest ∙ so.harts in
    let are : Retire 1 then c.args.turn c.args.self.now mid =
    retire_straight made n then c.args.turn c.args.self.now c.loop-left.self mid so.are there c.straight_turns-left.ensures.stand c.straight_turns-left.ensures.stops c.straight_turns-left.ensures.retired c.straight_turns-left.ensures.guest c.straight_turns-left.ensures.dirty (omega (arith, fewer, so.left)) in
    let more : suc then ≡ c.args.count - (left - 1) = omega (arith, c.if-left-eq0.false, fewer, so.left) in
    let on = c.step_on-stepped.ensures in
    record {
      left = omega (arith, fewer, so.left);
      harts = ap (λ (b : Guest). length b.board.harts) on.guest ∙ steps_count 0 mid.guest ∙ one;
      breakpoints = on.breakpoints ∙ ap (λ (b : Guest). b.breakpoints) c.straight_turns-left.ensures.guest ∙ so.breakpoints;
      stopped = rw on.stopped (rw (ap (λ (b : Guest). b.stopped) c.straight_turns-left.ensures.guest) so.stopped);
      are = subst (λ k. Retire 1 k c.args.turn c.args.self.now c.step_on-stepped.new.self) more
          (retire_more 1 then c.args.turn 0 c.args.self.now mid c.step_on-stepped.new.self are
          (next_of_one (c.args.turn + then)) (omega (arith, one))
          (sym on.answer ∙ c.has_retired.ensures c.if-not-has_retired.false)
          (λ i. record { guest = on.guest i; dirty = on.dirty i }));
    }

pub returns-then-left-eq0 : goal.returns-then-left-eq0
returns-then-left-eq0 g c =
    let so = c.loop-left.invariant in
    let n = c.args.count - c.loop-left.left in
    let made : ℕ = c.straight_turns-left.result in
    let fewer : made ≤ c.loop-left.left = c.straight_turns-left.ensures.made in
    let left : ℕ = c.loop-left.left - made in
    let then : ℕ = c.args.count - left in
    let mid = c.straight_turns-left.new.self in
    let there : 0 < length c.loop-left.self.guest.board.harts = omega (arith, so.harts) in
    let one : length mid.guest.board.harts ≡ 1 = ap (λ (b : Guest). length b.board.harts) c.straight_turns-left.ensures.guest ∙ gone_count 0 made c.loop-left.self.guest ∙ so.harts in
    let are : Retire 1 then c.args.turn c.args.self.now mid =
    retire_straight made n then c.args.turn c.args.self.now c.loop-left.self mid so.are there c.straight_turns-left.ensures.stand c.straight_turns-left.ensures.stops c.straight_turns-left.ensures.retired c.straight_turns-left.ensures.guest c.straight_turns-left.ensures.dirty (omega (arith, fewer, so.left)) in
    all_retired 1 1 c.args.turn c.args.count then c.args.self.now mid refl are (omega (arith, c.if-left-eq0.true))

pub returns-then-not-has_retired : goal.returns-then-not-has_retired
returns-then-not-has_retired g c =
    let so = c.loop-left.invariant in
    let n = c.args.count - c.loop-left.left in
    let made : ℕ = c.straight_turns-left.result in
    let fewer : made ≤ c.loop-left.left = c.straight_turns-left.ensures.made in
    let left : ℕ = c.loop-left.left - made in
    let then : ℕ = c.args.count - left in
    let mid = c.straight_turns-left.new.self in
    let there : 0 < length c.loop-left.self.guest.board.harts = omega (arith, so.harts) in
    let one : length mid.guest.board.harts ≡ 1 = ap (λ (b : Guest). length b.board.harts) c.straight_turns-left.ensures.guest ∙ gone_count 0 made c.loop-left.self.guest ∙ so.harts in
    let are : Retire 1 then c.args.turn c.args.self.now mid =
    retire_straight made n then c.args.turn c.args.self.now c.loop-left.self mid so.are there c.straight_turns-left.ensures.stand c.straight_turns-left.ensures.stops c.straight_turns-left.ensures.retired c.straight_turns-left.ensures.guest c.straight_turns-left.ensures.dirty (omega (arith, fewer, so.left)) in
    let on = c.step_on-stepped.ensures in
    last_ends 1 1 c.args.turn c.args.count then (c.args.count - (left - 1) - 1) 0 c.args.self.now mid
    c.step_on-stepped.new.self c.step_on-stepped.result refl are (omega (arith, c.if-left-eq0.false, fewer, so.left)) (omega (arith, c.if-left-eq0.false, fewer, so.left))
    (next_of_one (c.args.turn + then)) (omega (arith, one)) (sym on.answer)
    (λ i. record { guest = on.guest i; dirty = on.dirty i })

pub returns : goal.returns
returns g c =
    let so = c.loop-left.invariant in
    all_retired 1 1 c.args.turn c.args.count (c.args.count - c.loop-left.left) c.args.self.now c.loop-left.self refl so.are
    (omega arith)
