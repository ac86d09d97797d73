use Rattle.std.proofs.Common.{ℕ, ◌≡◌, ◌≤◌, ◌+◌, ◌-◌, ◌%◌, length, ap, sym, subst, ◌∙◌, arith, suc}
use Rattle.rvm_board.specs.Guest.{Guest}
use Rattle.rvm_board.specs.Retiring.{Retire}
use Rattle.rvm_board.proofs.Computes.{compute_count, retire_after}
use Rattle.rvm_board.proofs.Retirings.{all_retired, last_ends, next_of, retire_more}
use Rattle.rvm_board.proofs.Turning.{steps_count}
use Rattle.rvm_board.proofs.debugged.Debugged.retire_in_turn.Goals as goal

pub loop-left-preserved : goal.loop-left-preserved
loop-left-preserved g c =
    let so = c.loop-left.invariant in
    let n : ℕ = c.args.count - c.loop-left.left in
    let rounds = c.rounds_of_all-rounds.result in
    let went = c.rounds_of_all-rounds.ensures in
    let mid = c.rounds_of_all-rounds.new.self in
    let then : ℕ = c.args.count - rounds.left in
    let fewer : rounds.left ≤ c.loop-left.left = went.left in
    let harts : length mid.guest.board.harts ≡ c.harts-harts.result = compute_count (length c.loop-left.self.guest.board.harts) (c.loop-left.left - rounds.left) c.loop-left.hart c.loop-left.self mid went.computes ∙ so.harts in
    let after = retire_after c.harts-harts.result n (c.loop-left.left - rounds.left) then c.args.turn c.loop-left.hart rounds.hart c.args.self.now c.loop-left.self mid so.are so.harts so.turn went.computes went.hart (omega (arith, fewer, so.left)) in
    let one : suc then ≡ c.args.count - (rounds.left - 1) = omega (arith, c.if-left-eq0.false, fewer, so.left) in
    let on = c.turn_of-stepped.ensures in
    record {
      left = omega (arith, fewer, so.left);
      harts = ap (λ (b : Guest). length b.board.harts) on.guest ∙ steps_count rounds.hart mid.guest ∙ harts;
      same = so.same;
      few = so.few;
      hart = c.next-hart.ensures.below;
      turn = c.next-hart.ensures.next ∙ next_of c.harts-harts.result c.args.turn then rounds.hart after.place
          ∙ ap (λ k. (c.args.turn + k) % c.harts-harts.result) one;
      breakpoints = on.breakpoints ∙ went.breakpoints ∙ so.breakpoints;
      stopped = rw on.stopped (rw went.stopped so.stopped);
      are = subst (λ k. Retire c.harts-harts.result k c.args.turn c.args.self.now c.turn_of-stepped.new.self) one
          (retire_more c.harts-harts.result then c.args.turn rounds.hart c.args.self.now mid c.turn_of-stepped.new.self after.are
          after.place went.inside
          (sym on.answer ∙ c.has_retired.ensures c.if-not-has_retired.false)
          (λ i. record { guest = on.guest i; dirty = on.dirty i }));
    }

pub returns-then-left-eq0 : goal.returns-then-left-eq0
returns-then-left-eq0 g c =
    let so = c.loop-left.invariant in
    let n : ℕ = c.args.count - c.loop-left.left in
    let rounds = c.rounds_of_all-rounds.result in
    let went = c.rounds_of_all-rounds.ensures in
    let mid = c.rounds_of_all-rounds.new.self in
    let then : ℕ = c.args.count - rounds.left in
    let fewer : rounds.left ≤ c.loop-left.left = went.left in
    let after = retire_after c.harts-harts.result n (c.loop-left.left - rounds.left) then c.args.turn c.loop-left.hart rounds.hart c.args.self.now c.loop-left.self mid so.are so.harts so.turn went.computes went.hart (omega (arith, fewer, so.left)) in
    all_retired c.harts-harts.result (length c.args.self.now.guest.board.harts) c.args.turn c.args.count then c.args.self.now mid so.same after.are
    (omega (arith, c.if-left-eq0.true))

pub returns-then-not-has_retired : goal.returns-then-not-has_retired
returns-then-not-has_retired g c =
    let so = c.loop-left.invariant in
    let n : ℕ = c.args.count - c.loop-left.left in
    let rounds = c.rounds_of_all-rounds.result in
    let went = c.rounds_of_all-rounds.ensures in
    let mid = c.rounds_of_all-rounds.new.self in
    let then : ℕ = c.args.count - rounds.left in
    let fewer : rounds.left ≤ c.loop-left.left = went.left in
    let after = retire_after c.harts-harts.result n (c.loop-left.left - rounds.left) then c.args.turn c.loop-left.hart rounds.hart c.args.self.now c.loop-left.self mid so.are so.harts so.turn went.computes went.hart (omega (arith, fewer, so.left)) in
    let on = c.turn_of-stepped.ensures in
    last_ends c.harts-harts.result (length c.args.self.now.guest.board.harts) c.args.turn c.args.count then (c.args.count - (rounds.left - 1) - 1) rounds.hart c.args.self.now mid
    c.turn_of-stepped.new.self c.turn_of-stepped.result so.same after.are (omega (arith, c.if-left-eq0.false, fewer, so.left)) (omega (arith, c.if-left-eq0.false, fewer, so.left))
    after.place went.inside (sym on.answer)
    (λ i. record { guest = on.guest i; dirty = on.dirty i })

pub returns : goal.returns
returns g c =
    let so = c.loop-left.invariant in
    all_retired c.harts-harts.result (length c.args.self.now.guest.board.harts) c.args.turn c.args.count (c.args.count - c.loop-left.left) c.args.self.now c.loop-left.self so.same so.are
    (omega arith)
