use Rattle.std.proofs.Common.{◌≡◌, ◌+◌, ◌%◌, ◌<◌, ◌≤◌, length, arith, subst}
use Rattle.rvm_command.proofs.Searching.{IsSought, Searched, TurnTaken, ends_spent, ends_with, goes_on_with, hart_is, none_searched}
use Rattle.rvm_command.proofs.find_fault.find_fault.Goals as goal

pub loop-made-init : goal.loop-made-init
loop-made-init g c =
    record {
      within = omega arith;
      searched = none_searched c.args.turn c.args.board.now c.new-traps.result c.new-traps.ensures;
    }

pub hart_of_turn-hart-requires : goal.hart_of_turn-hart-requires
hart_of_turn-hart-requires g c = c.harts-harts.ensures.some

pub take_turn-taken-requires : goal.take_turn-taken-requires
take_turn-taken-requires g c =
    omega (arith, c.hart_of_turn-hart.ensures.within, c.harts-harts.ensures.count, c.loop-made.invariant.searched.size)

-- the last turn stopped, halted or showed a fault
pub returns-then-ends-clause-turns : goal.returns-then-ends-clause-turns
returns-then-ends-clause-turns g c =
    let taken : TurnTaken c.hart_of_turn-hart.result c.loop-made.board c.take_turn-taken.new.board c.loop-made.traps c.take_turn-taken.new.traps c.take_turn-taken.result.stop c.take_turn-taken.result.fault = record {
      guest = c.take_turn-taken.ensures.guest;
      dirty = c.take_turn-taken.ensures.dirty;
      ends = c.take_turn-taken.ensures.stop;
      shows = c.take_turn-taken.ensures.fault;
      notes = c.take_turn-taken.ensures.noted;
    } in
    let hart : c.hart_of_turn-hart.result ≡ (c.args.turn + c.loop-made.made) % length c.args.board.now.guest.board.harts =
    hart_is c.args.turn c.loop-made.made c.from.result c.harts-harts.result (length c.args.board.now.guest.board.harts) c.hart_of_turn-hart.result c.hart_of_turn-hart.ensures.hart c.from.ensures c.harts-harts.ensures.count in
    let most : length c.args.board.now.guest.board.harts ≤ 8 = omega (arith, c.harts-harts.ensures.count, c.harts-harts.ensures.bound) in
    let some : 0 < length c.args.board.now.guest.board.harts = omega (arith, c.harts-harts.ensures.count, c.harts-harts.ensures.some) in
    let sought : IsSought c.args.turn c.args.count c.args.board.now c.take_turn-taken.new.board (record { made = c.loop-made.made + 1; stop = c.take_turn-taken.result.stop }) c.take_turn-taken.result.fault =
    ends_with c.args.count c.take_turn-taken.result.stop c.take_turn-taken.result.fault c.ends.result c.ends.ensures c.if-ends.true c.loop-made-test.true hart most some c.loop-made.invariant.searched taken in
    rw c.as_last_of.ensures sought.takes

pub returns-then-ends-clause-fault : goal.returns-then-ends-clause-fault
returns-then-ends-clause-fault g c =
    let taken : TurnTaken c.hart_of_turn-hart.result c.loop-made.board c.take_turn-taken.new.board c.loop-made.traps c.take_turn-taken.new.traps c.take_turn-taken.result.stop c.take_turn-taken.result.fault = record {
      guest = c.take_turn-taken.ensures.guest;
      dirty = c.take_turn-taken.ensures.dirty;
      ends = c.take_turn-taken.ensures.stop;
      shows = c.take_turn-taken.ensures.fault;
      notes = c.take_turn-taken.ensures.noted;
    } in
    let hart : c.hart_of_turn-hart.result ≡ (c.args.turn + c.loop-made.made) % length c.args.board.now.guest.board.harts =
    hart_is c.args.turn c.loop-made.made c.from.result c.harts-harts.result (length c.args.board.now.guest.board.harts) c.hart_of_turn-hart.result c.hart_of_turn-hart.ensures.hart c.from.ensures c.harts-harts.ensures.count in
    let most : length c.args.board.now.guest.board.harts ≤ 8 = omega (arith, c.harts-harts.ensures.count, c.harts-harts.ensures.bound) in
    let some : 0 < length c.args.board.now.guest.board.harts = omega (arith, c.harts-harts.ensures.count, c.harts-harts.ensures.some) in
    let sought : IsSought c.args.turn c.args.count c.args.board.now c.take_turn-taken.new.board (record { made = c.loop-made.made + 1; stop = c.take_turn-taken.result.stop }) c.take_turn-taken.result.fault =
    ends_with c.args.count c.take_turn-taken.result.stop c.take_turn-taken.result.fault c.ends.result c.ends.ensures c.if-ends.true c.loop-made-test.true hart most some c.loop-made.invariant.searched taken in
    rw c.as_last_of.ensures sought.shows

pub loop-made-preserved : goal.loop-made-preserved
loop-made-preserved g c =
    let taken : TurnTaken c.hart_of_turn-hart.result c.loop-made.board c.take_turn-taken.new.board c.loop-made.traps c.take_turn-taken.new.traps c.take_turn-taken.result.stop c.take_turn-taken.result.fault = record {
      guest = c.take_turn-taken.ensures.guest;
      dirty = c.take_turn-taken.ensures.dirty;
      ends = c.take_turn-taken.ensures.stop;
      shows = c.take_turn-taken.ensures.fault;
      notes = c.take_turn-taken.ensures.noted;
    } in
    let hart : c.hart_of_turn-hart.result ≡ (c.args.turn + c.loop-made.made) % length c.args.board.now.guest.board.harts =
    hart_is c.args.turn c.loop-made.made c.from.result c.harts-harts.result (length c.args.board.now.guest.board.harts) c.hart_of_turn-hart.result c.hart_of_turn-hart.ensures.hart c.from.ensures c.harts-harts.ensures.count in
    let most : length c.args.board.now.guest.board.harts ≤ 8 = omega (arith, c.harts-harts.ensures.count, c.harts-harts.ensures.bound) in
    let some : 0 < length c.args.board.now.guest.board.harts = omega (arith, c.harts-harts.ensures.count, c.harts-harts.ensures.some) in
    record {
      within = omega (arith, c.loop-made-test.true);
      searched = goes_on_with c.take_turn-taken.result.stop c.take_turn-taken.result.fault c.ends.result c.ends.ensures c.if-ends.false hart most some c.loop-made.invariant.searched taken;
    }

-- all turns were made
pub returns-clause-turns : goal.returns-clause-turns
returns-clause-turns g c =
    let all : c.loop-made.made ≡ c.args.count = omega (arith, c.loop-made-test.false, c.loop-made.invariant.within) in
    let searched : Searched c.args.turn c.args.board.now c.loop-made.board c.args.count c.loop-made.traps = subst (λ k. Searched c.args.turn c.args.board.now c.loop-made.board k c.loop-made.traps) all c.loop-made.invariant.searched in
    (ends_spent c.args.turn c.args.count c.args.board.now c.loop-made.board c.loop-made.traps searched).takes

pub returns-clause-fault : goal.returns-clause-fault
returns-clause-fault g c =
    let all : c.loop-made.made ≡ c.args.count = omega (arith, c.loop-made-test.false, c.loop-made.invariant.within) in
    let searched : Searched c.args.turn c.args.board.now c.loop-made.board c.args.count c.loop-made.traps = subst (λ k. Searched c.args.turn c.args.board.now c.loop-made.board k c.loop-made.traps) all c.loop-made.invariant.searched in
    (ends_spent c.args.turn c.args.count c.args.board.now c.loop-made.board c.loop-made.traps searched).shows
