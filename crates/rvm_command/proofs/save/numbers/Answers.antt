use Rattle.std.proofs.Common.{arith, ◌∙◌}
use Rattle.rvm_command.proofs.FramesPut.{numbers_count, numbers_more, numbers_none}
use Rattle.rvm_command.proofs.save.numbers.Goals as goal

pub loop-number-init : goal.loop-number-init
loop-number-init c =
    let room = c.in_ok-numbers.ensures.capacity in
    (c.in_ok-numbers.ensures.items ∙ numbers_none, omega (arith, room))

pub push_reserved-requires : goal.push_reserved-requires
push_reserved-requires c =
    let len = c.loop-number.numbers.ok.0 in
    let count = numbers_count c.loop-number.numbers.items c.loop-number.number c.loop-number.invariant.0 in
    let room = c.loop-number.invariant.1 in
    let more = c.loop-number-test.true in
    omega (arith, len, count, room, more)

pub loop-number-preserved : goal.loop-number-preserved
loop-number-preserved c =
    let capacity = c.push_reserved.ensures.capacity in
    let room = c.loop-number.invariant.1 in
    let one = c.from.ensures in (
      numbers_more c.loop-number.numbers.items c.push_reserved.new.self.items c.loop-number.number _ c.loop-number.invariant.0
          c.push_reserved.ensures.items (omega (arith, one)),
      omega (arith, capacity, room),
    )
