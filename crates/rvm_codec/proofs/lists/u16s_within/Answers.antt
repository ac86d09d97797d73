use Rattle.std.proofs.Common.{◌≡◌, ◌++◌, ◌∷◌, [], length, sym, ap, arith, length-append}
use Rattle.rvm_codec.specs.Codec.{number, read_each}
use Rattle.rvm_codec.specs.Numbers.{within}
use Rattle.rvm_codec.proofs.EachLoop.{goes_on, ends, is_done}
use Rattle.rvm_codec.proofs.lists.u16s_within.Goals as goal

pub returns-in-None : goal.returns-in-None
returns-in-None g c =
    let read = (number 2 (within c.args.low c.args.high)).read in
    sym (ends read c.loop.numbers.items c.args.count c.loop.counter c.loop.rest.now (read_each read c.args.count c.args.bytes.now) c.loop-test.true (sym c.in-None.ensures) c.loop.invariant.so_far)

pub loop-preserved : goal.loop-preserved
loop-preserved g c =
    let read = (number 2 (within c.args.low c.args.high)).read in
    let pushed : c.push.new.self.items ≡ c.loop.numbers.items ++ c.in-Some.n ∷ [] = c.push.ensures.items in
    record {
      so_far = rw pushed (goes_on read c.loop.numbers.items c.args.count c.loop.counter c.loop.rest.now c.in-Some.n c.in-Some.behind.now (read_each read c.args.count c.args.bytes.now) c.loop-test.true (sym c.in-Some.ensures) c.loop.invariant.so_far);
      size = omega (arith, ap length pushed, length-append c.loop.numbers.items (c.in-Some.n ∷ []), c.loop.invariant.size);
    }

pub returns : goal.returns
returns g c =
    let read = (number 2 (within c.args.low c.args.high)).read in
    sym (is_done read c.loop.numbers.items c.args.count c.loop.counter c.loop.rest.now (read_each read c.args.count c.args.bytes.now) c.loop-test.false c.loop.invariant.so_far)
