use Rattle.std.proofs.Common.{◌≡◌, ◌++◌, ◌∷◌, [], length, sym, ap, arith, length-append}
use Rattle.rvm_codec.specs.Codec.{read_each}
use Rattle.rvm_state.specs.Formats.{hart}
use Rattle.rvm_codec.proofs.EachLoop.{goes_on, ends, is_done}
use Rattle.rvm_state.proofs.snapshot.harts_at.Goals as goal

pub returns-in-None-clause-harts : goal.returns-in-None-clause-harts
returns-in-None-clause-harts c =
    let read = (hart c.args.size).read in
    sym (ends read c.loop.harts.items c.args.count c.loop.counter c.loop.rest.now (read_each read c.args.count c.args.bytes.now) c.loop-test.true (sym c.in-None.ensures) c.loop.invariant.so_far)

pub loop-preserved : goal.loop-preserved
loop-preserved c =
    let read = (hart c.args.size).read in
    let pushed : c.push.new.self.items ≡ c.loop.harts.items ++ c.in-Some.part ∷ [] = c.push.ensures.items in
    record {
      so_far = rw pushed (goes_on read c.loop.harts.items c.args.count c.loop.counter c.loop.rest.now c.in-Some.part c.in-Some.behind.now (read_each read c.args.count c.args.bytes.now) c.loop-test.true (sym c.in-Some.ensures) c.loop.invariant.so_far);
      size = omega (arith, ap length pushed, length-append c.loop.harts.items (c.in-Some.part ∷ []), c.loop.invariant.size);
    }

pub returns-clause-harts : goal.returns-clause-harts
returns-clause-harts c =
    let read = (hart c.args.size).read in
    sym (is_done read c.loop.harts.items c.args.count c.loop.counter c.loop.rest.now (read_each read c.args.count c.args.bytes.now) c.loop-test.false c.loop.invariant.so_far)
