use Rattle.std.proofs.Common.{◌≡◌, ◌++◌, ◌∷◌, [], length, sym, ap, arith, length-append}
use Rattle.rvm_codec.specs.Codec.{any, read_each}
use Rattle.rvm_codec.proofs.EachLoop.{goes_on, ends, is_done}
use Rattle.rvm_state.proofs.snapshot.words_at.Goals as goal

pub returns-in-None-clause-words : goal.returns-in-None-clause-words
returns-in-None-clause-words g c =
    let read = (any 4).read in
    sym (ends read c.loop.words.items c.args.count c.loop.counter c.loop.rest.now (read_each read c.args.count c.args.bytes.now) c.loop-test.true (sym c.in-None.ensures) c.loop.invariant.so_far)

pub loop-preserved : goal.loop-preserved
loop-preserved g c =
    let read = (any 4).read in
    let pushed : c.push.new.self.items ≡ c.loop.words.items ++ c.in-Some.word ∷ [] = c.push.ensures.items in
    record {
      so_far = rw pushed (goes_on read c.loop.words.items c.args.count c.loop.counter c.loop.rest.now c.in-Some.word c.in-Some.behind.now (read_each read c.args.count c.args.bytes.now) c.loop-test.true (sym c.in-Some.ensures) c.loop.invariant.so_far);
      size = omega (arith, ap length pushed, length-append c.loop.words.items (c.in-Some.word ∷ []), c.loop.invariant.size);
    }

pub returns-clause-words : goal.returns-clause-words
returns-clause-words g c =
    let read = (any 4).read in
    sym (is_done read c.loop.words.items c.args.count c.loop.counter c.loop.rest.now (read_each read c.args.count c.args.bytes.now) c.loop-test.false c.loop.invariant.so_far)
