use Rattle.std.proofs.Common.{◌≡◌, ◌+◌, ◌*◌, take, vec_len, vec_capacity}
use Rattle.rvm_codec.specs.Codec.{any}
use Rattle.rvm_state.specs.Writing.{WritesEach}
use Rattle.rvm_state.proofs.put.put_words.Given as goal

-- the words so far
abbrev pub invariant-loop-word : goal.invariant-loop-word
invariant-loop-word l = record {
  written : WritesEach (any 4) (take l.word-index l.words) l.fn.out.items l.out.items;
  len : vec_len l.out ≡ vec_len l.fn.out + 4 * l.word-index;
  capacity : vec_capacity l.out ≡ vec_capacity l.fn.out;
}
