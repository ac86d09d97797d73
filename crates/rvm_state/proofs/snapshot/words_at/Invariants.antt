use Rattle.std.proofs.Common.{◌≡◌, ◌-◌, length}
use Rattle.rvm_codec.specs.Codec.{any, read_each}
use Rattle.rvm_codec.proofs.EachLoop.{with_front}
use Rattle.rvm_state.proofs.snapshot.words_at.Given as goal

-- the words read so far, and after them those still to be read, are all
abbrev pub invariant-loop : goal.invariant-loop
invariant-loop g l = record {
  so_far : with_front l.words.items (read_each (any 4).read (l.count - l.counter) l.rest) ≡ read_each (any 4).read l.count l.bytes;
  size : length l.words.items ≡ l.counter;
}
