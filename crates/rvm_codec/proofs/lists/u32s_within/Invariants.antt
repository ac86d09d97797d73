use Rattle.std.proofs.Common.{◌≡◌, ◌-◌, length}
use Rattle.rvm_codec.specs.Codec.{number, read_each}
use Rattle.rvm_codec.specs.Numbers.{within}
use Rattle.rvm_codec.proofs.EachLoop.{with_front}
use Rattle.rvm_codec.proofs.lists.u32s_within.Given as goal

-- the values so far, followed by those still to be read, are all of them
abbrev pub invariant-loop : goal.invariant-loop
invariant-loop g l = record {
  so_far : with_front l.numbers.items (read_each (number 4 (within l.low l.high)).read (l.count - l.counter) l.rest) ≡ read_each (number 4 (within l.low l.high)).read l.count l.bytes;
  size : length l.numbers.items ≡ l.counter;
}
