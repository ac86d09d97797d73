use Rattle.std.proofs.Common.{◌≡◌, ◌-◌, length}
use Rattle.rvm_codec.specs.Codec.{read_each}
use Rattle.rvm_state.specs.Formats.{hart}
use Rattle.rvm_codec.proofs.EachLoop.{with_front}
use Rattle.rvm_state.proofs.snapshot.harts_at.Given as goal

-- the harts read so far, and after them those still to be read, are all
abbrev pub invariant-loop : goal.invariant-loop
invariant-loop l = record {
  so_far : with_front l.harts.items (read_each (hart l.size).read (l.count - l.counter) l.rest) ≡ read_each (hart l.size).read l.count l.bytes;
  size : length l.harts.items ≡ l.counter;
}
