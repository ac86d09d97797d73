use Rattle.std.proofs.Common.{◌≡◌, ◌++◌, length, map}
use Rattle.std.specs.Vec.Iter.{into_iter_items, into_iter_len}
use Rattle.rvm_replay.specs.Worlds.{AreOpened}
use Rattle.rvm_replay.proofs.world.open_all.Given as goal

-- the headers of the journals so far were read
abbrev pub invariant-loop-input : goal.invariant-loop-input
invariant-loop-input g l = record {
  split : l.yielded ++ into_iter_items l.input-iterator ≡ into_iter_items l.initial.input-iterator;
  size : into_iter_len l.input-iterator ≡ length (into_iter_items l.input-iterator);
  opened : AreOpened (map g.I.Read.remaining l.yielded) l.readers.items;
}
