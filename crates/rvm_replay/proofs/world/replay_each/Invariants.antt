use Rattle.std.proofs.Common.{◌≡◌, ◌++◌, length, take}
use Rattle.std.specs.Vec.Iter.{into_iter_items, into_iter_len}
use Rattle.rvm_replay.specs.Worlds.{AreKept, AreTextsOf}
use Rattle.rvm_replay.proofs.world.replay_each.Given as goal

-- the hosts of the journals so far did what these tell
abbrev pub invariant-loop-reader : goal.invariant-loop-reader
invariant-loop-reader g l = record {
  split : l.yielded ++ into_iter_items l.reader-iterator ≡ into_iter_items l.initial.reader-iterator;
  size : into_iter_len l.reader-iterator ≡ length (into_iter_items l.reader-iterator);
  texts : AreTextsOf (take (length l.yielded) l.names) l.yielded l.world.files.items;
  kept : AreKept g.K.Kept.recording l.world.files.items l.image l.world.hosts.items;
  long : length l.world.hosts.items ≡ length l.fn.world.hosts.items;
}
