use Rattle.std.proofs.Common.{◌≡◌, take}
use Rattle.rvm_recorder.specs.Items.{all_of}
use Rattle.rvm_replay.specs.Counts.{counts_of}
use Rattle.rvm_replay.proofs.counts.Counts.of.Given as goal

-- what the entries of the items so far add up to
abbrev pub invariant-loop-item : goal.invariant-loop-item
invariant-loop-item l = l.sum ≡ counts_of (all_of (take l.item-index l.items))
