use Rattle.std.proofs.Common.{◌≡◌, map, take}
use Rattle.rvm_recorder.specs.History.{count_of}
use Rattle.rvm_replay.proofs.kept.counts_of.Given as goal

-- the numbers so far are those of the first hosts
abbrev pub invariant-loop-host : goal.invariant-loop-host
invariant-loop-host g l = l.counts.items ≡ map (λ kept. count_of (g.K.Kept.recording kept)) (take l.host l.all)
