use Rattle.std.proofs.Common.{◌≡◌, drop}
use Rattle.rvm_replay.specs.PlaceLines.{journal_name}
use Rattle.rvm_replay.proofs.places.journal_name.Given as goal

-- no journal so far is that of the host
abbrev pub invariant-loop-file : goal.invariant-loop-file
invariant-loop-file l = journal_name l.host l.files ≡ journal_name l.host (drop l.file-index l.files)
