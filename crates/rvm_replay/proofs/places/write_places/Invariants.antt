use Rattle.std.proofs.Common.{take}
use Rattle.std.specs.Io.KnownBytes.{Appends}
use Rattle.rvm_audit.specs.Parts.{taken}
use Rattle.rvm_replay.specs.PlaceLines.{place_lines}
use Rattle.rvm_replay.proofs.places.write_places.Given as goal

-- the lines of the hosts so far were written
abbrev pub invariant-loop-host : goal.invariant-loop-host
invariant-loop-host g l =
    Appends (g.E.Write.contents l.fn.errors) (g.E.Write.contents l.errors)
    (place_lines l.files (taken l.places) 0 (take l.host l.counts))
