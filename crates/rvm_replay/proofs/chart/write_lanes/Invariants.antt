use Rattle.std.specs.Io.KnownBytes.{Appends}
use Rattle.rvm_replay.specs.Charts.{lanes_text}
use Rattle.rvm_replay.proofs.chart.write_lanes.Given as goal

abbrev pub invariant-loop-host : goal.invariant-loop-host
invariant-loop-host g l = Appends (g.O.Write.contents l.fn.output) (g.O.Write.contents l.output) (lanes_text l.host)
