use Rattle.std.proofs.Common.{take}
use Rattle.std.specs.Io.KnownBytes.{Appends}
use Rattle.rvm_core.specs.EventLines.{event_lines}
use Rattle.rvm_core.proofs.event_lines.write_events.Given as goal

abbrev pub invariant-loop-event : goal.invariant-loop-event
invariant-loop-event g l =
    Appends (g.W.Write.contents l.fn.writer) (g.W.Write.contents l.writer) (event_lines l.hosts (take l.event-index l.events))
