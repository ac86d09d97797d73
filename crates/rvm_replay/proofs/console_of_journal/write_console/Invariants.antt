use Rattle.std.proofs.Common.{take}
use Rattle.std.specs.Io.KnownBytes.{Appends}
use Rattle.rvm_recorder.specs.Items.{all_of}
use Rattle.rvm_replay.specs.Consoles.{console_of}
use Rattle.rvm_replay.proofs.console_of_journal.write_console.Given as goal

abbrev pub invariant-loop-item : goal.invariant-loop-item
invariant-loop-item g l =
    Appends (g.O.Write.contents l.fn.output) (g.O.Write.contents l.output) (console_of (all_of (take l.item-index l.items)))
