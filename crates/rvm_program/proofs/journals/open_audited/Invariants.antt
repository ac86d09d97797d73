use Rattle.std.proofs.Common.{map, take}
use Rattle.std.specs.Io.Buffered.{reader_remaining}
use Rattle.rvm_program.specs.Ended.{AreGiven}
use Rattle.rvm_program.proofs.journals.open_audited.Given as goal

-- the journals so far are those in the files so far
abbrev pub invariant-loop-index : goal.invariant-loop-index
invariant-loop-index g l = AreGiven (g.F.NamedFiles.bytes_of l.files) (take l.index l.journals) (map (reader_remaining g.F.Opened.Read.remaining) l.opened.items)
