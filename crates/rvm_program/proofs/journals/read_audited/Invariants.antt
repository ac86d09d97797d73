use Rattle.std.proofs.Common.{take}
use Rattle.rvm_replay.specs.Journals.{known_in}
use Rattle.rvm_program.specs.Ended.{AreGiven}
use Rattle.rvm_program.proofs.journals.read_audited.Given as goal

-- the journals so far are those in the files so far
abbrev pub invariant-loop-index : goal.invariant-loop-index
invariant-loop-index g l = AreGiven (g.F.NamedFiles.bytes_of l.files) (take l.index l.journals) (known_in l.read.items)
