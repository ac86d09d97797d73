use Rattle.std.specs.Io.KnownBytes.{Keeps}
use Rattle.rvm_host_command.proofs.next_line.read_byte.Given as goal

-- nothing was read yet
abbrev pub invariant-loop-try : goal.invariant-loop-try
invariant-loop-try g l = Keeps (g.I.Read.remaining l.fn.lines) (g.I.Read.remaining l.lines)
