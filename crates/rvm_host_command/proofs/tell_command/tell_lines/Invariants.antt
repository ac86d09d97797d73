use Rattle.std.specs.Io.Buffered.{reader_remaining}
use Rattle.rvm_host_command.proofs.Answered.{SoFar}
use Rattle.rvm_host_command.specs.Answered.{Grows}
use Rattle.rvm_host_command.proofs.tell_command.tell_lines.Given as goal

abbrev pub invariant-loop-line : goal.invariant-loop-line
invariant-loop-line g l = record {
  so_far : SoFar (g.I.Read.remaining l.fn.lines) (g.I.Read.remaining l.lines) (g.S.Read.remaining l.fn.stream)
      (reader_remaining g.S.Read.remaining l.answers) l.told;
  shown : Grows (g.O.Write.contents l.fn.output) (g.O.Write.contents l.output);
}
