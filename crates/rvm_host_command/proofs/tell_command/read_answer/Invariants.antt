use Rattle.rvm_host_command.proofs.Answered.{HaveGone}
use Rattle.rvm_host_command.specs.Answered.{Grows}
use Rattle.rvm_host_command.proofs.tell_command.read_answer.Given as goal

abbrev pub invariant-loop-line : goal.invariant-loop-line
invariant-loop-line g l = record {
  gone : HaveGone (g.I.Read.remaining l.fn.answers) (g.I.Read.remaining l.answers);
  shown : Grows (g.O.Write.contents l.fn.output) (g.O.Write.contents l.output);
}
