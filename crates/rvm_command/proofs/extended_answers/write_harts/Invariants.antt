use Rattle.rvm_command.proofs.Showing.{HartLines}
use Rattle.rvm_command.proofs.extended_answers.write_harts.Given as goal

-- the lines so far, and those that are left, are all
abbrev pub invariant-loop-hart : goal.invariant-loop-hart
invariant-loop-hart g l =
    HartLines l.harts l.hart (g.W.Write.contents l.fn.writer) (g.W.Write.contents l.writer)
