use Rattle.std.proofs.Common.{arith}
use Rattle.rvm_command.proofs.Runs.{drain_nothing}
use Rattle.rvm_command.proofs.run.drain.Goals as goal

pub returns-then-not-is_due-clause-written : goal.returns-then-not-is_due-clause-written
returns-then-not-is_due-clause-written g c = (drain_nothing c.args.guest.now c.args.buffer.now (g.W.Write.contents c.args.writer.now) (omega arith)).text

pub returns-then-not-is_due-clause-guest : goal.returns-then-not-is_due-clause-guest
returns-then-not-is_due-clause-guest g c = (drain_nothing c.args.guest.now c.args.buffer.now (g.W.Write.contents c.args.writer.now) (omega arith)).made
