use Rattle.rvm_audit.proofs.Runs.{interleaved}
use Rattle.rvm_audit.proofs.laws.interleavings_are_orders.Goals as goal

pub returns : goal.returns
returns c = interleaved
