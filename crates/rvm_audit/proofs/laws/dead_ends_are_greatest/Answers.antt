use Rattle.rvm_audit.proofs.Greatest.{greatest, one_dead_end}
use Rattle.rvm_audit.proofs.laws.dead_ends_are_greatest.Goals as goal

pub returns-clause-greatest : goal.returns-clause-greatest
returns-clause-greatest c = greatest

pub returns-clause-one : goal.returns-clause-one
returns-clause-one c = one_dead_end
