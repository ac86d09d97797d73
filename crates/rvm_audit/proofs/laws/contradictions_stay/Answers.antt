use Rattle.rvm_audit.proofs.Kept.{contradicted}
use Rattle.rvm_audit.proofs.laws.contradictions_stay.Goals as goal

pub returns : goal.returns
returns c = contradicted
