use Rattle.rvm_audit.proofs.Explanations.{unexplained}
use Rattle.rvm_audit.proofs.laws.contradictory_journals_have_no_explanation.Goals as goal

pub returns : goal.returns
returns c = unexplained
