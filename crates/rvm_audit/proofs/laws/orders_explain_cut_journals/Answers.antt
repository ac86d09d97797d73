use Rattle.rvm_audit.proofs.Kept.{completion_explains}
use Rattle.rvm_audit.proofs.laws.orders_explain_cut_journals.Goals as goal

pub returns : goal.returns
returns c = completion_explains
