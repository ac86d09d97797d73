use Rattle.rvm_audit.proofs.Spellings.{no_place}
use Rattle.rvm_audit.proofs.merge.Merge.new.Goals as goal

pub returns-clause-places : goal.returns-clause-places
returns-clause-places c = λ key. no_place _ c.new-2.ensures.empty key
