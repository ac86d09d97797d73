use Rattle.rvm_audit.proofs.Spellings.{no_place}
use Rattle.rvm_audit.proofs.known.Known.new.Goals as goal

pub returns-clause-made : goal.returns-clause-made
returns-clause-made c = λ key. no_place _ c.new.ensures.empty key
