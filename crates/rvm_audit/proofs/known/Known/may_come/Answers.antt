use Rattle.rvm_audit.specs.Cuts.{marked}
use Rattle.rvm_audit.specs.Merging.{places_of}
use Rattle.rvm_audit.proofs.Spellings.{may_not_come}
use Rattle.rvm_audit.proofs.known.Known.may_come.Goals as goal

pub returns-in-None-clause-no : goal.returns-in-None-clause-no
returns-in-None-clause-no c = λ so.
    may_not_come c.args.version c.args.count c.args.host c.args.from c.args.frame.now c.in_ok-key_of_coming.field-0 _
    c.in_ok-key_of_coming.ensures c.in-None.is (places_of c.args.self.now.made) (marked c.args.self.now.spent.items)
