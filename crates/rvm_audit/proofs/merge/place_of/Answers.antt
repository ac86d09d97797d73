use Rattle.rvm_audit.specs.Merging.{places_of}
use Rattle.rvm_audit.proofs.Spellings.{unplaced}
use Rattle.rvm_audit.proofs.merge.place_of.Goals as goal

pub returns-in-None : goal.returns-in-None
returns-in-None c =
    unplaced c.args.version c.args.count c.args.host c.args.from c.args.frame.now c.in_ok-key_of_coming.field-0 _
    c.in_ok-key_of_coming.ensures c.in-None.is (places_of c.args.places.now)
