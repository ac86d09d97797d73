use Rattle.rvm_audit.specs.Merging.{places_of}
use Rattle.rvm_audit.proofs.Keys.{updates}
use Rattle.rvm_audit.proofs.places.insert.Goals as goal

pub returns : goal.returns
unfolding places_of
returns c = updates c.args.key.items c.args.places.now c.insert.new.self _ c.in_ok-insert.ensures.updates
