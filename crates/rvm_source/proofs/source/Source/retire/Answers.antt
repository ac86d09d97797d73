use Rattle.rvm_source.proofs.Covering.{retire_keeps}
use Rattle.rvm_source.proofs.source.Source.retire.Goals as goal

pub invariant_of-self : goal.invariant_of-self
invariant_of-self g c =
    let f = c.self.inside in (
      c.self.invariant.0,
      retire_keeps f.phase f.rounds c.in-Offering.is c.retire.ensures c.self.invariant.1.0 c.self.invariant.1.1.1,
    )
