use Rattle.rvm_source.proofs.Covering.{turns_keep}
use Rattle.rvm_source.proofs.source.Source.turns.Goals as goal

pub invariant_of-self : goal.invariant_of-self
invariant_of-self g c =
    let f = c.self.inside in (
      c.self.invariant.0,
      turns_keep f.phase f.rounds c.in-Offering.is c.turn_guest.ensures c.self.invariant.1.0 c.self.invariant.1.1.1,
    )
