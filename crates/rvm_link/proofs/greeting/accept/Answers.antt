use Rattle.std.proofs.Common.{rules}
use Rattle.rvm_link.proofs.GreetingPieces.{are_greeted, written_as}
use Rattle.rvm_link.proofs.greeting.accept.Goals as goal

pub returns-clause-greeted : goal.returns-clause-greeted
returns-clause-greeted g c =
    are_greeted _ _ _ _ _ _ _ _ _ _ _ _ _ _ _ (search rules) c.facts_for.ensures
    c.in_ok-other.ensures.opening c.in_ok-read_proof.ensures.proof c.in_ok-facts.ensures.facts
    c.in_ok-write_opening.ensures c.in_ok-write_proof.ensures c.in_ok-write_facts.ensures

pub returns-in_err-read_proof-clause-silent : goal.returns-in_err-read_proof-clause-silent
returns-in_err-read_proof-clause-silent g c =
    λ e. (c.in_ok-other.other.from, written_as _ _ _ _ c.opening-own.ensures c.in_ok-write_opening.ensures)
