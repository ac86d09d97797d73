use Rattle.rvm_precopy.proofs.Coverage.{last_turned, all_copied}
use Rattle.rvm_precopy.proofs.laws.no_page_of_a_paused_guest_is_forgotten.Goals as goal

pub returns-clause-turn : goal.returns-clause-turn
returns-clause-turn c = last_turned

pub returns-clause-all : goal.returns-clause-all
returns-clause-all c = all_copied
