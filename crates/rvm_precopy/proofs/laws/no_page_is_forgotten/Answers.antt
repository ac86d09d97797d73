use Rattle.rvm_precopy.proofs.Coverage.{turned, paused}
use Rattle.rvm_precopy.proofs.laws.no_page_is_forgotten.Goals as goal

pub returns-clause-turn : goal.returns-clause-turn
returns-clause-turn c = λ log r is goes covers. turned log r is covers goes

pub returns-clause-pause : goal.returns-clause-pause
returns-clause-pause c = λ log r is stops covers. paused log r is covers stops
