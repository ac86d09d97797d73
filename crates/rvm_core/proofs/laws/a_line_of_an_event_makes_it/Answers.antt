use Rattle.rvm_core.proofs.Reading.{one_line_read}
use Rattle.rvm_core.proofs.Scripts.{line_made}
use Rattle.rvm_core.proofs.laws.a_line_of_an_event_makes_it.Goals as goal

pub returns : goal.returns
returns c = record { read = one_line_read; made = line_made }
