use Rattle.std.proofs.Common.{refl}
use Rattle.rvm_state.proofs.laws.what_is_written_spells_the_guest.Goals as goal

pub returns : goal.returns
returns c = λ g some has. record { has_ram = refl; some_ram = some; has_spelling = has; spelled = refl }
