use Rattle.rvm_isa.proofs.TableLaws.{no_word_has_two_rows}
use Rattle.rvm_isa.proofs.laws.no_word_has_two_rows.Goals as goal

pub returns : goal.returns
returns c = no_word_has_two_rows
