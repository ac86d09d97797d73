use Rattle.rvm_isa.proofs.TableLaws.{decoded_by_row}
use Rattle.rvm_isa.proofs.laws.a_word_is_decoded_by_its_row.Goals as goal

pub returns : goal.returns
returns c = decoded_by_row
