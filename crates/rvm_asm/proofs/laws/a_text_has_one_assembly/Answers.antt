use Rattle.rvm_asm.proofs.Unique.{one_assembly}
use Rattle.rvm_asm.proofs.laws.a_text_has_one_assembly.Goals as goal

pub returns : goal.returns
returns c = λ text. one_assembly text
