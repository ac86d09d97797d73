use Rattle.rvm_asm.proofs.Faultless.{image_faultless, size_faultless}
use Rattle.rvm_asm.proofs.laws.faults_come_first.Goals as goal

pub returns-clause-image : goal.returns-clause-image
returns-clause-image c = λ text. image_faultless text

pub returns-clause-size : goal.returns-clause-size
returns-clause-size c = λ text. size_faultless text
