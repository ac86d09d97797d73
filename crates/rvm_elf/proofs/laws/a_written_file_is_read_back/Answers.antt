use Rattle.rvm_elf.proofs.ReadBack.{read_back}
use Rattle.rvm_elf.proofs.laws.a_written_file_is_read_back.Goals as goal

pub returns : goal.returns
returns c = λ entry ps is. read_back entry ps is
