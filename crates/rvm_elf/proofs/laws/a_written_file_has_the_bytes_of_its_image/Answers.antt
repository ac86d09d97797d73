use Rattle.rvm_elf.proofs.ReadBack.{stands_for}
use Rattle.rvm_elf.proofs.laws.a_written_file_has_the_bytes_of_its_image.Goals as goal

pub returns : goal.returns
returns c = λ entry image is. stands_for entry image is
