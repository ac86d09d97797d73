use Rattle.rvm_asm.proofs.Ends.{ends}
use Rattle.rvm_asm.proofs.laws.a_lines_bytes_end_where_the_next_line_stands.Goals as goal

pub returns : goal.returns
returns c = λ names place after statement bytes e h. ends names place after statement bytes e h
