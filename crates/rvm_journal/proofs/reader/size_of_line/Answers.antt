use Rattle.rvm_journal.proofs.Pieces.{size_found}
use Rattle.rvm_journal.proofs.reader.size_of_line.Goals as goal

pub returns-in-Some : goal.returns-in-Some
returns-in-Some c = size_found c.args.bytes.now c.in-Some.size c.in-Some.ensures
