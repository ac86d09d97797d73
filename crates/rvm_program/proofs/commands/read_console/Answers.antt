use Rattle.std.proofs.Common.{◌<◌, arith}
use Rattle.std.proofs.lemmas.Grind.{common_steps}
use Rattle.rvm_files.proofs.Reading.{first_given}
use Rattle.rvm_program.proofs.commands.read_console.Goals as goal

pub returns-then-turns-gt-MAX_FILE_SIZE-clause-first :
    goal.returns-then-turns-gt-MAX_FILE_SIZE-clause-first
returns-then-turns-gt-MAX_FILE_SIZE-clause-first g c =
    let more : 67108864 < c.args.turns = grind (arith, common_steps) in
    first_given c.read_whole.result (λ v. v.items) (g.F.NamedFiles.bytes_of c.args.files.now c.args.file.now) c.args.turns
    more c.read_whole.ensures.bytes c.read_whole.ensures.few
