use Rattle.std.proofs.Common.{arith}
use Rattle.std.proofs.lemmas.Bool.Decides.{nat_tests}
use Rattle.rvm_isa.specs.Table.{table}
use Rattle.rvm_isa.specs.Opcodes.{with_opcode}
use Rattle.rvm_isa.proofs.Rows.{decoded_is}
use Rattle.rvm_isa.proofs.decoding.decode.Goals as goal

pub returns-in_default-clause-row : goal.returns-in_default-clause-row
unfolding with_opcode table
returns-in_default-clause-row c = let e = decoded_is c.args.word in grind (arith, nat_tests)
