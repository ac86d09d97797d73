use Rattle.std.proofs.Common.{arith}
use Rattle.rvm_isa.proofs.read.b_offset.Goals as goal
use Rattle.rvm_isa.proofs.Offsets.{offset_in_range}

pub of_word-requires-clause-in_range : goal.of_word-requires-clause-in_range
of_word-requires-clause-in_range c = offset_in_range c.args.word c.sra-top.result (omega (arith, c.ranges.word.fits)) c.sra-top.ensures
