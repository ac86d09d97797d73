use Rattle.std.proofs.Common.{arith}
use Rattle.rvm_mem.proofs.Words.{windowed}
use Rattle.rvm_mem.proofs.word.word_at.Goals as goal

pub returns : goal.returns
returns c =
    let flags = windowed c.args.flags.now c.args.first c.min-start.result c.min-end.result (omega arith) (omega arith) in
    cc
