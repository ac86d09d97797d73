use Rattle.std.proofs.Common.{arith}
use Rattle.rvm_asm.proofs.Lines.{read_more, read_all}
use Rattle.rvm_asm.proofs.line_tokens.check_lines.Goals as goal

pub loop-index-preserved : goal.loop-index-preserved
loop-index-preserved c = read_more c.args.texts.now _ c.loop-index.index _ c.loop-index.invariant c.loop-index-test.true c.in_default.ensures.read

pub returns-clause-read : goal.returns-clause-read
returns-clause-read c = read_all c.args.texts.now c.loop-index.index c.loop-index.invariant (omega arith)
