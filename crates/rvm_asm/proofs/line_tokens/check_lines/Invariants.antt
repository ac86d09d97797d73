use Rattle.rvm_asm.proofs.Lines.{ReadTo}
use Rattle.rvm_asm.proofs.line_tokens.check_lines.Given as goal

-- the lines so far are read
abbrev pub invariant-loop-index : goal.invariant-loop-index
invariant-loop-index l = ReadTo l.texts l.index
