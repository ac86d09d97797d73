use Rattle.std.proofs.Common.{◌≡◌, drop}
use Rattle.rvm_asm.specs.Words.{named, rows_of}
use Rattle.rvm_asm.proofs.words.named.Given as goal

-- the word has no row so far
abbrev pub invariant-loop-row : goal.invariant-loop-row
invariant-loop-row g l = named (rows_of (drop l.row-index l.rows)) l.word ≡ named (rows_of l.rows) l.word
