use Rattle.std.proofs.Common.{◌≡◌, take, drop}
use Rattle.rvm_text.specs.Tokens.{lexemes_of}
use Rattle.rvm_asm.specs.Reading.{parts}
use Rattle.rvm_asm.proofs.Parts.{all_at_head}
use Rattle.rvm_asm.proofs.reading.first_part.Given as goal

-- no comma stands so far
abbrev pub invariant-loop-at : goal.invariant-loop-at
invariant-loop-at l = all_at_head (lexemes_of (take l.at l.tokens)) (parts (lexemes_of (drop l.at l.tokens))) ≡ parts (lexemes_of l.tokens)
