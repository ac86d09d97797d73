use Rattle.std.proofs.Common.{◌≡◌, Ok}
use Rattle.rvm_text.specs.Tokens.{lexemes_of}
use Rattle.rvm_asm.specs.Values.{in_halves}
use Rattle.rvm_asm.proofs.values.closed.Given as goal

-- what is closed so far, in the halves that are left
abbrev pub invariant-loop-index : goal.invariant-loop-index
invariant-loop-index l =
    in_halves (lexemes_of l.tokens) l.index (Ok (l.so_far.0, lexemes_of l.so_far.1.now)) ≡ in_halves (lexemes_of l.tokens) l.depth (Ok (l.value, lexemes_of l.rest))
