use Rattle.std.proofs.Common.{◌≡◌, ◌++◌, drop}
use Rattle.std.specs.Prelude.{option_map}
use Rattle.rvm_text.specs.Lexemes.{lexemes, lexemes_from}
use Rattle.rvm_text.specs.Tokens.{lexemes_of, mode_of, IsBegun}
use Rattle.rvm_text.proofs.token.read.Given as goal

-- the tokens so far and those of what is left are all
abbrev pub invariant-loop-at : goal.invariant-loop-at
invariant-loop-at l = record {
  lexemes : option_map (λ ts. lexemes_of l.out.items ++ ts) (lexemes_from (drop l.at l.line) (mode_of l.line l.at l.mode)) ≡ lexemes l.line;
  begun : IsBegun l.at l.mode;
}
