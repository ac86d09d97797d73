-- How the lines of a file of symbols are read.
use Rattle.std.proofs.Common.{◌≡◌, ◌+◌, ◌∷◌, ◌++◌, ◌==◌, ℕ, List, [], length, Option, Some, None, cond, refl, ap, sym, ◌∙◌, arith}
use Rattle.std.specs.Option.{option_map_or}
use Rattle.rvm_text.specs.Numbers.{number_after}
use Rattle.rvm_command.specs.SymbolLines.{line_told, lowest_after, refused_from, symbol_told, symbols_in}
use Rattle.rvm_command.specs.Symbols.{Symbol, address_of}
use Rattle.rvm_command.specs.declared.symbols.Told.{Told}
use Rattle.rvm_command.specs.declared.symbols.Told.TheVariants.{Nothing, Fault}
use Rattle.rvm_command.specs.declared.symbols.Told.TheVariants as told

-- an address, digit by digit
pub eight_digits : (word : List ℕ) → length word ≡ 8 → number_after 16 0 word ≡ address_of word
unfolding address_of
eight_digits [] size = absurd (omega (arith, size))
eight_digits (b ∷ bs) size = ap (λ n. cond (n == 8) (number_after 16 0 (b ∷ bs)) None) (sym size)

-- ---- symbols, line by line

symbols_more : {all rest : List (List ℕ)} {line : List ℕ} → all ≡ line ∷ rest
    → symbols_in all ≡ symbol_told (line_told line) ++ symbols_in rest
unfolding symbols_in
symbols_more {all} {rest} {line} next = ap symbols_in next

-- a line that tells a symbol
pub symbol_first : {all rest : List (List ℕ)} {line : List ℕ} (s : Symbol) → all ≡ line ∷ rest → told.Symbol s ≡ line_told line
    → symbols_in all ≡ s ∷ symbols_in rest
symbol_first {all} {rest} {line} s next is =
    symbols_more next ∙ ap (λ t. symbol_told t ++ symbols_in rest) (sym is)

none_told : (t : Told) → ((s : Symbol) → t ≡ told.Symbol s → ⊥) → symbol_told t ≡ []
none_told (told.Symbol s) other = absurd (other s refl)
none_told Nothing other = refl
none_told Fault other = refl

-- a line that tells nothing, or is none
pub symbol_later : {all rest : List (List ℕ)} {line : List ℕ} (t : Told) → all ≡ line ∷ rest → t ≡ line_told line
    → ((s : Symbol) → t ≡ told.Symbol s → ⊥) → symbols_in all ≡ symbols_in rest
symbol_later {all} {rest} {line} t next is other =
    symbols_more next ∙ ap (λ u. symbol_told u ++ symbols_in rest) (sym is) ∙ ap (λ l. l ++ symbols_in rest) (none_told t other)

pub no_symbols : {all : List (List ℕ)} → all ≡ [] → symbols_in all ≡ []
unfolding symbols_in
no_symbols {all} none = ap symbols_in none

-- ---- the first refused line

-- a line that is not refused
pub refused_later : {all rest : List (List ℕ)} {line : List ℕ} (n lowest next : ℕ) → all ≡ line ∷ rest
    → Some next ≡ lowest_after lowest (line_told line) → refused_from n lowest all ≡ refused_from (n + 1) next rest
unfolding refused_from
refused_later {all} {rest} {line} n lowest next first taken =
    ap (refused_from n lowest) first ∙ ap (λ o. option_map_or (λ k. refused_from (n + 1) k rest) o (Some n)) (sym taken)

-- one that is
pub refused_here : {all rest : List (List ℕ)} {line : List ℕ} (n lowest : ℕ) (next : Option ℕ) → all ≡ line ∷ rest
    → next ≡ lowest_after lowest (line_told line) → ((k : ℕ) → next ≡ Some k → ⊥) → refused_from n lowest all ≡ Some n
unfolding refused_from
refused_here {all} {rest} {line} n lowest None first none other =
    ap (refused_from n lowest) first ∙ ap (λ o. option_map_or (λ k. refused_from (n + 1) k rest) o (Some n)) (sym none)
refused_here {all} {rest} {line} n lowest (Some k) first none other = absurd (other k refl)

pub none_refused : {all : List (List ℕ)} (n lowest : ℕ) → all ≡ [] → refused_from n lowest all ≡ None
unfolding refused_from
none_refused {all} n lowest none = ap (refused_from n lowest) none
