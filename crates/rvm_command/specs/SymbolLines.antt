-- A file of symbols, as `nm -n` prints them: what each line tells, and which line is refused.
use Rattle.std.specs.Prelude.{ℕ, ◌+◌, nat_le, if◌then◌else◌, List, [], ◌∷◌, ◌++◌, Option, Some, None}
use Rattle.std.specs.Option.{option_map_or}
use Rattle.rvm_debug.specs.Words.{lines, words, without_return}
use Rattle.rvm_command.specs.Symbols.{Symbol, address_of, is_kind}
use Rattle.rvm_command.specs.declared.symbols.Told.{Told}
use Rattle.rvm_command.specs.declared.symbols.Told.TheVariants.{Nothing, Fault}
use Rattle.rvm_command.specs.declared.symbols.Told.TheVariants as told

-- a symbol of this name at an address, or a fault if there is no address
abbrev pub symbol_at : (address : Option ℕ) → (name : List ℕ) → Told
symbol_at None name = Fault
symbol_at (Some a) name = told.Symbol (record { address = a; name = name })

-- what the words of a line tell: `80000000 T _start` a symbol, and `U foo` nothing, nor does a line of no words; no
-- other line stands in such a file
abbrev pub told_by : (words : List (List ℕ)) → Told
told_by [] = Nothing
told_by (word ∷ []) = Fault
told_by (kind ∷ name ∷ []) = if is_kind kind then Nothing else Fault
told_by (address ∷ kind ∷ name ∷ []) = if is_kind kind then symbol_at (address_of address) name else Fault
told_by (address ∷ kind ∷ name ∷ more ∷ rest) = Fault

-- what a line tells
unfoldable pub line_told : (line : List ℕ) → Told
line_told line = told_by (words (without_return line))

-- the symbol that a line tells, if it tells one
abbrev pub symbol_told : Told → List Symbol
symbol_told (told.Symbol s) = s ∷ []
symbol_told Nothing = []
symbol_told Fault = []

-- the symbols that lines tell, in order
unfoldable pub symbols_in : (lines : List (List ℕ)) → List Symbol
symbols_in [] = []
symbols_in (line ∷ rest) = symbol_told (line_told line) ++ symbols_in rest

-- the symbols that a file tells, in order
abbrev pub symbols_of : (file : List ℕ) → List Symbol
symbols_of file = symbols_in (lines file)

-- the lowest address that a symbol may have after a line, by the lowest that it may have in it; none if the line is
-- refused: it is none of such a file, or its symbol has a lower address
abbrev pub lowest_after : (lowest : ℕ) → Told → Option ℕ
lowest_after lowest (told.Symbol s) = if nat_le lowest s.address then Some s.address else None
lowest_after lowest Nothing = Some lowest
lowest_after lowest Fault = None

-- the number of the first of these lines that is refused, if one is; the first line has this number
unfoldable pub refused_from : (number lowest : ℕ) → (lines : List (List ℕ)) → Option ℕ
refused_from n lowest [] = None
refused_from n lowest (line ∷ rest) =
    option_map_or (λ next. refused_from (n + 1) next rest) (lowest_after lowest (line_told line)) (Some n)

-- the number, counted from 1, of the first line of a file that is refused, if one is
abbrev pub refused_line : (file : List ℕ) → Option ℕ
refused_line file = refused_from 1 0 (lines file)
