-- The profile of a run: how many of its steps ran a word of each symbol.
use Rattle.std.specs.Prelude.{ℕ, ◌+◌, ◌*◌, ◌%◌, ◌==◌, ◌&&◌, Bool, true, nat_le, nat_lt, List, [], ◌∷◌, ◌++◌, Option, Some, None, count_by, codes}
use Rattle.rvm_board.specs.Events.{pc_of}
use Rattle.rvm_hart.specs.Bus.{ram_base}
use Rattle.rvm_command.specs.Coverage.{has_run, in_ten}
use Rattle.rvm_command.specs.SymbolLines.{symbols_of}
use Rattle.rvm_command.specs.Symbols.{Symbol}
use Rattle.rvm_command.specs.Taken.{Taken}

-- whether an address is that of a word in RAM of this many pages
abbrev pub is_word : (pages address : ℕ) → Bool
is_word pages a = a % 4 == 0 && (nat_le ram_base a && nat_lt a (ram_base + 4096 * pages))

-- whether an address stands before the end of a range, if it has one
abbrev pub is_before : (end : Option ℕ) → (address : ℕ) → Bool
is_before None a = true
is_before (Some end) a = nat_lt a end

-- whether a step ran the instruction at a word of RAM in a range of addresses
abbrev pub ran_between : (pages from : ℕ) → (end : Option ℕ) → Taken → Bool
ran_between pages from end t =
    let pc = pc_of t.hart t.before in
    (is_word pages pc && (nat_le from pc && is_before end pc)) && has_run t.reply

-- how many of these steps did so
unfoldable pub steps_between : (pages : ℕ) → List Taken → (from : ℕ) → (end : Option ℕ) → ℕ
steps_between pages ts from end = count_by (ran_between pages from end) ts

-- where the words of a symbol end that has these after it: at the next one, if there is one
abbrev pub end_before : (after : List Symbol) → Option ℕ
end_before [] = None
end_before (next ∷ others) = Some next.address

-- the line of a symbol: a number in ten columns, two spaces, and the name
abbrev pub symbol_line : (number : ℕ) → (name : List ℕ) → List ℕ
symbol_line n name = in_ten n ++ codes "  " ++ name ++ codes "\n"

-- the lines of symbols, each with the number of its range
unfoldable pub symbol_lines : (number : ℕ → Option ℕ → ℕ) → List Symbol → List ℕ
symbol_lines number [] = []
symbol_lines number (s ∷ after) = symbol_line (number s.address (end_before after)) s.name ++ symbol_lines number after

-- the profile of a run in RAM of this many pages that made these steps, by a file of symbols
abbrev pub profile : (pages : ℕ) → (file : List ℕ) → List Taken → List ℕ
profile pages file ts = symbol_lines (steps_between pages ts) (symbols_of file)
