-- Known profiles: what the lines of a file of symbols tell, which lines are refused, and which steps count for which
-- symbol.
use Rattle.std.proofs.Common.{◌≡◌, ◌∷◌, ℕ, List, [], Option, None, Some, refl, codes}
use Rattle.std.specs.Fmt.{digits}
use Rattle.rvm_board.specs.Board.{at_reset}
use Rattle.rvm_board.specs.Guest.{Guest, fresh}
use Rattle.rvm_board.specs.declared.event.BoardReply.TheVariants.{Break, Interrupted, Retired}
use Rattle.rvm_csr.specs.declared.cause.Interrupt.TheVariants.{Timer}
use Rattle.rvm_debug.specs.Words.{lines_from, words_from}
use Rattle.rvm_hart.specs.Rows.{effect}
use Rattle.rvm_isa.specs.Table as isa
use Rattle.rvm_word.specs.Word.{signed_value}
use Rattle.rvm_command.specs.Profile.{profile, steps_between, symbol_lines}
use Rattle.rvm_command.specs.Run.{after, run_by}
use Rattle.rvm_command.specs.SymbolLines.{line_told, refused_from, refused_line, symbols_in, symbols_of}
use Rattle.rvm_command.specs.Symbols.{Symbol, address_of}
use Rattle.rvm_command.specs.Taken.{Taken, steps_in}
use Rattle.rvm_command.specs.Watched.{steps_of_run}

-- ---- lines

-- a symbol
abbrev symbol : (address : ℕ) → (name : List ℕ) → Symbol
symbol a name = record { address = a; name = name }

-- spaces may stand before a line and several between its words, and digits may be capital
symbols_are_listed : symbols_of (codes "80000000 T _start\n\n         U printf\n8000abCD  t\tloop.1\n")
    ≡ symbol 0x80000000 (codes "_start") ∷ symbol 0x8000ABCD (codes "loop.1") ∷ []
unfolding lines_from words_from line_told symbols_in address_of
symbols_are_listed = refl

no_line_of_it_is_refused : refused_line (codes "80000000 T _start\n\n         U printf\n80000000 T main\n") ≡ None
unfolding lines_from words_from line_told refused_from address_of
no_line_of_it_is_refused = refl

a_lower_address_is_refused : refused_line (codes "80000004 T main\n         U printf\n80000000 T _start\n") ≡ Some 3
unfolding lines_from words_from line_told refused_from address_of
a_lower_address_is_refused = refl

-- seven digits, nine digits, a byte that is no digit, no kind, two letters for one, and two names
abbrev faulty_lines : List (List ℕ)
faulty_lines =
    codes "8000000 T main" ∷ codes "080000000 T main" ∷ codes "8000000g T main" ∷ codes "80000000 main"
    ∷ codes "80000000 TT main" ∷ codes "80000000 T main main" ∷ codes "main" ∷ []

abbrev refused_lines : List (List ℕ) → List (Option ℕ)
refused_lines [] = []
refused_lines (line ∷ lines) = refused_line line ∷ refused_lines lines

each_fault_is_refused : refused_lines faulty_lines ≡ Some 1 ∷ Some 1 ∷ Some 1 ∷ Some 1 ∷ Some 1 ∷ Some 1 ∷ Some 1 ∷ []
unfolding lines_from words_from line_told refused_from address_of
each_fault_is_refused = refl

-- ---- steps

-- `addi zero, zero, 0`, and a word that is no instruction
abbrev words : List ℕ
words = 0x13 ∷ 0 ∷ 0 ∷ 0 ∷ 0 ∷ 0 ∷ 0 ∷ 0 ∷ []

-- a guest of harts at reset, whose RAM is these two words
abbrev guest : (harts : ℕ) → Guest
guest harts = fresh (at_reset harts 0x80000000 words)

-- hart 0, hart 1, and hart 0 again, which traps
abbrev three_turns : List Taken
three_turns = steps_of_run None 3 [] (guest 2)

-- the symbol before has the words up to the next one; of two with one address the second has them; the last one has
-- those up to the end of RAM
each_symbol_has_a_line : profile 1 (codes "00000001 A size\n80000000 T _start\n80000000 T main\n80000004 t stop\n") three_turns
    ≡ codes "         0  size\n         0  _start\n         2  main\n         1  stop\n"
unfolding run_by after steps_in effect isa.decoded isa.row_of isa.table signed_value lines_from words_from line_told symbols_in address_of symbol_lines steps_between digits
each_symbol_has_a_line = refl

-- a word that begins before the address of a symbol is none of it
a_symbol_begins_with_a_whole_word : profile 1 (codes "80000001 t inner\n") three_turns ≡ codes "         1  inner\n"
unfolding run_by after steps_in effect isa.decoded isa.row_of isa.table signed_value lines_from words_from line_told symbols_in address_of symbol_lines steps_between digits
a_symbol_begins_with_a_whole_word = refl

-- with no page there is no word of RAM
nothing_runs_outside_ram : profile 0 (codes "80000000 T _start\n") three_turns ≡ codes "         0  _start\n"
unfolding run_by after steps_in effect isa.decoded isa.row_of isa.table signed_value lines_from words_from line_told symbols_in address_of symbol_lines steps_between digits
nothing_runs_outside_ram = refl

an_instruction_that_waits_does_not_count : steps_between 1
    (record { hart = 0; before = guest 1; after = guest 1; reply = Interrupted Timer }
    ∷ record { hart = 0; before = guest 1; after = guest 1; reply = Break 0x80000000 }
    ∷ record { hart = 0; before = guest 1; after = guest 1; reply = Retired } ∷ []) 0x80000000 None ≡ 1
unfolding steps_between
an_instruction_that_waits_does_not_count = refl
