-- Known coverages: which steps count, at which word, and how a number is written before its line.
use Rattle.std.proofs.Common.{◌≡◌, ◌∷◌, ℕ, List, [], None, refl, codes}
use Rattle.std.specs.Fmt.{digits}
use Rattle.rvm_asm.specs.Images.{piece}
use Rattle.rvm_board.specs.Board.{at_reset}
use Rattle.rvm_board.specs.Guest.{Guest, fresh}
use Rattle.rvm_board.specs.declared.event.BoardReply.TheVariants.{Break, Interrupted, Retired}
use Rattle.rvm_csr.specs.declared.cause.Interrupt.TheVariants.{Timer}
use Rattle.rvm_dis.specs.Disassembly.{text_of}
use Rattle.rvm_dis.specs.Pieces.{hex_digits}
use Rattle.rvm_hart.specs.Rows.{effect}
use Rattle.rvm_isa.specs.Table as isa
use Rattle.rvm_text.specs.Registers.{abi_names, name_of}
use Rattle.rvm_word.specs.Word.{signed_value}
use Rattle.rvm_command.specs.Coverage.{counted_lines, counted_listing, coverage, in_ten, runs_at}
use Rattle.rvm_command.specs.Run.{after, run_by}
use Rattle.rvm_command.specs.Taken.{Taken, steps_in}
use Rattle.rvm_command.specs.Watched.{steps_of_run}

-- `addi zero, zero, 0`, and a word that is no instruction
abbrev words : List ℕ
words = 0x13 ∷ 0 ∷ 0 ∷ 0 ∷ 0 ∷ 0 ∷ 0 ∷ 0 ∷ []

-- a guest of harts at reset, whose RAM is these two words
abbrev guest : (harts : ℕ) → Guest
guest harts = fresh (at_reset harts 0x80000000 words)

-- hart 0, hart 1, and hart 0 again, which traps
abbrev three_turns : List Taken
three_turns = steps_of_run None 3 [] (guest 2)

steps_of_all_harts_count : runs_at three_turns 0x80000000 ≡ 2
unfolding run_by after steps_in runs_at effect isa.decoded isa.row_of isa.table signed_value
steps_of_all_harts_count = refl

a_step_that_traps_counts : runs_at three_turns 0x80000004 ≡ 1
unfolding run_by after steps_in runs_at effect isa.decoded isa.row_of isa.table signed_value
a_step_that_traps_counts = refl

a_step_counts_at_its_pc_alone : runs_at three_turns 0x80000002 ≡ 0
unfolding run_by after steps_in runs_at effect isa.decoded isa.row_of isa.table signed_value
a_step_counts_at_its_pc_alone = refl

an_instruction_that_waits_does_not_count : runs_at
    (record { hart = 0; before = guest 1; after = guest 1; reply = Interrupted Timer }
    ∷ record { hart = 0; before = guest 1; after = guest 1; reply = Break 0x80000000 }
    ∷ record { hart = 0; before = guest 1; after = guest 1; reply = Retired } ∷ []) 0x80000000 ≡ 1
unfolding runs_at
an_instruction_that_waits_does_not_count = refl

a_number_has_ten_columns : in_ten 0 ∷ in_ten 1234567 ∷ in_ten 4294967295 ∷ []
    ≡ codes "         0" ∷ codes "   1234567" ∷ codes "4294967295" ∷ []
unfolding digits
a_number_has_ten_columns = refl

-- the listing of a piece that begins with two bytes before its first word
a_coverage_lists_each_word : coverage (piece 0x7FFFFFFE (1 ∷ 2 ∷ words) ∷ []) three_turns
    ≡ codes "         2  80000000: 00000013  addi zero, zero, 0\n         1  80000004: 00000000  .word 0x00000000\n"
unfolding run_by after steps_in runs_at counted_lines counted_listing effect isa.decoded isa.row_of isa.table signed_value name_of abi_names digits hex_digits text_of
a_coverage_lists_each_word = refl
