-- Known lines of a trace: what is shown of a register, of a store and of an atomic access, and of a step that did not
-- retire.
use Rattle.std.proofs.Common.{◌≡◌, ℕ, List, [], ◌∷◌, ◌++◌, Option, Some, None, false, refl, replicate}
use Rattle.std.specs.Prelude.{codes}
use Rattle.std.specs.Fmt.{digits}
use Rattle.rvm_word.specs.Word.{signed_value}
use Rattle.rvm_isa.specs.Table.{table, row_of, decoded}
use Rattle.rvm_isa.specs.Words.{word_of}
use Rattle.rvm_csr.specs.declared.cause.Exception.TheVariants.{EnvironmentCall, InstructionAccessFault, LoadAccessFault}
use Rattle.rvm_csr.specs.declared.cause.Interrupt.TheVariants.{Timer}
use Rattle.rvm_hart.specs.Machine.{HartState, Shared}
use Rattle.rvm_board.specs.declared.event.BoardReply.TheVariants.{Retired, Trapped, Interrupted, Halted, Break}
use Rattle.rvm_board.specs.Guest.{Guest}
use Rattle.rvm_text.specs.Registers.{name_of, abi_names}
use Rattle.rvm_dis.specs.Pieces.{hex_digits}
use Rattle.rvm_dis.specs.Disassembly.{text_of}
use Rattle.rvm_command.specs.declared.trace.Before.{Before}
use Rattle.rvm_command.specs.Trace.{before_of, destination, instruction_text, line_of, outcome_text, register_text, shown, stored_by, turn_text, writes_of, writes_of_word, written_text}

-- x0 to x31: all 0 but for these
abbrev values : (sp a0 a1 : ℕ) → List ℕ
values sp a0 a1 = 0 ∷ 0 ∷ sp ∷ (replicate 7 0 ++ (a0 ∷ a1 ∷ replicate 20 0))

-- a hart before a step, with these registers, this pc and this word at it
abbrev before : (sp a0 a1 pc : ℕ) → Option ℕ → Before
before sp a0 a1 pc word = record { registers = values sp a0 a1 ++ pc ∷ []; word = word }

-- a guest of one hart with these registers, and these bytes in RAM
abbrev guest : HartState → Shared → (sp a0 a1 : ℕ) → List ℕ → Guest
guest h r sp a0 a1 ram =
    record {
      board = record { harts = record h { regs = values sp a0 a1 } ∷ []; shared = record r { bytes = ram } };
      breakpoints = [];
      stopped = false ∷ [];
    }

a_register_has_its_value_after_the_step : (h : HartState) (r : Shared) → line_of 7 0 (before 0 5 0 0x80000000 (Some 0x00150513)) (guest h r 0 6 0 []) Retired ≡ codes "7 0 80000000: 00150513  addi a0, a0, 1  a0=00000006\n"
unfolding line_of turn_text outcome_text instruction_text written_text writes_of_word writes_of destination stored_by register_text shown decoded row_of table signed_value name_of abi_names digits hex_digits word_of text_of
a_register_has_its_value_after_the_step h r = refl

x0_is_not_shown : (h : HartState) (r : Shared) → line_of 8 0 (before 0 5 0 0x80000004 (Some 0x00000013)) (guest h r 0 5 0 []) Retired ≡ codes "8 0 80000004: 00000013  addi zero, zero, 0\n"
unfolding line_of turn_text outcome_text instruction_text written_text writes_of_word writes_of destination stored_by register_text shown decoded row_of table signed_value name_of abi_names digits hex_digits word_of text_of
x0_is_not_shown h r = refl

a_branch_writes_nothing : (h : HartState) (r : Shared) → line_of 9 0 (before 0 5 0 0x80000008 (Some 0x00050463)) (guest h r 0 5 0 []) Retired ≡ codes "9 0 80000008: 00050463  beq a0, zero, 0x80000010\n"
unfolding line_of turn_text outcome_text instruction_text written_text writes_of_word writes_of destination stored_by register_text shown decoded row_of table signed_value name_of abi_names digits hex_digits word_of text_of
a_branch_writes_nothing h r = refl

a_store_is_shown_with_its_bytes : (h : HartState) (r : Shared) → line_of 10 0 (before 0 0x12345678 0x80000100 0x8000000C (Some 0xFEA59F23)) (guest h r 0 0x12345678 0x80000100 []) Retired ≡ codes "10 0 8000000c: fea59f23  sh a0, -2(a1)  [800000fe]=5678\n"
unfolding line_of turn_text outcome_text instruction_text written_text writes_of_word writes_of destination stored_by register_text shown decoded row_of table signed_value name_of abi_names digits hex_digits word_of text_of
a_store_is_shown_with_its_bytes h r = refl

an_amo_is_shown_with_its_new_word : (h : HartState) (r : Shared) → line_of 11 0 (before 0x80000000 1 2 0x80000010 (Some 0x00B1252F)) (guest h r 0x80000000 7 2 (9 ∷ 0 ∷ 0 ∷ 0 ∷ [])) Retired ≡ codes "11 0 80000010: 00b1252f  amoadd.w a0, a1, (sp)  a0=00000007  [80000000]=00000009\n"
unfolding line_of turn_text outcome_text instruction_text written_text writes_of_word writes_of destination stored_by register_text shown decoded row_of table signed_value name_of abi_names digits hex_digits word_of text_of
an_amo_is_shown_with_its_new_word h r = refl

an_sc_that_stored_is_shown_with_its_word : (h : HartState) (r : Shared) → line_of 12 0 (before 0x80000000 1 2 0x80000010 (Some 0x18B1252F)) (guest h r 0x80000000 0 2 []) Retired ≡ codes "12 0 80000010: 18b1252f  sc.w a0, a1, (sp)  a0=00000000  [80000000]=00000002\n"
unfolding line_of turn_text outcome_text instruction_text written_text writes_of_word writes_of destination stored_by register_text shown decoded row_of table signed_value name_of abi_names digits hex_digits word_of text_of
an_sc_that_stored_is_shown_with_its_word h r = refl

an_sc_that_failed_stored_nothing : (h : HartState) (r : Shared) → line_of 12 0 (before 0x80000000 0 2 0x80000010 (Some 0x18B1252F)) (guest h r 0x80000000 1 2 []) Retired ≡ codes "12 0 80000010: 18b1252f  sc.w a0, a1, (sp)  a0=00000001\n"
unfolding line_of turn_text outcome_text instruction_text written_text writes_of_word writes_of destination stored_by register_text shown decoded row_of table signed_value name_of abi_names digits hex_digits word_of text_of
an_sc_that_failed_stored_nothing h r = refl

a_call_traps : (h : HartState) (r : Shared) → line_of 13 0 (before 0 5 0 0x80000014 (Some 0x00000073)) (guest h r 0 5 0 []) (Trapped EnvironmentCall) ≡ codes "13 0 80000014: 00000073  ecall  trapped 11\n"
unfolding line_of turn_text outcome_text instruction_text written_text writes_of_word writes_of destination stored_by register_text shown decoded row_of table signed_value name_of abi_names digits hex_digits word_of text_of
a_call_traps h r = refl

a_load_that_traps_writes_no_register : (h : HartState) (r : Shared) → line_of 14 0 (before 0 5 0 0x80000018 (Some 0x0005A503)) (guest h r 0 5 0 []) (Trapped LoadAccessFault) ≡ codes "14 0 80000018: 0005a503  lw a0, 0(a1)  trapped 5\n"
unfolding line_of turn_text outcome_text instruction_text written_text writes_of_word writes_of destination stored_by register_text shown decoded row_of table signed_value name_of abi_names digits hex_digits word_of text_of
a_load_that_traps_writes_no_register h r = refl

an_instruction_that_was_not_executed_writes_no_register : (h : HartState) (r : Shared) → line_of 15 0 (before 0 5 0 0x80000000 (Some 0x00150513)) (guest h r 0 5 0 []) (Interrupted Timer) ≡ codes "15 0 80000000: 00150513  addi a0, a0, 1  interrupted 7\n"
unfolding line_of turn_text outcome_text instruction_text written_text writes_of_word writes_of destination stored_by register_text shown decoded row_of table signed_value name_of abi_names digits hex_digits word_of text_of
an_instruction_that_was_not_executed_writes_no_register h r = refl

a_breakpoint_comes_before_the_instruction : (h : HartState) (r : Shared) → line_of 16 0 (before 0 5 0 0x80000000 (Some 0x00150513)) (guest h r 0 5 0 []) (Break 0x80000000) ≡ codes "16 0 80000000: 00150513  addi a0, a0, 1  break 80000000\n"
unfolding line_of turn_text outcome_text instruction_text written_text writes_of_word writes_of destination stored_by register_text shown decoded row_of table signed_value name_of abi_names digits hex_digits word_of text_of
a_breakpoint_comes_before_the_instruction h r = refl

a_store_to_the_halt_word : (h : HartState) (r : Shared) → line_of 17 0 (before 0 5 0x00100000 0x8000001C (Some 0x00A5A023)) (guest h r 0 5 0x00100000 []) (Halted 5) ≡ codes "17 0 8000001c: 00a5a023  sw a0, 0(a1)  halted 5\n"
unfolding line_of turn_text outcome_text instruction_text written_text writes_of_word writes_of destination stored_by register_text shown decoded row_of table signed_value name_of abi_names digits hex_digits word_of text_of
a_store_to_the_halt_word h r = refl

no_word_at_pc : (h : HartState) (r : Shared) → line_of 18 0 (before 0 5 0 0x00001000 None) (guest h r 0 5 0 []) (Trapped InstructionAccessFault) ≡ codes "18 0 00001000: --------  trapped 1\n"
unfolding line_of turn_text outcome_text instruction_text written_text writes_of_word writes_of destination stored_by register_text shown decoded row_of table signed_value name_of abi_names digits hex_digits word_of text_of
no_word_at_pc h r = refl

the_word_at_pc_is_seen : (h : HartState) (r : Shared) → (before_of 0 (guest (record h { pc = 0x80000000 }) r 0 5 0 (0x13 ∷ 5 ∷ 0x15 ∷ 0 ∷ []))).word ≡ Some 0x00150513
unfolding before_of
the_word_at_pc_is_seen h r = refl

no_word_is_seen_behind_ram : (h : HartState) (r : Shared) → (before_of 0 (guest (record h { pc = 0x80000004 }) r 0 5 0 (0x13 ∷ 5 ∷ 0x15 ∷ 0 ∷ []))).word ≡ None
unfolding before_of
no_word_is_seen_behind_ram h r = refl
