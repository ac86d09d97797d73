-- The step computed on small boards, against values worked out by hand from the manuals.
use Rattle.std.proofs.Common.{◌≡◌, ℕ, List, [], ◌∷◌, true, false, set, refl}
use Rattle.std.specs.Prelude.{slice_index, flat_map, replicate}
use Rattle.rvm_mem.specs.Endian.{little_bytes}
use Rattle.rvm_csr.specs.declared.cause.Exception.TheVariants.{IllegalInstruction, InstructionAccessFault, EnvironmentCall}
use Rattle.rvm_csr.specs.declared.cause.Interrupt.TheVariants.{Timer}
use Rattle.rvm_csr.specs.Registers.{mstatus_of}
use Rattle.rvm_csr.specs.Table as csr
use Rattle.rvm_dev.specs.Map.{register_at}
use Rattle.rvm_isa.specs.Table as isa
use Rattle.rvm_word.specs.Word.{signed_value}
use Rattle.rvm_hart.specs.Rows.{effect}
use Rattle.rvm_hart.specs.declared.outcome.Stepped.{Stepped}
use Rattle.rvm_hart.specs.declared.outcome.Stepped.TheVariants.{Retired, Trapped, Interrupted, Halted}
use Rattle.rvm_board.specs.Board.{Board, at_reset, is_allowed, stepped, hart_at}
use Rattle.rvm_board.specs.Pokes.{is_view}

-- a board of this many harts whose RAM begins with these words
abbrev board : ℕ → List ℕ → Board
board harts words = at_reset harts 0x80000000 (flat_map (little_bytes 4) words)

-- the answers of steps of these harts, and the board that they leave
unfoldable answers : List ℕ → Board → List Stepped
answers [] b = []
answers (h ∷ hs) b = (stepped h b).answer ∷ answers hs (stepped h b).board

unfoldable after : List ℕ → Board → Board
after [] b = b
after (h ∷ hs) b = after hs (stepped h b).board

-- a board with a register of a hart set
abbrev with_register : (hart register value : ℕ) → Board → Board
with_register h r v b = record b { harts = set b.harts h (record (hart_at h b) { regs = set (hart_at h b).regs r v }) }

-- a word of zeros is illegal; mtvec is 0, so the next fetch is outside RAM
a_word_without_a_row_traps : answers (0 ∷ 0 ∷ []) (board 1 (0 ∷ [])) ≡ Trapped IllegalInstruction ∷ Trapped InstructionAccessFault ∷ []
unfolding answers effect isa.decoded isa.row_of isa.table signed_value
a_word_without_a_row_traps = refl

what_the_trap_leaves : let h = hart_at 0 (after (0 ∷ []) (board 1 (0xFFFFFFFF ∷ []))) in (h.csrs.mepc ∷ h.csrs.mtval ∷ h.pc ∷ h.csrs.mcycle ∷ h.csrs.minstret ∷ []) ≡ 0x80000000 ∷ 0xFFFFFFFF ∷ 0 ∷ 1 ∷ 0 ∷ []
unfolding after effect isa.decoded isa.row_of isa.table signed_value
what_the_trap_leaves = refl

-- jal x0, 2
a_misaligned_target_traps_on_the_jump : let b = after (0 ∷ []) (board 1 (0x0020006F ∷ [])) in ((hart_at 0 b).csrs.mepc ∷ (hart_at 0 b).csrs.mtval ∷ (hart_at 0 b).csrs.mcause ∷ []) ≡ 0x80000000 ∷ 0x80000002 ∷ 0 ∷ []
unfolding after effect isa.decoded isa.row_of isa.table signed_value
a_misaligned_target_traps_on_the_jump = refl

-- csrrs x1, mhartid, x0 at hart 1, and csrrw x0, mhartid, x1
mhartid_is_the_harts_number : slice_index (hart_at 1 (after (1 ∷ []) (board 2 (0xF14020F3 ∷ [])))).regs 1 ≡ 1
unfolding after effect isa.decoded isa.row_of isa.table csr.csr_at csr.table signed_value
mhartid_is_the_harts_number = refl

mhartid_is_read_only : answers (0 ∷ []) (board 1 (0xF1409073 ∷ [])) ≡ Trapped IllegalInstruction ∷ []
unfolding answers effect isa.decoded isa.row_of isa.table csr.csr_at csr.table signed_value
mhartid_is_read_only = refl

-- lui t0, 0x80001; csrrw x0, mtvec, t0; ecall
trap_words : List ℕ
trap_words = 0x800012B7 ∷ 0x30529073 ∷ 0x00000073 ∷ []

an_environment_call_enters_the_handler : answers (0 ∷ 0 ∷ 0 ∷ []) (board 1 trap_words) ≡ Retired ∷ Retired ∷ Trapped EnvironmentCall ∷ []
unfolding answers trap_words effect isa.decoded isa.row_of isa.table csr.csr_at csr.table signed_value
an_environment_call_enters_the_handler = refl

what_the_call_leaves : let h = hart_at 0 (after (0 ∷ 0 ∷ 0 ∷ []) (board 1 trap_words)) in (h.csrs.mepc ∷ h.pc ∷ mstatus_of h.csrs ∷ h.csrs.mcycle ∷ h.csrs.minstret ∷ []) ≡ 0x80000008 ∷ 0x80001000 ∷ 0x1800 ∷ 3 ∷ 2 ∷ []
unfolding after trap_words effect isa.decoded isa.row_of isa.table csr.csr_at csr.table signed_value
what_the_call_leaves = refl

-- mie bit 7 and MIE set, then mtimecmp 0: the timer interrupt comes before the seventh instruction
timer_words : List ℕ
timer_words = 0x08000293 ∷ 0x30429073 ∷ 0x30045073 ∷ 0x02004337 ∷ 0x00032223 ∷ 0x00032023 ∷ []

seven : List ℕ
seven = replicate 7 0

the_timer_interrupts : answers seven (board 1 timer_words) ≡ Retired ∷ Retired ∷ Retired ∷ Retired ∷ Retired ∷ Retired ∷ Interrupted Timer ∷ []
unfolding answers seven timer_words effect isa.decoded isa.row_of isa.table csr.csr_at csr.table register_at signed_value
the_timer_interrupts = refl

what_the_interrupt_leaves : let b = after seven (board 1 timer_words) in ((hart_at 0 b).csrs.mepc ∷ (hart_at 0 b).csrs.mcause ∷ mstatus_of (hart_at 0 b).csrs ∷ (hart_at 0 b).pc ∷ b.shared.devices.mtime ∷ (hart_at 0 b).csrs.minstret ∷ []) ≡ 0x80000018 ∷ 0x80000007 ∷ 0x1880 ∷ 0 ∷ 7 ∷ 6 ∷ []
unfolding after seven timer_words effect isa.decoded isa.row_of isa.table csr.csr_at csr.table register_at signed_value
what_the_interrupt_leaves = refl

-- lr.w x5, (x10); sc.w x6, x7, (x10) at hart 0, and sw x7, 0(x10) at hart 1
reservation_words : List ℕ
reservation_words = 0x100522AF ∷ 0x1875232F ∷ 0x00752023 ∷ 0 ∷ []

-- both harts point x10 at the last word; hart 1 stands at its store
reserving : Board
reserving =
    let b = with_register 1 7 9 (with_register 1 10 0x8000000C (with_register 0 7 5 (with_register 0 10 0x8000000C (board 2 reservation_words)))) in
    record b { harts = set b.harts 1 (record (hart_at 1 b) { pc = 0x80000008 }) }

a_store_of_another_hart_ends_the_reservation : let b = after (0 ∷ 1 ∷ 0 ∷ []) reserving in (slice_index (hart_at 0 b).regs 6 ∷ slice_index b.shared.bytes 12 ∷ []) ≡ 1 ∷ 9 ∷ []
unfolding after reserving reservation_words effect isa.decoded isa.row_of isa.table signed_value
a_store_of_another_hart_ends_the_reservation = refl

without_it_the_word_is_stored : let b = after (0 ∷ 0 ∷ []) reserving in (slice_index (hart_at 0 b).regs 6 ∷ slice_index b.shared.bytes 12 ∷ []) ≡ 0 ∷ 5 ∷ []
unfolding after reserving reservation_words effect isa.decoded isa.row_of isa.table signed_value
without_it_the_word_is_stored = refl

-- amoadd.w x5, x6, (x10) at 0x80000002
a_misaligned_atomic_stores_nothing : let b = after (0 ∷ []) (with_register 0 10 0x80000002 (board 1 (0x006522AF ∷ []))) in ((hart_at 0 b).csrs.mcause ∷ (hart_at 0 b).csrs.mtval ∷ b.shared.bytes) ≡ 6 ∷ 0x80000002 ∷ little_bytes 4 0x006522AF
unfolding after effect isa.decoded isa.row_of isa.table signed_value
a_misaligned_atomic_stores_nothing = refl

-- the guest that prints Hi and halts with 0
hi_words : List ℕ
hi_words = 0x100002B7 ∷ 0x04800313 ∷ 0x0062A023 ∷ 0x06900313 ∷ 0x0062A023 ∷ 0x00A00313 ∷ 0x0062A023 ∷ 0x001003B7 ∷ 0x0003A023 ∷ []

nine : List ℕ
nine = replicate 9 0

the_ninth_step_halts : answers nine (board 1 hi_words) ≡ Retired ∷ Retired ∷ Retired ∷ Retired ∷ Retired ∷ Retired ∷ Retired ∷ Retired ∷ Halted 0 ∷ []
unfolding answers nine hi_words effect isa.decoded isa.row_of isa.table register_at signed_value
the_ninth_step_halts = refl

what_the_guest_sent : (after nine (board 1 hi_words)).shared.devices.output ≡ 0x48 ∷ 0x69 ∷ 0x0A ∷ []
unfolding after nine hi_words effect isa.decoded isa.row_of isa.table register_at signed_value
what_the_guest_sent = refl

-- what makes a board, and what is read of it at once
eight_harts_are_allowed : is_allowed 8 0x80000000 (0 ∷ []) ≡ true
eight_harts_are_allowed = refl

nine_harts_are_not : is_allowed 9 0x80000000 (0 ∷ []) ≡ false
nine_harts_are_not = refl

an_odd_entry_is_not : is_allowed 1 0x80000002 (0 ∷ []) ≡ false
an_odd_entry_is_not = refl

the_whole_of_a_ram_of_256_bytes_is_a_view : is_view 0x80000000 256 (board 1 (replicate 64 0)) ≡ true
the_whole_of_a_ram_of_256_bytes_is_a_view = refl

no_view_has_257_bytes : is_view 0x80000000 257 (board 1 (replicate 65 0)) ≡ false
no_view_has_257_bytes = refl

no_view_has_none : is_view 0x80000000 0 (board 1 (0 ∷ [])) ≡ false
no_view_has_none = refl

no_view_goes_past_the_end : is_view 0x80000001 4 (board 1 (0 ∷ [])) ≡ false
no_view_goes_past_the_end = refl
