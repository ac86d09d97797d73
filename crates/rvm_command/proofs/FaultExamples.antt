-- Known faults: which runs show one, and how it is reported; and which steps a trace has.
use Rattle.std.proofs.Common.{◌≡◌, ◌∷◌, ℕ, true, false, List, [], Some, None, refl, length, replicate, codes}
use Rattle.std.specs.Fmt.{digits}
use Rattle.rvm_csr.specs.declared.cause.Cause.TheVariants as cause
use Rattle.rvm_csr.specs.declared.cause.Exception.TheVariants as exception
use Rattle.rvm_csr.specs.declared.cause.Interrupt.TheVariants as interrupt
use Rattle.rvm_csr.specs.Registers as csr
use Rattle.rvm_isa.specs.Table as isa
use Rattle.rvm_word.specs.Word.{signed_value}
use Rattle.rvm_hart.specs.Rows.{effect}
use Rattle.rvm_board.specs.Board.{at_reset, new_hart}
use Rattle.rvm_board.specs.Guest.{Guest, fresh}
use Rattle.rvm_board.specs.Turns.{after_turns}
use Rattle.rvm_dis.specs.Disassembly.{text_of}
use Rattle.rvm_dis.specs.Pieces.{hex_digits}
use Rattle.rvm_command.specs.declared.fault.Fault.{Fault}
use Rattle.rvm_command.specs.declared.run.Ended.TheVariants as ended
use Rattle.rvm_command.specs.ExtendedScript.{fault_in_turns, find_done, turns_done}
use Rattle.rvm_command.specs.Faults.{first_fault, latest_fault}
use Rattle.rvm_command.specs.FaultTexts.{fault_text}
use Rattle.rvm_command.specs.Run.{after, ran, run_by}
use Rattle.rvm_command.specs.Taken.{Taken, steps_in}
use Rattle.rvm_command.specs.Watched.{fault_among, line_at, lines_from, run_with, steps_of_run, trace_of, turns_of}

-- a guest of harts at reset, with these bytes in its RAM
abbrev guest : (harts : ℕ) → List ℕ → Guest
guest harts bytes = fresh (at_reset harts 0x80000000 bytes)

-- one hart, whose handler is at the second word
abbrev handled : List ℕ → Guest
handled bytes =
    let g = guest 1 bytes in
    record g { board = record g.board { harts = record (new_hart 0x80000000 0) { csrs = record (csr.at_reset 0) { mtvec = 0x80000004 } } ∷ [] } }

-- a word that is no instruction, and no handler
abbrev illegal : Fault
illegal = record { hart = 0; cause = cause.Exception exception.IllegalInstruction; pc = 0x80000000; value = 0; word = Some 0 }

the_second_trap_shows_the_first : fault_among true [] (steps_of_run None 5 [] (guest 1 (replicate 4 0))) ≡ Some (record { steps = 2; fault = illegal })
unfolding run_by after steps_in first_fault latest_fault isa.decoded isa.row_of isa.table signed_value
the_second_trap_shows_the_first = refl

one_trap_shows_none : fault_among true [] (steps_of_run None 1 [] (guest 1 (replicate 4 0))) ≡ None
unfolding run_by after steps_in first_fault latest_fault isa.decoded isa.row_of isa.table signed_value
one_trap_shows_none = refl

-- two harts take turns: each traps once before the first of them traps again
a_trap_of_another_hart_shows_none : fault_among true [] (steps_of_run None 2 [] (guest 2 (replicate 4 0))) ≡ None
unfolding run_by after steps_in first_fault latest_fault isa.decoded isa.row_of isa.table signed_value
a_trap_of_another_hart_shows_none = refl

each_hart_has_its_own : fault_among true [] (steps_of_run None 5 [] (guest 2 (replicate 4 0))) ≡ Some (record { steps = 3; fault = illegal })
unfolding run_by after steps_in first_fault latest_fault isa.decoded isa.row_of isa.table signed_value
each_hart_has_its_own = refl

-- the handler's first instruction is `addi x0, x0, 0`, and traps follow each other with one step between them
a_handler_that_begins_shows_none : fault_among true [] (steps_of_run None 4 [] (handled (0 ∷ 0 ∷ 0 ∷ 0 ∷ 0x13 ∷ 0 ∷ 0 ∷ 0 ∷ []))) ≡ None
unfolding run_by after steps_in first_fault latest_fault isa.decoded isa.row_of isa.table signed_value effect
a_handler_that_begins_shows_none = refl

-- runs that stop, and that do not
a_run_stops_at_its_fault : (run_with None true None 5 [] (guest 1 (replicate 4 0))).ended ≡ ended.Fault illegal
unfolding run_by after steps_in first_fault latest_fault isa.decoded isa.row_of isa.table signed_value
a_run_stops_at_its_fault = refl

a_run_goes_on : (run_with None false None 5 [] (guest 1 (replicate 4 0))).ended ≡ ended.StepsSpent
unfolding run_by after steps_in first_fault latest_fault isa.decoded isa.row_of isa.table signed_value
a_run_goes_on = refl

it_makes_two_turns : turns_of None true 5 [] (guest 1 (replicate 4 0)) ≡ 2
unfolding run_by after steps_in first_fault latest_fault isa.decoded isa.row_of isa.table signed_value
it_makes_two_turns = refl

-- searches of an extended session
a_search_tells_the_first_trap : (find_done 5 0 (guest 1 (replicate 4 0))).replied.text
    ≡ codes "fault: hart 0 cause 2 (illegal instruction) at 80000000 value 00000000: .word 0x00000000\n"
unfolding after_turns steps_in first_fault latest_fault isa.decoded isa.row_of isa.table signed_value digits hex_digits text_of
a_search_tells_the_first_trap = refl

it_counts_two_turns : (find_done 5 0 (guest 1 (replicate 4 0))).turns ≡ 2
unfolding after_turns steps_in first_fault latest_fault isa.decoded isa.row_of isa.table signed_value
it_counts_two_turns = refl

a_search_of_one_turn_is_that_turn : (find_done 1 0 (guest 1 (replicate 4 0))).replied ≡ (turns_done 1 0 (guest 1 (replicate 4 0))).replied
unfolding after_turns steps_in first_fault latest_fault isa.decoded isa.row_of isa.table signed_value
a_search_of_one_turn_is_that_turn = refl

a_trap_before_a_search_counts_for_nothing : fault_in_turns 1 1 (find_done 1 0 (guest 1 (replicate 4 0))).replied.guest ≡ None
unfolding after_turns steps_in first_fault latest_fault isa.decoded isa.row_of isa.table signed_value
a_trap_before_a_search_counts_for_nothing = refl

-- the turns begin with that of hart 1
a_search_goes_on_in_the_order_of_turns : fault_in_turns 5 1 (guest 2 (replicate 4 0)) ≡ Some (record { steps = 3; fault = record illegal { hart = 1 } })
unfolding after_turns steps_in first_fault latest_fault isa.decoded isa.row_of isa.table signed_value
a_search_goes_on_in_the_order_of_turns = refl

-- the steps of a trace
a_trace_has_its_first_and_its_last_turn : (t0 t1 t2 t3 : Taken) → trace_of (Some (1, 2)) (t0 ∷ t1 ∷ t2 ∷ t3 ∷ []) ≡ line_at 1 t1 ∷ line_at 2 t2 ∷ []
unfolding lines_from
a_trace_has_its_first_and_its_last_turn t0 t1 t2 t3 = refl

a_trace_from_0_has_the_first_turn : (t0 t1 : Taken) → trace_of (Some (0, 0)) (t0 ∷ t1 ∷ []) ≡ line_at 0 t0 ∷ []
unfolding lines_from
a_trace_from_0_has_the_first_turn t0 t1 = refl

a_trace_ends_with_the_step_that_shows_the_fault : length (run_with None true (Some (0, 9)) 5 [] (guest 1 (replicate 4 0))).lines ≡ 2
unfolding run_by after steps_in first_fault latest_fault lines_from isa.decoded isa.row_of isa.table signed_value
a_trace_ends_with_the_step_that_shows_the_fault = refl

-- a run of which nothing is asked
a_plain_run_is_the_run_of_all_its_steps : (steps : ℕ) (input : List ℕ) (g : Guest) → (run_with None false None steps input g).written ≡ (ran steps input g).written
a_plain_run_is_the_run_of_all_its_steps steps input g = refl

-- how faults are reported
an_exception_with_its_instruction : fault_text (record { hart = 0; cause = cause.Exception exception.Breakpoint; pc = 0x80000040; value = 0x80000040; word = Some 0x00100073 })
    ≡ codes "fault: hart 0 cause 3 (breakpoint) at 80000040 value 80000040: ebreak"
unfolding digits hex_digits isa.decoded isa.row_of isa.table signed_value text_of
an_exception_with_its_instruction = refl

an_interrupt : fault_text (record { hart = 7; cause = cause.Interrupt interrupt.Timer; pc = 0x80000040; value = 0; word = Some 0x10500073 })
    ≡ codes "fault: hart 7 interrupt 7 (machine timer interrupt) at 80000040 value 00000000: wfi"
unfolding digits hex_digits isa.decoded isa.row_of isa.table signed_value text_of
an_interrupt = refl

a_word_that_is_no_instruction : fault_text illegal ≡ codes "fault: hart 0 cause 2 (illegal instruction) at 80000000 value 00000000: .word 0x00000000"
unfolding digits hex_digits isa.decoded isa.row_of isa.table signed_value text_of
a_word_that_is_no_instruction = refl

an_address_without_a_word : fault_text (record { hart = 1; cause = cause.Exception exception.InstructionAccessFault; pc = 0x10; value = 0x10; word = None })
    ≡ codes "fault: hart 1 cause 1 (instruction access fault) at 00000010 value 00000010"
unfolding digits hex_digits
an_address_without_a_word = refl
