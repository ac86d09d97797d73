-- Known values.
use Rattle.std.proofs.Common.{◌≡◌, ◌+◌, ◌-◌, ◌*◌, ◌^◌, None, Some, true, false, refl}
use Rattle.rvm_csr.specs.declared.interrupts.Interrupts.{Interrupts}
use Rattle.rvm_csr.specs.declared.cause.Interrupt.TheVariants.{Timer, External}
use Rattle.rvm_csr.specs.declared.cause.Exception.TheVariants.{StoreAccessFault, EnvironmentCall}
use Rattle.rvm_csr.specs.declared.cause.Cause.TheVariants as cause
use Rattle.rvm_csr.specs.Cause.{cause_number}
use Rattle.rvm_csr.specs.Counters.{ticked}
use Rattle.rvm_csr.specs.declared.register.Csr.TheVariants.{Mhartid}
use Rattle.rvm_csr.specs.Registers.{CsrState, at_reset, interrupt_bits, interrupts_of, mstatus_of, no_interrupts}
use Rattle.rvm_csr.specs.Table.{table, csr_at, csr_read, csr_write}
use Rattle.rvm_csr.specs.Traps.{pending, trap_entered, trap_left, trap_target}

hartid : csr_at 0xF14 ≡ Some Mhartid
unfolding table csr_at
hartid = refl

-- medeleg is not there, since there is no supervisor mode
no_delegation : csr_at 0x302 ≡ None
unfolding table csr_at
no_delegation = refl

hartid_is_read_only : csr_write 0xF14 1 (at_reset 1) ≡ None
hartid_is_read_only = refl

-- after reset MPP alone is set
mstatus_at_reset : csr_read 0x300 no_interrupts (at_reset 0) ≡ Some 0x1800
unfolding table csr_at
mstatus_at_reset = refl

mtvec_keeps_its_mode :
    csr_write 0x305 0xFFFF_FFFF (at_reset 0) ≡ Some (record (at_reset 0) { mtvec = 0xFFFF_FFFD })
unfolding table csr_at
mtvec_keeps_its_mode = refl

mepc_is_aligned :
    csr_write 0x341 0x8000_0003 (at_reset 0) ≡ Some (record (at_reset 0) { mepc = 0x8000_0000 })
unfolding table csr_at
mepc_is_aligned = refl

abbrev all_interrupts : Interrupts
all_interrupts = record { software = true; timer = true; external = true }

abbrev open_to_all : CsrState
open_to_all =
    record (at_reset 0) { interrupts_enabled = true; mie = all_interrupts; mtvec = 0x8000_0101 }

external_is_first : pending all_interrupts open_to_all ≡ Some External
external_is_first = refl

-- a vectored timer interrupt goes to the seventh word
timer_is_vectored : trap_target (cause.Interrupt Timer) open_to_all ≡ 0x8000_0100 + 28
timer_is_vectored = refl

-- no interrupt is pending if MIE is clear
none_is_pending_with_mie_clear :
    pending all_interrupts (record open_to_all { interrupts_enabled = false }) ≡ None
none_is_pending_with_mie_clear = refl

-- an interrupt is not pending if its bit in mie is clear
software_needs_its_bit_in_mie :
    pending all_interrupts (record open_to_all { mie = record no_interrupts { timer = true } }) ≡ Some Timer
software_needs_its_bit_in_mie = refl

-- the numbers that mcause holds
a_store_access_fault_is_7 : cause_number (cause.Exception StoreAccessFault) ≡ 7
a_store_access_fault_is_7 = refl

an_environment_call_from_m_mode_is_11 : cause_number (cause.Exception EnvironmentCall) ≡ 11
an_environment_call_from_m_mode_is_11 = refl

an_external_interrupt_has_bit_31 : cause_number (cause.Interrupt External) ≡ 0x8000000B
an_external_interrupt_has_bit_31 = refl

-- a trap clears MIE and keeps it in MPIE, and mret gives it back and sets MPIE
abbrev entered : CsrState
entered = trap_entered (cause.Interrupt Timer) 0 0x8000_0010 open_to_all

mstatus_in_a_handler : mstatus_of entered ≡ 0x1880
mstatus_in_a_handler = refl

mstatus_behind_mret : mstatus_of (trap_left entered) ≡ 0x1888
mstatus_behind_mret = refl

mret_from_reset_leaves_mie_clear : mstatus_of (trap_left (at_reset 0)) ≡ 0x1880
mret_from_reset_leaves_mie_clear = refl

-- bits 3, 7 and 11 of a word
mie_has_the_timers_bit_alone : interrupts_of 0x80 ≡ record no_interrupts { timer = true }
mie_has_the_timers_bit_alone = refl

mie_keeps_three_bits : interrupt_bits (interrupts_of 0xFFFF_FFFF) ≡ 0x888
mie_keeps_three_bits = refl

-- the counters have 64 bits, and are read and written by halves
a_counter_goes_on_from_0 : (ticked true false (record (at_reset 0) { mcycle = 2 ^ 64 - 1 })).mcycle ≡ 0
a_counter_goes_on_from_0 = refl

a_counter_that_does_not_count_stays : (ticked true false (record (at_reset 0) { minstret = 9 })).minstret ≡ 9
a_counter_that_does_not_count_stays = refl

mcycleh_is_the_upper_half :
    csr_read 0xB80 no_interrupts (record (at_reset 0) { mcycle = 3 * 2 ^ 32 + 5 }) ≡ Some 3
unfolding table csr_at
mcycleh_is_the_upper_half = refl

mcycleh_is_written_alone :
    csr_write 0xB80 7 (record (at_reset 0) { mcycle = 3 * 2 ^ 32 + 5 })
    ≡ Some (record (at_reset 0) { mcycle = 7 * 2 ^ 32 + 5 })
unfolding table csr_at
mcycleh_is_written_alone = refl
