-- Known values.
use Rattle.std.proofs.Common.{◌≡◌, [], ◌∷◌, None, Some, true, false, replicate, refl}
use Rattle.rvm_dev.specs.declared.register.Register.TheVariants.{Halt, Msip, MtimecmpLow, MtimecmpHigh, Transmit, Receive, Status}
use Rattle.rvm_dev.specs.Map.{register_at}
use Rattle.rvm_dev.specs.Devices.{DeviceState, at_reset, value_of, value_loaded, after_load, after_store, timer_is_pending, external_is_pending}

low_word_of_hart_1 : register_at 2 0x2004008 ≡ Some (MtimecmpLow 1)
unfolding register_at
low_word_of_hart_1 = refl

-- a board of one hart has no word there
no_hart_1 : register_at 1 0x2004008 ≡ None
unfolding register_at
no_hart_1 = refl

-- with nothing to receive there is room to send
status_of_empty_queues : value_of Status (at_reset 1) ≡ 2
status_of_empty_queues = refl

nothing_is_received : value_loaded 0x10000004 (at_reset 1) ≡ Some 0xFFFF_FFFF
unfolding register_at
nothing_is_received = refl

abbrev full : DeviceState
full = record (at_reset 1) { output = replicate 4096 0x2A }

full_queue_overruns : after_store Transmit 0x2B full ≡ record full { overrun = true }
full_queue_overruns = refl

overrun_is_cleared_by_bit_2 : after_store Status 4 (record full { overrun = true }) ≡ full
overrun_is_cleared_by_bit_2 = refl

overrun_stays_without_bit_2 : after_store Status 3 (record full { overrun = true }) ≡ record full { overrun = true }
overrun_stays_without_bit_2 = refl

status_has_8_bits : after_store Halt 0x1FE (at_reset 1) ≡ record (at_reset 1) { halted = Some 0xFE }
status_has_8_bits = refl

bit_0_of_hart_1 : after_store (Msip 1) 0xFF (at_reset 2) ≡ record (at_reset 2) { msip = false ∷ true ∷ [] }
bit_0_of_hart_1 = refl

high_word_alone : after_store (MtimecmpHigh 0) 0 (at_reset 1) ≡ record (at_reset 1) { mtimecmp = 0xFFFF_FFFF ∷ [] }
high_word_alone = refl

-- the timer is pending once the time has reached mtimecmp, and not before
abbrev timed : DeviceState
timed = record (at_reset 2) { mtimecmp = 7 ∷ 8 ∷ []; mtime = 7 }

time_has_come : timer_is_pending 0 timed ≡ true
time_has_come = refl

time_is_to_come : timer_is_pending 1 timed ≡ false
time_is_to_come = refl

-- they are compared as unsigned numbers
all_ones_is_far : timer_is_pending 0 (at_reset 1) ≡ false
all_ones_is_far = refl

-- a byte that waits interrupts hart 0, and no other, if interrupts are enabled
abbrev waiting : DeviceState
waiting = record (at_reset 2) { input = 0x61 ∷ 0x62 ∷ []; interrupt_enable = true }

hart_0_is_interrupted : external_is_pending 0 waiting ≡ true
hart_0_is_interrupted = refl

hart_1_is_not : external_is_pending 1 waiting ≡ false
hart_1_is_not = refl

-- the oldest byte is received, and is gone
oldest_byte : value_of Receive waiting ≡ 0x61
oldest_byte = refl

one_byte_is_left : after_load Receive waiting ≡ record waiting { input = 0x62 ∷ [] }
one_byte_is_left = refl

status_of_waiting_input : value_of Status waiting ≡ 3
status_of_waiting_input = refl
