-- Known guests: a hart stops once at a breakpoint, and breakpoints stand rising.
use Rattle.std.proofs.Common.{◌≡◌, ◌*◌, [], ◌∷◌, false, true, map, refl}
use Rattle.std.specs.List.{range_with_len}
use Rattle.rvm_hart.specs.Machine.{HartState, Shared}
use Rattle.rvm_board.specs.Guest.{Guest, with, without}
use Rattle.rvm_board.specs.Events.{after_poke, drains, sets_breakpoint, steps_on, stops}
use Rattle.rvm_board.specs.declared.event.BoardRefusal.TheVariants.{OutOfRange, TooManyBreaks}
use Rattle.rvm_board.specs.declared.event.BoardReply.TheVariants.{Break, Done, Refused}

-- one hart, before the instruction at which a breakpoint is set
abbrev at_breakpoint : HartState → Shared → Guest
at_breakpoint h r =
    record {
      board = record { harts = record h { pc = 0x80000010 } ∷ []; shared = r };
      breakpoints = 0x80000010 ∷ [];
      stopped = false ∷ [];
    }

a_hart_stops_at_a_breakpoint : (h : HartState) (r : Shared) → (steps_on 0 (at_breakpoint h r)).reply ≡ Break 0x80000010
a_hart_stops_at_a_breakpoint h r = refl

a_stop_changes_nothing_else : (h : HartState) (r : Shared) → (steps_on 0 (at_breakpoint h r)).guest ≡ record (at_breakpoint h r) { stopped = true ∷ [] }
a_stop_changes_nothing_else h r = refl

a_hart_stops_once : (h : HartState) (r : Shared) → stops 0 (steps_on 0 (at_breakpoint h r)).guest ≡ false
a_hart_stops_once h r = refl

a_breakpoint_stands_at_its_place : with 5 (3 ∷ 9 ∷ []) ≡ 3 ∷ 5 ∷ 9 ∷ []
a_breakpoint_stands_at_its_place = refl

a_breakpoint_is_cleared : without 5 (3 ∷ 5 ∷ 9 ∷ []) ≡ 3 ∷ 9 ∷ []
a_breakpoint_is_cleared = refl

-- a guest whose 64 breakpoints stand at the first multiples of four
abbrev full : HartState → Shared → Guest
full h r =
    record {
      board = record { harts = h ∷ []; shared = r };
      breakpoints = map (λ n. 4 * n) (range_with_len 0 64);
      stopped = true ∷ [];
    }

a_65th_breakpoint_is_refused : (h : HartState) (r : Shared) → (sets_breakpoint 256 (full h r)).reply ≡ Refused TooManyBreaks
a_65th_breakpoint_is_refused h r = refl

one_that_is_set_can_be_set_again : (h : HartState) (r : Shared) → (sets_breakpoint 252 (full h r)).reply ≡ Done
one_that_is_set_can_be_set_again h r = refl

-- a hart whose pc is set from outside stops again; one whose other registers are set does not
a_set_pc_stops_anew : (h : HartState) (r : Shared) → (after_poke 0 32 (full h r)).stopped ≡ false ∷ []
a_set_pc_stops_anew h r = refl

another_register_does_not : (h : HartState) (r : Shared) → (after_poke 0 31 (full h r)).stopped ≡ true ∷ []
another_register_does_not h r = refl

-- at most 256 bytes are drained at once
a_drain_of_257_bytes_is_refused : (h : HartState) (r : Shared) → (drains 257 (full h r)).reply ≡ Refused OutOfRange
a_drain_of_257_bytes_is_refused h r = refl
