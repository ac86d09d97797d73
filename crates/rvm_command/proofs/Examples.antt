-- Known runs: which events there are, what is kept of the input, and when what was sent is taken.
use Rattle.std.proofs.Common.{◌≡◌, ℕ, List, [], ◌∷◌, Option, Some, None, false, refl, replicate}
use Rattle.rvm_hart.specs.Machine.{HartState, Shared}
use Rattle.rvm_board.specs.declared.event.BoardEvent.TheVariants.{Step, Input, Drain}
use Rattle.rvm_board.specs.Guest.{Guest}
use Rattle.rvm_arguments.specs.declared.arguments.StatusOf.TheVariants as tells
use Rattle.rvm_command.specs.declared.fault.Fault.{Fault}
use Rattle.rvm_command.specs.declared.run.Ended.TheVariants as ended
use Rattle.rvm_command.specs.declared.run.Ended.TheVariants.{HaltedWith, StepsSpent}
use Rattle.rvm_command.specs.Ends.{run_status}
use Rattle.rvm_command.specs.Run.{after, left, ran, run_by, run_from}

-- two harts, each of which stops at a breakpoint in its next turn
abbrev two_harts : HartState → Shared → (input output : List ℕ) → (halted : Option ℕ) → Guest
two_harts h r input output halted =
    record {
      board = record {
        harts = record h { pc = 0x80000010 } ∷ record h { pc = 0x80000010 } ∷ [];
        shared = record r { devices = record r.devices { input = input; output = output; halted = halted } };
      };
      breakpoints = 0x80000010 ∷ [];
      stopped = false ∷ false ∷ [];
    }

harts_take_turns : (h : HartState) (r : Shared) → (run_from 2 6 [] (two_harts h r [] [] None)).events ≡ Step 0 ∷ Step 1 ∷ []
unfolding run_by after
harts_take_turns h r = refl

a_byte_comes_before_each_step : (h : HartState) (r : Shared) → (run_from 2 6 (65 ∷ 66 ∷ 67 ∷ []) (two_harts h r [] [] None)).events ≡ Input 65 ∷ Step 0 ∷ Input 66 ∷ Step 1 ∷ []
unfolding run_by after
a_byte_comes_before_each_step h r = refl

a_byte_is_kept_where_16_wait : (h : HartState) (r : Shared) → left (65 ∷ 66 ∷ []) (two_harts h r (replicate 16 0) [] None) ≡ 65 ∷ 66 ∷ []
a_byte_is_kept_where_16_wait h r = refl

a_kept_byte_is_offered_again : (h : HartState) (r : Shared) → (run_from 2 6 (65 ∷ 66 ∷ []) (two_harts h r (replicate 16 0) [] None)).events ≡ Input 65 ∷ Step 0 ∷ Input 65 ∷ Step 1 ∷ []
unfolding run_by after
a_kept_byte_is_offered_again h r = refl

what_was_sent_is_taken_behind_turn_63 : (h : HartState) (r : Shared) → (run_from 2 63 [] (two_harts h r [] (7 ∷ []) None)).events ≡ Step 1 ∷ Drain 256 ∷ Step 0 ∷ []
unfolding run_by after
what_was_sent_is_taken_behind_turn_63 h r = refl

what_was_sent_is_taken_at_the_end : (h : HartState) (r : Shared) → run_from 1 6 [] (two_harts h r [] (7 ∷ 8 ∷ []) None) ≡ record { events = Step 0 ∷ Drain 256 ∷ []; ended = StepsSpent }
unfolding run_by after
what_was_sent_is_taken_at_the_end h r = refl

what_was_sent_is_written : (h : HartState) (r : Shared) → (ran 1 [] (two_harts h r [] (7 ∷ 8 ∷ []) None)).written ≡ 7 ∷ 8 ∷ []
unfolding run_by after
what_was_sent_is_written h r = refl

more_than_256_bytes_are_taken_by_two : (h : HartState) (r : Shared) → (run_from 0 0 [] (two_harts h r [] (replicate 257 7) None)).events ≡ Drain 256 ∷ Drain 256 ∷ []
unfolding run_by after
more_than_256_bytes_are_taken_by_two h r = refl

a_halted_board_ends_the_run : (h : HartState) (r : Shared) → run_from 5 0 (65 ∷ []) (two_harts h r [] (7 ∷ []) (Some 3)) ≡ record { events = Input 65 ∷ Step 0 ∷ Drain 256 ∷ []; ended = HaltedWith 3 }
unfolding run_by after
a_halted_board_ends_the_run h r = refl

-- the status of a run that halted with 0, with 7 and with 255, and of one whose steps were spent
the_command_is_done : run_status tells.Command (HaltedWith 7) ∷ run_status tells.Command StepsSpent ∷ [] ≡ 0 ∷ 0 ∷ []
the_command_is_done = refl

a_verdict : run_status tells.Verdict (HaltedWith 0) ∷ run_status tells.Verdict (HaltedWith 7) ∷ run_status tells.Verdict (HaltedWith 255) ∷ run_status tells.Verdict StepsSpent ∷ [] ≡ 0 ∷ 3 ∷ 3 ∷ 4 ∷ []
a_verdict = refl

a_fault_has_a_status_of_its_own : (f : Fault) → run_status tells.Command (ended.Fault f) ∷ run_status tells.Verdict (ended.Fault f) ∷ run_status tells.Guest (ended.Fault f) ∷ [] ≡ 0 ∷ 5 ∷ 5 ∷ []
a_fault_has_a_status_of_its_own f = refl

a_guest_s_own : run_status tells.Guest (HaltedWith 0) ∷ run_status tells.Guest (HaltedWith 7) ∷ run_status tells.Guest (HaltedWith 255) ∷ run_status tells.Guest StepsSpent ∷ [] ≡ 0 ∷ 7 ∷ 255 ∷ 4 ∷ []
a_guest_s_own = refl
