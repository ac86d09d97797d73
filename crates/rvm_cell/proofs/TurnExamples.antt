-- What calls tell, worked out by hand.
use Rattle.std.proofs.Common.{◌≡◌, true, false, List, [], ◌∷◌, ◌++◌, Ok, arith, length, codes, refl}
use Rattle.std.specs.List.{flat_map}
use Rattle.rvm_recorder.specs.Receipts.{PlainReceipt}
use Rattle.rvm_board.specs.declared.event.BoardEvent.{BoardEvent}
use Rattle.rvm_board.specs.declared.event.BoardEvent.TheVariants as asked
use Rattle.rvm_board.specs.declared.event.BoardReply.TheVariants as answer
use Rattle.rvm_message.specs.declared.event.Command.TheVariants as command
use Rattle.rvm_message.specs.declared.event.HostEvent.TheVariants as event
use Rattle.rvm_message.specs.declared.reply.HostRefusal.TheVariants as refusal
use Rattle.rvm_message.specs.declared.reply.HostReply.{HostReply}
use Rattle.rvm_message.specs.declared.reply.HostReply.TheVariants as reply
use Rattle.rvm_cell.specs.Calls.{AtA, AtB, Call, EndsDry, bytes_in, in_a, in_b, is_dry, is_of_run, marks_in}
use Rattle.rvm_station.specs.declared.turn.Then.TheVariants.{GoOn, Halted}
use Rattle.rvm_cell.specs.declared.harts.TurnsEnd.TheVariants as ended
use Rattle.rvm_cell.specs.Turns.{AreTurns, Dry, Turned, drained, turns}

-- a receipt of what a guest was asked
abbrev receipt : BoardEvent → HostReply → PlainReceipt
receipt e r = record { place = 0; seat = 0; count = 0; event = event.Do (command.Board e); reply = r }

-- a guest sends H at the first host, and i at the second, where it is met once the first has refused a drain
abbrev all_but_last : List Call
all_but_last =
    AtA (receipt (asked.Step 0) (reply.Board answer.Retired))
    ∷ AtA (receipt (asked.Drain 256) (reply.Board (answer.Bytes (codes "H"))))
    ∷ AtA (receipt (asked.Drain 256) (reply.Refused refusal.NotHere))
    ∷ AtB (receipt (asked.Drain 256) (reply.Board (answer.Bytes (codes "i"))))
    ∷ []

abbrev last : Call
last = AtB (receipt (asked.Drain 256) (reply.Board (answer.Bytes [])))

abbrev calls : List Call
calls = all_but_last ++ last ∷ []

drains_tell_what_the_guest_sent : flat_map bytes_in calls ≡ codes "Hi"
drains_tell_what_the_guest_sent = refl

three_calls_are_at_the_first_host : length (flat_map in_a calls) ≡ 3
three_calls_are_at_the_first_host = refl

two_calls_are_at_the_second_host : length (flat_map in_b calls) ≡ 2
two_calls_are_at_the_second_host = refl

-- bytes of RAM are none that the guest sent
bytes_of_ram_are_not_output : bytes_in (AtA (receipt (asked.Mem 0x80000000 1) (reply.Board (answer.Bytes (codes "x"))))) ≡ []
bytes_of_ram_are_not_output = refl

they_end_with_a_drain_that_found_nothing : EndsDry calls
they_end_with_a_drain_that_found_nothing = record { before = all_but_last; last = last; is_last = refl; dry = refl }

-- neither a drain that found bytes nor one that was refused found nothing
bytes_are_not_nothing : is_dry (AtB (receipt (asked.Drain 256) (reply.Board (answer.Bytes (codes "i"))))) ≡ false
bytes_are_not_nothing = refl

a_refusal_is_not_nothing : is_dry (AtA (receipt (asked.Drain 256) (reply.Refused refusal.Paused))) ≡ false
a_refusal_is_not_nothing = refl

-- nor did a drain of no bytes, whatever was there
a_drain_of_no_bytes_is_not_nothing : is_dry (AtA (receipt (asked.Drain 0) (reply.Board (answer.Bytes [])))) ≡ false
a_drain_of_no_bytes_is_not_nothing = refl

-- a run goes on by steps and by drains of some bytes, and by nothing else
a_run_goes_on_by_a_step : is_of_run (event.Do (command.Board (asked.Step 1))) ≡ true
a_run_goes_on_by_a_step = refl

a_run_goes_on_by_a_drain : is_of_run (event.Do (command.Board (asked.Drain 256))) ≡ true
a_run_goes_on_by_a_drain = refl

no_run_goes_on_by_a_drain_of_no_bytes : is_of_run (event.Do (command.Board (asked.Drain 0))) ≡ false
no_run_goes_on_by_a_drain_of_no_bytes = refl

no_run_goes_on_by_input : is_of_run (event.Do (command.Board (asked.Input 120))) ≡ false
no_run_goes_on_by_input = refl

no_run_goes_on_by_a_poke : is_of_run (event.Do (command.Board (asked.PokeMem 0x80000000 (7 ∷ [])))) ≡ false
no_run_goes_on_by_a_poke = refl

-- of two harts, from turn 3 on: the third turn halts the board
three_turns : turns 2 3 3 (Halted 7) ≡ Turned 1 GoOn ∷ Turned 0 GoOn ∷ Turned 1 (Halted 7) ∷ []
unfolding turns
three_turns = refl

-- the first host refuses the second hart's step, which the second host makes
abbrev steps : List Call
steps =
    AtA (receipt (asked.Step 0) (reply.Board answer.Retired))
    ∷ AtA (receipt (asked.Step 1) (reply.Refused refusal.NotHere))
    ∷ AtB (receipt (asked.Step 1) (reply.Board (answer.Halted 7)))
    ∷ []

a_refused_step_is_no_turn : flat_map marks_in steps ≡ turns 2 0 2 (Halted 7)
unfolding turns
a_refused_step_is_no_turn = refl

-- of drains only one that found nothing is told beside the turns, and a look at registers is not
drains_that_found_nothing_are_told : flat_map marks_in (AtA (receipt (asked.Regs 0) (reply.Board answer.Done)) ∷ calls)
    ≡ Turned 0 GoOn ∷ Dry ∷ []
drains_that_found_nothing_are_told = refl

-- a drain comes after the 64th turn, which is number 63
a_drain_after_the_64th_turn : drained 62 (turns 2 62 3 GoOn) ≡ Turned 0 GoOn ∷ Turned 1 GoOn ∷ Dry ∷ Turned 0 GoOn ∷ []
unfolding drained turns
a_drain_after_the_64th_turn = refl

-- and at the end of a run, after a turn that halts the board too
a_drain_at_the_end : AreTurns 1 1 (Ok ended.StepsSpent) (Turned 0 GoOn ∷ Dry ∷ [])
unfolding drained turns
a_drain_at_the_end = refl

a_drain_after_a_halt : AreTurns 1 5 (Ok (ended.Halted 7)) (Turned 0 GoOn ∷ Turned 0 (Halted 7) ∷ Dry ∷ [])
unfolding drained turns
a_drain_after_a_halt = record { before = 1; within = omega arith; are = refl }

-- it is no such run if the drain is missing
no_drain_at_the_end : AreTurns 1 1 (Ok ended.StepsSpent) (Turned 0 GoOn ∷ []) → ⊥
unfolding drained turns
no_drain_at_the_end is = absurd cc
