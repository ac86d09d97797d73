-- Worked copies, computed: how many replies were Copied, of which pages a round made them, and which were left at the
-- end.
use Rattle.std.proofs.Common.{◌≡◌, ℕ, zero, suc, true, false, List, [], ◌∷◌, ◌++◌, refl}
use Rattle.rvm_protocol.specs.Commands.{Board, Begin, Command, Copy, AbortMove}
use Rattle.rvm_protocol.specs.FewCopies.{copies_told}
use Rattle.rvm_protocol.specs.LastRound.{left_in}
use Rattle.rvm_protocol.specs.Modes.{Mode, Copying}
use Rattle.rvm_protocol.specs.Obeying.{obey}
use Rattle.rvm_protocol.specs.Pages.{least, size, listed}
use Rattle.rvm_protocol.specs.Replies.{RoundEnded}
use Rattle.rvm_protocol.specs.RoundCopies.{copies_among, pages_among}
use Rattle.rvm_protocol.specs.Rounds.{Rounds, opened, stopped}
use Rattle.rvm_protocol.specs.World.{At, Deliver, Event, World, history, new_world}
use Rattle.rvm_protocol.proofs.Counter.{Counter, CounterEvent, Write, counter, fresh, policy}

-- two hosts, a guest of four pages
abbrev start : World Counter ℕ ℕ
start = new_world counter 1 0 (fresh 4) 2 (λ x. 4)

abbrev opening : List (Event CounterEvent)
opening = At 0 (Begin 1 (policy 3 1 3)) ∷ Deliver 0 ∷ Deliver 1 ∷ []

-- page 1 is written before its copy, and waits for round 2
abbrev two_rounds : List (Event CounterEvent)
two_rounds = opening ++ At 0 (Board (Write 1 7)) ∷ listed (λ i. At 0 Copy) 0 6

abbrev counted : (x : ℕ) → List (Event CounterEvent) → ℕ
counted x events = copies_told x 0 (history counter start events)

a_move_has_no_copy_at_its_beginning : counted 0 opening ≡ 0
unfolding history copies_told
a_move_has_no_copy_at_its_beginning = refl

five_replies_are_four_copies_and_an_end : counted 0 two_rounds ≡ 4
unfolding history copies_told least size listed
five_replies_are_four_copies_and_an_end = refl

none_is_made_at_the_target : counted 1 two_rounds ≡ 0
unfolding history copies_told least size listed
none_is_made_at_the_target = refl

the_next_move_counts_anew : counted 0 (two_rounds ++ At 0 AbortMove ∷ At 0 (Begin 1 (policy 3 1 3)) ∷ []) ≡ 0
unfolding history copies_told least size listed
the_next_move_counts_anew = refl

-- a round of the same guest: page 1 is written, then each page is asked for
abbrev commands : ℕ → Command CounterEvent
commands zero = Board (Write 1 7)
commands (suc i) = Copy

abbrev rounds_of : Mode Counter ℕ → Rounds Counter
rounds_of (Copying n r) = r
rounds_of mode = opened counter (fresh 4) (policy 3 1 3)

unfoldable at : ℕ → Rounds Counter
at zero = opened counter (fresh 4) (policy 3 1 3)
at (suc i) = rounds_of (obey counter 1 (commands i) (Copying 1 (at i))).next

pages_0_2_and_3_are_copied : pages_among counter 1 1 commands at 4 0 ∷ pages_among counter 1 1 commands at 4 1
    ∷ pages_among counter 1 1 commands at 4 2 ∷ pages_among counter 1 1 commands at 4 3 ∷ []
    ≡ true ∷ false ∷ true ∷ true ∷ []
unfolding at pages_among least
pages_0_2_and_3_are_copied = refl

three_of_four_replies_are_copies : size (copies_among counter 1 1 commands at) 4 ≡ 3
unfolding at size least
three_of_four_replies_are_copies = refl

-- the round's end tells three copies, and one page without
the_end_tells_them : (obey {E = CounterEvent} counter 1 Copy (Copying 1 (at 4))).reply ≡ RoundEnded 1 3 1 1
unfolding at least size
the_end_tells_them = refl

-- paused now: page 1, which is in the log, is left
page_1_is_left : left_in (stopped counter (at 4)) 0 ∷ left_in (stopped counter (at 4)) 1 ∷ left_in (stopped counter (at 4)) 2
    ∷ left_in (stopped counter (at 4)) 3 ∷ [] ≡ false ∷ true ∷ false ∷ false ∷ []
unfolding at least
page_1_is_left = refl
