-- The replies of a host at the limits of numbers, pages and pieces.
use Rattle.std.proofs.Common.{◌≡◌, ℕ, ◌==◌, ◌^◌, ◌-◌, false, List, [], ◌∷◌, refl}
use Rattle.rvm_protocol.specs.Commands.{Policy, Begin, Copy, Resend, HostEvent, Do, Came}
use Rattle.rvm_protocol.specs.Frames.{Offer, Lost, Part}
use Rattle.rvm_protocol.specs.Modes.{Mode, Empty, Run, Copying, Stopped, Staging, Held}
use Rattle.rvm_protocol.specs.Pages.{least, size, listed, gathered, is_in}
use Rattle.rvm_protocol.specs.Replies.{BadState, SeqSpent, EpochsSpent, Busy, Ignored, BadHost, BadSize, Reply, Begun, Copied, PartSent, Kept, ReadySent, Fixing, Refused, Accepted, Resent}
use Rattle.rvm_protocol.specs.Rounds.{Last, opened}
use Rattle.rvm_protocol.specs.Staging.{new_stage}
use Rattle.rvm_protocol.specs.Host.{Host, host_step}
use Rattle.rvm_protocol.proofs.Counter.{Counter, CounterEvent, split_counter, fresh, policy}

abbrev g : Counter
g = fresh 4

abbrev some_policy : Policy
some_policy = policy 3 1 3

abbrev at_host : Mode Counter ℕ → Host Counter ℕ
at_host x = record { mode = x; partner = 1 }

-- host 0 of three, version 2
abbrev says_to : Mode Counter ℕ → HostEvent ℕ CounterEvent ℕ → Reply ℕ
says_to x e = (host_step split_counter 2 0 3 4 e (at_host x)).reply

-- the same after an event
abbrev then_says : Mode Counter ℕ → HostEvent ℕ CounterEvent ℕ → HostEvent ℕ CounterEvent ℕ
    → Reply ℕ
then_says x e f =
    (host_step split_counter 2 0 3 4 f (host_step split_counter 2 0 3 4 e (at_host x)).next).reply

-- page 2 is still to be sent, and no copy number is left
abbrev l : Last Counter
l =
    record {
      guest = g;
      to_send = λ p. p == 2;
      to_fix = λ p. false;
      newest = λ p. 1;
      copies = 2 ^ 32 - 1;
      turn = 0;
    }

-- copy numbers run out
no_copy_left_while_stopped : says_to (Stopped 1 l) (Do Copy) ≡ Refused SeqSpent
unfolding least
no_copy_left_while_stopped = refl

no_copy_left_while_copying : says_to (Copying 1 (record (opened split_counter g some_policy) { copies = 2 ^ 32 - 1 })) (Do Copy)
    ≡ Refused SeqSpent
unfolding least
no_copy_left_while_copying = refl

last_copy : says_to (Stopped 1 (record l { copies = 2 ^ 32 - 2 })) (Do Copy) ≡ Copied 2 (2 ^ 32 - 1)
unfolding least
last_copy = refl

-- once the copy numbers are spent, the state can still be sent if nothing is left to copy
state_after_the_last_copy : then_says (Stopped 1 (record l { copies = 2 ^ 32 - 2 })) (Do Copy) (Do Copy)
    ≡ PartSent 0 2
unfolding least listed
state_after_the_last_copy = refl

-- pages past the end
lost_past_the_end : says_to (Stopped 1 l) (Came 1 (Lost 1 (1 ∷ 3 ∷ 4 ∷ 4095 ∷ []))) ≡ Fixing 2
unfolding size is_in
lost_past_the_end = refl

lost_past_the_end_alone : then_says (Stopped 1 (record l { to_send = λ p. false })) (Came 1 (Lost 1 (4 ∷ 4095 ∷ [])))
    (Do Resend) ≡ Resent
unfolding size is_in least listed
lost_past_the_end_alone = refl

lost_of_a_third_host : says_to (Stopped 1 l) (Came 2 (Lost 1 (1 ∷ []))) ≡ Refused Ignored
lost_of_a_third_host = refl

-- move numbers run out, after the target and the policy
no_such_target_first : says_to (Run (2 ^ 64 - 1) g) (Do (Begin 3 (policy 0 1 3))) ≡ Refused BadHost
no_such_target_first = refl

bad_policy_next : says_to (Run (2 ^ 64 - 1) g) (Do (Begin 2 (policy 0 1 3))) ≡ Refused BadSize
bad_policy_next = refl

spent_last : says_to (Run (2 ^ 64 - 1) g) (Do (Begin 2 some_policy)) ≡ Refused EpochsSpent
spent_last = refl

one_left : says_to (Run (2 ^ 64 - 2) g) (Do (Begin 2 some_policy)) ≡ Begun (2 ^ 64 - 1)
one_left = refl

busy_before_the_target : says_to (Stopped 1 l) (Do (Begin 9 some_policy)) ≡ Refused Busy
busy_before_the_target = refl

-- pieces by stamp
abbrev s : Mode Counter ℕ
s = Staging 1 (record (new_stage 0 1 1) { have = λ p. 5 })

abbrev piece : (stamp part parts : ℕ) → List ℕ → HostEvent ℕ CounterEvent ℕ
piece stamp part parts bytes = Came 1 (Part 1 stamp part parts bytes)

another_count_of_parts : then_says s (piece 5 1 2 (1 ∷ 7 ∷ [])) (piece 5 0 3 (2 ∷ []))
    ≡ Refused Ignored
unfolding gathered
another_count_of_parts = refl

an_older_stamp : then_says s (piece 5 1 2 (1 ∷ 7 ∷ [])) (piece 4 0 2 (2 ∷ [])) ≡ Refused Ignored
unfolding gathered
an_older_stamp = refl

the_other_piece : then_says s (piece 5 1 2 (1 ∷ 7 ∷ [])) (piece 5 0 2 (2 ∷ [])) ≡ ReadySent
unfolding gathered size
the_other_piece = refl

a_higher_stamp_drops : then_says s (piece 4 1 2 (1 ∷ 7 ∷ [])) (piece 5 0 2 (2 ∷ [])) ≡ Kept 0 2
unfolding gathered size
a_higher_stamp_drops = refl

-- a piece is not kept, nor its stamp, if the pieces then join to no state
joined_to_nothing : says_to s (piece 5 0 1 (2 ∷ [])) ≡ Refused BadState
unfolding gathered size
joined_to_nothing = refl

and_its_stamp_is_not_seen : then_says s (piece 5 0 1 (2 ∷ [])) (piece 4 0 2 (2 ∷ [])) ≡ Kept 0 2
unfolding gathered size
and_its_stamp_is_not_seen = refl

another_page_count : says_to s (piece 5 0 1 []) ≡ Refused BadState
unfolding gathered size
another_page_count = refl

-- offers
same_move_of_a_third_host : says_to s (Came 2 (Offer 1 1 1)) ≡ Refused Ignored
same_move_of_a_third_host = refl

same_move_of_the_partner : says_to s (Came 1 (Offer 1 4000 8)) ≡ Accepted
same_move_of_the_partner = refl

too_large_for_a_held_host : then_says (Held 1 g) (Came 2 (Offer 2 5 1)) (Do Resend) ≡ Resent
too_large_for_a_held_host = refl

from_itself : says_to (Empty 0) (Came 0 (Offer 2 1 1)) ≡ Refused Ignored
from_itself = refl

from_no_host : says_to (Empty 0) (Came 3 (Offer 2 1 1)) ≡ Refused Ignored
from_no_host = refl

a_piece_past_their_count : says_to s (piece 5 2 2 (2 ∷ [])) ≡ Refused Ignored
a_piece_past_their_count = refl
