-- Worked moves, computed.
use Rattle.std.proofs.Common.{◌≡◌, ℕ, ◌+◌, ◌*◌, List, [], ◌∷◌, ◌++◌, length, refl, ◌-◌}
use Rattle.rvm_protocol.specs.Commands.{Policy, Board, Begin, Copy, Resend, AbortMove, Came}
use Rattle.rvm_protocol.specs.DrivenMove.{drive, drive_replies, state_frames}
use Rattle.rvm_protocol.specs.Frames.{Frame, Zero, Page, Offer, Accept, RoundEnd}
use Rattle.rvm_protocol.specs.Modes.{Run, Staging}
use Rattle.rvm_protocol.specs.Pages.{least, size, listed, members, gathered, is_in}
use Rattle.rvm_protocol.specs.Replies.{NotHere, Paused, Ignored, BadHost, BadSize, NoFrame, NoMove, Reply, Answered, Begun, Copied, RoundEnded, Stopping, StateSent, PartSent, Resent, Aborted, Accepted, Declined, Open, MoveDeclined, Stored, Noted, Kept, Lacking, ReadySent, Fixing, Committed, StartedHere, Finished, Dropped, Refused}
use Rattle.rvm_protocol.specs.World.{World, Event, At, Deliver, mode_at, run, replies, new_world}
use Rattle.rvm_protocol.proofs.Counter.{Counter, CounterEvent, Tick, Write, counter, split_counter, fresh, policy}
use Rattle.rvm_protocol.specs.Host.{Host, host_step}
use Rattle.rvm_protocol.specs.Staging.{new_stage}

-- three rounds at most, one page left, three copies of each page
abbrev some_policy : Policy
some_policy = policy 3 1 3

-- the replies of hosts of this stream version to a guest of n pages
abbrev told : (version hosts n : ℕ) → List (Event CounterEvent) → List (Reply ℕ)
told version hosts n events =
    replies counter (new_world counter version 0 (fresh n) hosts (λ x. 4096)) events

-- two hosts, four pages, stream version 1
abbrev told_two : List (Event CounterEvent) → List (Reply ℕ)
told_two events = told 1 2 4 events

abbrev d : ℕ → Event CounterEvent
d k = Deliver k

abbrev begins : (x to : ℕ) → Event CounterEvent
begins x to = At x (Begin to some_policy)

abbrev copies : Event CounterEvent
copies = At 0 Copy

abbrev writes_at : (p : ℕ) → Event CounterEvent
writes_at p = At 0 (Board (Write p 0))

abbrev opening : List (Event CounterEvent)
opening = begins 0 1 ∷ d 0 ∷ d 1 ∷ []

abbrev four : List (Event CounterEvent)
four = copies ∷ copies ∷ copies ∷ copies ∷ []

-- up to the whole guest at host 1
abbrev to_ready : List (Event CounterEvent)
to_ready = opening ++ four ++ copies ∷ d 2 ∷ d 3 ∷ d 4 ∷ d 5 ∷ d 6 ∷ copies ∷ copies ∷ d 7 ∷ []

four_pages_move_in_nineteen_events : told_two (to_ready ++ d 8 ∷ d 9 ∷ d 10 ∷ [])
    ≡ Begun 1 ∷ Accepted ∷ Open ∷ Copied 0 1 ∷ Copied 1 2 ∷ Copied 2 3 ∷ Copied 3 4
    ∷ RoundEnded 1 4 0 0 ∷ Stored 0 1 ∷ Stored 1 2 ∷ Stored 2 3 ∷ Stored 3 4 ∷ Noted ∷ Stopping
    ∷ StateSent ∷ ReadySent ∷ Committed 1 ∷ StartedHere ∷ Finished ∷ []
unfolding replies least size listed members is_in
four_pages_move_in_nineteen_events = refl

a_page_written_before_the_scan_waits_for_the_next_round : told_two
    (opening ++ writes_at 1 ∷ four ++ copies ∷ copies ∷ copies ∷ [])
    ≡ Begun 1 ∷ Accepted ∷ Open ∷ Answered 0 ∷ Copied 0 1 ∷ Copied 2 2 ∷ Copied 3 3
    ∷ RoundEnded 1 3 1 1 ∷ Copied 1 4 ∷ RoundEnded 2 1 0 0 ∷ Stopping ∷ []
unfolding replies least size listed members is_in
a_page_written_before_the_scan_waits_for_the_next_round = refl

with_one_round_it_waits_for_the_stop : told_two
    (At 0 (Begin 1 (policy 1 1 3)) ∷ d 0 ∷ d 1 ∷ writes_at 1
    ∷ four ++ copies ∷ copies ∷ copies ∷ [])
    ≡ Begun 1 ∷ Accepted ∷ Open ∷ Answered 0 ∷ Copied 0 1 ∷ Copied 2 2 ∷ Copied 3 3
    ∷ RoundEnded 1 3 1 1 ∷ Stopping ∷ Copied 1 4 ∷ StateSent ∷ []
unfolding replies least size listed members is_in
with_one_round_it_waits_for_the_stop = refl

an_older_copy_after_a_newer_one_is_ignored : told_two
    (opening ++ four ++ writes_at 2 ∷ copies ∷ copies ∷ d 7 ∷ d 4 ∷ [])
    ≡ Begun 1 ∷ Accepted ∷ Open ∷ Copied 0 1 ∷ Copied 1 2 ∷ Copied 2 3 ∷ Copied 3 4 ∷ Answered 0
    ∷ RoundEnded 1 4 0 1 ∷ Copied 2 5 ∷ Stored 2 5 ∷ Refused Ignored ∷ []
unfolding replies least size listed members is_in
an_older_copy_after_a_newer_one_is_ignored = refl

after_the_commit_the_guest_waits_for_go_and_go_may_come_again : told_two
    (to_ready ++ d 8 ∷ At 0 (Board Tick) ∷ At 1 (Board Tick) ∷ At 0 AbortMove ∷ At 0 Resend ∷ d 10
    ∷ At 1 (Board Tick) ∷ d 9 ∷ [])
    ≡ told_two to_ready ++ Committed 1 ∷ Refused NotHere ∷ Refused Paused ∷ Refused NotHere ∷ Resent
    ∷ StartedHere ∷ Answered 0 ∷ Resent ∷ []
unfolding replies least size listed members is_in
after_the_commit_the_guest_waits_for_go_and_go_may_come_again = refl

an_abort_after_ready_leaves_the_guest_at_its_source : told_two
    (to_ready ++ At 0 AbortMove ∷ At 0 (Board Tick) ∷ d 8 ∷ d 7 ∷ At 1 (Board Tick) ∷ d 10
    ∷ begins 0 1 ∷ [])
    ≡ told_two to_ready ++ Aborted ∷ Answered 0 ∷ Refused Ignored ∷ ReadySent ∷ Refused Paused
    ∷ Refused Ignored ∷ Begun 2 ∷ []
unfolding replies least size listed members is_in
an_abort_after_ready_leaves_the_guest_at_its_source = refl

a_lost_page_is_copied_again : told_two
    (opening ++ four ++ copies ∷ d 2 ∷ d 3 ∷ d 4 ∷ d 6 ∷ copies ∷ copies ∷ d 7 ∷ d 8 ∷ copies
    ∷ copies ∷ d 9 ∷ d 10 ∷ [])
    ≡ Begun 1 ∷ Accepted ∷ Open ∷ Copied 0 1 ∷ Copied 1 2 ∷ Copied 2 3 ∷ Copied 3 4
    ∷ RoundEnded 1 4 0 0 ∷ Stored 0 1 ∷ Stored 1 2 ∷ Stored 2 3 ∷ Noted ∷ Stopping ∷ StateSent
    ∷ Lacking 1 ∷ Fixing 1 ∷ Copied 3 5 ∷ StateSent ∷ Stored 3 5 ∷ ReadySent ∷ []
unfolding replies least size listed members is_in
a_lost_page_is_copied_again = refl

-- replies to a guest of four pages, from hosts that take four and three
abbrev to_a_small_host : List (Event CounterEvent) → World Counter ℕ ℕ
to_a_small_host events = run counter (new_world counter 1 0 (fresh 4) 2 (λ x. 4 - x)) events

a_host_that_takes_fewer_pages_declines : replies counter (to_a_small_host []) opening ≡ Begun 1
    ∷ Declined 3 ∷ MoveDeclined 3 ∷ []
unfolding run replies
a_host_that_takes_fewer_pages_declines = refl

then_the_guest_runs_on_at_its_source : mode_at counter (to_a_small_host opening) 0 ≡ Run 1 (fresh 4)
unfolding run
then_the_guest_runs_on_at_its_source = refl

-- 65 pages: the peek at the dirty log is for pages 0 to 63, then for page 64
a_page_written_before_its_peek_is_skipped : replies counter
    (run counter (new_world counter 1 0 (fresh 65) 2 (λ x. 4096))
    (opening ++ copies ∷ writes_at 64 ∷ listed (λ i. copies) 0 63))
    (copies ∷ []) ≡ RoundEnded 1 64 1 1 ∷ []
unfolding run replies least size listed
a_page_written_before_its_peek_is_skipped = refl

a_page_written_after_its_peek_is_copied_all_the_same : replies counter
    (run counter (new_world counter 1 0 (fresh 65) 2 (λ x. 4096))
    (opening ++ copies ∷ writes_at 63 ∷ listed (λ i. copies) 0 64))
    (copies ∷ []) ≡ RoundEnded 1 65 0 1 ∷ []
unfolding run replies least size listed
a_page_written_after_its_peek_is_copied_all_the_same = refl

-- a whole move from x to y whose first frame is k
abbrev moves : (x y k : ℕ) → List (Event CounterEvent)
moves x y k = drive x y some_policy k 4 1

abbrev moved : ℕ → List (Reply ℕ)
moved n = drive_replies 1 n 4 1

one_page_moves_in_thirteen_events : told 1 2 1 (drive 0 1 some_policy 0 1 1) ≡ drive_replies 1 1 1 1
unfolding replies least size listed members is_in
one_page_moves_in_thirteen_events = refl

thirteen_events : length (drive {E = CounterEvent} 0 1 some_policy 0 1 1) ≡ 13
unfolding listed
thirteen_events = refl

a_ring_of_three_hosts : told 1 3 4
    (moves 0 1 0 ++ moves 1 2 11 ++ moves 2 0 22 ++ At 0 (Board Tick) ∷ []) ≡ moved 1 ++ moved 2
    ++ moved 3 ++ Answered 0 ∷ []
unfolding replies least size listed members is_in
a_ring_of_three_hosts = refl

an_abandoned_host_keeps_waiting_until_its_abort_comes : told 1 3 4
    (to_ready ++ At 0 AbortMove ∷ moves 0 2 10 ++ d 8 ∷ At 1 (Board Tick) ∷ At 2 (Board Tick) ∷ d 9
    ∷ At 1 (Board Tick) ∷ begins 2 2 ∷ [])
    ≡ told_two to_ready ++ Aborted ∷ moved 2 ++ Refused Ignored ∷ Refused Paused ∷ Answered 0
    ∷ Dropped ∷ Refused NotHere ∷ Refused BadHost ∷ []
unfolding replies least size listed members is_in
an_abandoned_host_keeps_waiting_until_its_abort_comes = refl

a_missing_target_is_found_before_a_bad_policy : told 1 3 4
    (begins 0 0 ∷ begins 0 3 ∷ At 0 (Begin 3 (policy 0 1 3))
    ∷ At 0 (Begin 1 (policy 0 1 3)) ∷ At 3 Copy ∷ d 0
    ∷ begins 1 1 ∷ At 0 Copy ∷ [])
    ≡ Refused BadHost ∷ Refused BadHost ∷ Refused BadHost ∷ Refused BadSize ∷ Refused BadHost
    ∷ Refused NoFrame ∷ Refused NotHere ∷ Refused NoMove ∷ []
unfolding replies
a_missing_target_is_found_before_a_bad_policy = refl

-- host 1 of three, which stages move 1 of host 0
abbrev stages : Host Counter ℕ
stages = record { mode = Staging 1 (new_stage 0 4 1); partner = 0 }

abbrev hears : (from : ℕ) → Frame ℕ ℕ → Host Counter ℕ → Reply ℕ
hears from f h = (host_step counter 1 1 3 4096 (Came from f) h).reply

a_frame_of_another_host_is_ignored : hears 2 (Page 1 0 1 5) stages ≡ Refused Ignored
a_frame_of_another_host_is_ignored = refl

a_frame_of_the_partner_is_heard : hears 0 (Page 1 0 1 5) stages ≡ Stored 0 1
a_frame_of_the_partner_is_heard = refl

a_frame_of_another_move_is_ignored : hears 0 (Page 7 0 1 5) stages ≡ Refused Ignored
a_frame_of_another_move_is_ignored = refl

a_higher_offer_of_another_host_is_heard : hears 2 (Offer 7 4 1) stages ≡ Accepted
a_higher_offer_of_another_host_is_heard = refl

-- stream version 2
the_state_goes_in_parts : told 2 2 4 (to_ready ++ d 8 ∷ d 9 ∷ d 10 ∷ []) ≡ drive_replies 2 1 4 1
unfolding replies least size listed members gathered is_in
the_state_goes_in_parts = refl

-- the frames of host 0 in such a move
pages_of_zeros_go_as_zero :
    (run counter (new_world counter 2 0 (fresh 2) 2 (λ x. 4096))
    (begins 0 1 ∷ d 0 ∷ d 1 ∷ At 0 (Board (Write 1 9)) ∷ At 0 Copy ∷ At 0 Copy ∷ At 0 Copy
    ∷ [])).sent
    ≡ record { from = 0; to = 1; frame = Offer 1 2 1 }
    ∷ record { from = 1; to = 0; frame = Accept 1 }
    ∷ record { from = 0; to = 1; frame = Zero 1 0 1 }
    ∷ record { from = 0; to = 1; frame = RoundEnd 1 1 1 1 1 }
    ∷ record { from = 0; to = 1; frame = Page 1 1 2 9 } ∷ []
unfolding run least size listed
pages_of_zeros_go_as_zero = refl

-- a page is lost; the newer state, whose stamp is 5, comes before that page, then a part of stamp 4
parts_of_an_older_state_are_ignored : told 2 2 4
    (opening ++ four ++ copies ∷ d 2 ∷ d 3 ∷ d 4 ∷ d 6 ∷ copies ∷ copies ∷ d 7 ∷ d 8 ∷ copies
    ∷ copies ∷ d 10 ∷ d 7 ∷ d 9 ∷ d 10 ∷ [])
    ≡ Begun 1 ∷ Accepted ∷ Open ∷ Copied 0 1 ∷ Copied 1 2 ∷ Copied 2 3 ∷ Copied 3 4
    ∷ RoundEnded 1 4 0 0 ∷ Stored 0 1 ∷ Stored 1 2 ∷ Stored 2 3 ∷ Noted ∷ Stopping
    ∷ PartSent 0 1 ∷ Lacking 1 ∷ Fixing 1 ∷ Copied 3 5 ∷ PartSent 0 1 ∷ Lacking 1
    ∷ Refused Ignored ∷ Stored 3 5 ∷ ReadySent ∷ []
unfolding replies least size listed members gathered is_in
parts_of_an_older_state_are_ignored = refl

-- a guest of one page whose state has two parts: frame 2 is its page, then come the round's end,
-- the parts and the reports of what is lost
abbrev told_split : List (Event CounterEvent) → List (Reply ℕ)
told_split events = replies split_counter (new_world split_counter 2 0 (fresh 1) 2 (λ x. 4096)) events

parts_come_in_turn_and_from_the_first_after_a_copy : told_split
    (opening ++ copies ∷ copies ∷ copies ∷ copies ∷ copies ∷ At 0 Resend ∷ d 4 ∷ d 4 ∷ d 5 ∷ d 7
    ∷ copies ∷ copies ∷ d 8 ∷ d 9 ∷ d 5 ∷ copies ∷ copies ∷ d 10 ∷ d 11 ∷ [])
    ≡ Begun 1 ∷ Accepted ∷ Open ∷ Copied 0 1 ∷ RoundEnded 1 1 0 0 ∷ Stopping ∷ PartSent 0 2
    ∷ PartSent 1 2 ∷ Resent ∷ Kept 0 2 ∷ Kept 0 2 ∷ Lacking 1 ∷ Fixing 1 ∷ Copied 0 2
    ∷ PartSent 0 2 ∷ Stored 0 2 ∷ Kept 0 2 ∷ Refused Ignored ∷ PartSent 1 2 ∷ PartSent 0 2
    ∷ ReadySent ∷ ReadySent ∷ []
unfolding replies least size listed members gathered is_in
parts_come_in_turn_and_from_the_first_after_a_copy = refl

a_driven_move_of_two_parts : replies split_counter
    (new_world split_counter 2 0 (fresh 4) 2 (λ x. 4096))
    (drive 0 1 some_policy 0 4 (state_frames split_counter 2 (fresh 4))) ≡ drive_replies 2 1 4 2
unfolding replies least size listed members gathered is_in
a_driven_move_of_two_parts = refl

-- 1024 pages and a state of two parts
many_pages_and_two_parts : 2 * 1024 + 9 + 2 * 2 ≡ 2061
many_pages_and_two_parts = refl
