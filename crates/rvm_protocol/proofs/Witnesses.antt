-- Runs that tell the definitions from wrong ones, each named by what would be wrong. In each of
-- them the guest at the current host is the one that never moved, and one host at most would answer
-- it.
use Rattle.std.proofs.Common.{◌≡◌, ℕ, ◌==◌, ◌&&◌, Bool, true, false, List, [], ◌∷◌, Option, Some, None, refl}
use Rattle.rvm_protocol.specs.Commands.{Board, Begin, Copy, AbortMove}
use Rattle.rvm_protocol.specs.Guest.{Guest}
use Rattle.rvm_protocol.specs.Modes.{Empty, guest_in}
use Rattle.rvm_protocol.specs.NeverMoving.{accepted, fold, is_answer}
use Rattle.rvm_protocol.specs.Replies.{Answered, NotHere, Refused}
use Rattle.rvm_protocol.specs.Pages.{least, put, size, listed, members, gathered, is_in}
use Rattle.rvm_protocol.specs.Told.{told, at_start}
use Rattle.rvm_protocol.specs.World.{World, Event, At, Deliver, mode_at, run, history, replies, reply_to, new_world}
use Rattle.rvm_protocol.proofs.Counter.{Counter, CounterEvent, Tick, Write, counter, fresh, split_counter}

unfoldable same_pages : List ℕ → List ℕ → Bool
same_pages [] [] = true
same_pages (x ∷ xs) (y ∷ ys) = (x == y) && same_pages xs ys
same_pages xs ys = false

abbrev same_guest : Option Counter → Counter → Bool
same_guest (Some a) b = (a.count == b.count) && same_pages a.pages b.pages
same_guest None b = false

module _ (m : Guest Counter ℕ CounterEvent ℕ ℕ) (version : ℕ) (pages : List ℕ)
    (events : List (Event CounterEvent)) where
  abbrev start : Counter
  start = record { count = 0; pages = pages }

  abbrev world : World Counter ℕ ℕ
  world = new_world m version 0 start 3 (λ x. 4096)

  -- the guest at the current host is the one that never moved
  abbrev is_one : Bool
  is_one =
      let past = history m world events in
      same_guest (guest_in (mode_at m (run m world events) (told m (at_start 0 start) past).current))
      (fold m start (accepted past))

  -- hosts 0 and 1 would both answer the guest's next event
  abbrev are_two : Bool
  are_two =
      is_answer (reply_to m (run m world events) (At 0 (Board Tick))) && is_answer
      (reply_to m (run m world events) (At 1 (Board Tick)))

abbrev begins_with : (from to rounds : ℕ) → Event CounterEvent
begins_with from to rounds =
    At from (Begin to (record { max_rounds = rounds; min_left = 1; factor = 3 }))

abbrev d : ℕ → Event CounterEvent
d k = Deliver k

abbrev b : Event CounterEvent
b = begins_with 0 1 3

abbrev c : Event CounterEvent
c = At 0 Copy

abbrev w : ℕ → Event CounterEvent
w p = At 0 (Board (Write p 5))

-- a page written before the scan reaches it is skipped; it must not leave the log
a_log_emptied_at_the_peek_would_lose_a_page : is_one counter 1 (0 ∷ 0 ∷ [])
    (b ∷ d 0 ∷ d 1 ∷ w 1 ∷ c ∷ c ∷ c ∷ c ∷ c ∷ c ∷ d 2 ∷ d 4 ∷ d 6 ∷ d 7 ∷ d 8 ∷ []) ≡ true
unfolding run history told least size listed members is_in accepted fold same_pages
a_log_emptied_at_the_peek_would_lose_a_page = refl

-- the round that ends last leaves a page in the log, for the stop
a_log_emptied_at_the_stop_would_lose_a_page : is_one counter 1 (0 ∷ 0 ∷ [])
    (begins_with 0 1 1 ∷ d 0 ∷ d 1 ∷ c ∷ c ∷ w 1 ∷ c ∷ c ∷ c ∷ c ∷ d 2 ∷ d 3 ∷ d 5 ∷ d 6 ∷ d 7 ∷ d 8
    ∷ []) ≡ true
unfolding run history told least size listed members is_in accepted fold same_pages
a_log_emptied_at_the_stop_would_lose_a_page = refl

an_unlogged_write_would_be_lost : is_one counter 1 (0 ∷ [])
    (b ∷ d 0 ∷ d 1 ∷ c ∷ w 0 ∷ c ∷ c ∷ c ∷ c ∷ c ∷ d 2 ∷ d 4 ∷ d 6 ∷ d 7 ∷ d 8 ∷ []) ≡ true
unfolding run history told least size listed members is_in accepted fold same_pages
an_unlogged_write_would_be_lost = refl

-- the newer copy comes first
an_older_copy_under_a_newer_number_would_stay : is_one counter 1 (0 ∷ [])
    (b ∷ d 0 ∷ d 1 ∷ c ∷ w 0 ∷ c ∷ c ∷ c ∷ c ∷ c ∷ d 4 ∷ d 2 ∷ d 6 ∷ d 7 ∷ d 8 ∷ []) ≡ true
unfolding run history told least size listed members is_in accepted fold same_pages
an_older_copy_under_a_newer_number_would_stay = refl

-- the page never comes
a_guest_with_a_missing_page_would_be_ready : is_one counter 1 (5 ∷ [])
    (b ∷ d 0 ∷ d 1 ∷ c ∷ c ∷ c ∷ c ∷ d 4 ∷ d 5 ∷ d 6 ∷ []) ≡ true
unfolding run history told least size listed members is_in accepted fold same_pages
a_guest_with_a_missing_page_would_be_ready = refl

an_abort_after_the_commit_would_make_two : are_two counter 1 (0 ∷ [])
    (b ∷ d 0 ∷ d 1 ∷ c ∷ c ∷ c ∷ c ∷ d 2 ∷ d 4 ∷ d 5 ∷ d 6 ∷ At 0 AbortMove ∷ []) ≡ false
unfolding run least size listed members is_in
an_abort_after_the_commit_would_make_two = refl

a_guest_that_runs_at_ready_would_make_two : are_two counter 1 (0 ∷ [])
    (b ∷ d 0 ∷ d 1 ∷ c ∷ c ∷ c ∷ c ∷ d 2 ∷ d 4 ∷ At 0 AbortMove ∷ []) ≡ false
unfolding run least size listed members is_in
a_guest_that_runs_at_ready_would_make_two = refl

-- to host 1, back to host 0, a write, to host 1 again: frame 2 is the page's copy of the first move
move_numbers_that_begin_anew_would_let_old_copies_in : is_one counter 1 (0 ∷ []) (
    b ∷ d 0 ∷ d 1 ∷ c ∷ c ∷ c ∷ c ∷ d 2 ∷ d 4 ∷ d 5 ∷ d 6 ∷ d 7 ∷ begins_with 1 0 3 ∷ d 8 ∷ d 9
    ∷ At 1 Copy ∷ At 1 Copy ∷ At 1 Copy ∷ At 1 Copy ∷ d 10 ∷ d 12 ∷ d 13 ∷ d 14 ∷ d 15
    ∷ w 0 ∷ b ∷ d 16 ∷ d 17 ∷ c ∷ c ∷ c ∷ c ∷ d 2 ∷ d 18 ∷ d 20 ∷ d 21 ∷ d 22 ∷ []
    ) ≡ true
unfolding run history told least size listed members is_in accepted fold same_pages
move_numbers_that_begin_anew_would_let_old_copies_in = refl

a_held_guest_that_is_dropped_by_itself_would_be_lost : is_one counter 1 (0 ∷ [])
    (b ∷ d 0 ∷ d 1 ∷ c ∷ c ∷ c ∷ c ∷ d 2 ∷ d 4 ∷ At 1 Copy ∷ d 5 ∷ []) ≡ true
unfolding run history told least size listed members is_in accepted fold same_pages
a_held_guest_that_is_dropped_by_itself_would_be_lost = refl

-- the move's own offer comes again
a_held_guest_that_is_dropped_at_any_offer_would_be_lost : is_one counter 1 (0 ∷ [])
    (b ∷ d 0 ∷ d 1 ∷ c ∷ c ∷ c ∷ c ∷ d 2 ∷ d 4 ∷ d 0 ∷ d 5 ∷ []) ≡ true
unfolding run history told least size listed members is_in accepted fold same_pages
a_held_guest_that_is_dropped_at_any_offer_would_be_lost = refl

-- both copies of the page are lost; a piece of each state comes
pieces_of_two_stamps_would_name_another_copy : is_one split_counter 2 (5 ∷ [])
    (b ∷ d 0 ∷ d 1 ∷ c ∷ c ∷ c ∷ c ∷ c ∷ d 4 ∷ d 5 ∷ d 6 ∷ c ∷ c ∷ c ∷ d 9 ∷ d 10 ∷ d 11
    ∷ []) ≡ true
unfolding run history told least size listed members gathered is_in accepted fold same_pages
pieces_of_two_stamps_would_name_another_copy = refl

pages_that_all_go_as_zero_would_be_lost : is_one counter 2 (5 ∷ [])
    (b ∷ d 0 ∷ d 1 ∷ c ∷ c ∷ c ∷ c ∷ d 2 ∷ d 4 ∷ d 5 ∷ d 6 ∷ []) ≡ true
unfolding run history told least size listed members gathered is_in accepted fold same_pages
pages_that_all_go_as_zero_would_be_lost = refl

-- RESTARTS

-- a host that begins anew under its number: it forgets which moves it saw
abbrev anew : World Counter ℕ ℕ → ℕ → World Counter ℕ ℕ
anew world x = record world { hosts = put world.hosts x (record { mode = Empty 0; partner = x }) }

-- from host 0 to host 1, from there to host 2
abbrev two_moves : List (Event CounterEvent)
two_moves =
    begins_with 0 1 3 ∷ d 0 ∷ d 1 ∷ c ∷ c ∷ c ∷ c ∷ d 2 ∷ d 4 ∷ d 5 ∷ d 6 ∷ d 7
    ∷ begins_with 1 2 3 ∷ d 8 ∷ d 9 ∷ At 1 Copy ∷ At 1 Copy ∷ At 1 Copy ∷ At 1 Copy ∷ d 10 ∷ d 12 ∷ d 13 ∷ d 14 ∷ []

-- the frames of the first move come to host 1 once more, which runs then, and so does host 2
a_host_that_begins_anew_under_its_number_would_make_two : (
    let w1 = run counter (new_world counter 1 0 (fresh 1) 3 (λ x. 4096)) two_moves in
    let w2 = run counter (anew w1 1) (d 0 ∷ d 2 ∷ d 4 ∷ d 6 ∷ []) in
    replies counter w2 (At 0 (Board Tick) ∷ At 1 (Board Tick) ∷ At 2 (Board Tick) ∷ [])
    ) ≡ Refused NotHere ∷ Answered 0 ∷ Answered 0 ∷ []
unfolding run replies least size listed members gathered is_in
a_host_that_begins_anew_under_its_number_would_make_two = refl
