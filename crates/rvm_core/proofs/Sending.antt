-- A guest that is sent, phase by phase.
use Rattle.std.proofs.Common.{◌≡◌, ℕ, zero, suc, ◌+◌, ◌-◌, ◌*◌, ◌<◌, ◌≤◌, Bool, true, false, List, [], ◌∷◌, ◌++◌, length, if◌then◌else◌, refl, sym, ap, ◌∙◌, subst, arith}
use Rattle.std.proofs.lemmas.List.{length-append}
use Rattle.rvm_board.specs.declared.event.BoardEvent.{BoardEvent}
use Rattle.rvm_board.specs.declared.event.BoardReply.{BoardReply}
use Rattle.rvm_guest.specs.TheGuest.{board}
use Rattle.rvm_protocol.specs.Commands.{Copy}
use Rattle.rvm_protocol.specs.DrivenMove.{arrival_replies, state_replies}
use Rattle.rvm_protocol.specs.Frames.{is_compact}
use Rattle.rvm_protocol.specs.Pages.{listed}
use Rattle.rvm_protocol.specs.Replies.{Committed, Copied, Finished, Noted, PartSent, Reply, RoundEnded, StartedHere, StateSent, Stopping, Stored}
use Rattle.rvm_protocol.specs.World.{At, Deliver, Event, replies, reply_to, run, step}
use Rattle.rvm_core.specs.Phases.{IsRound, IsRoundLeft, IsSent, IsSentLeft, IsState, IsStateLeft, copies, deliveries, frames_told, round_replies, sending, sending_replies}
use Rattle.rvm_core.specs.Worlds.{BoardWorld, IsPartOf}
use Rattle.rvm_core.proofs.Drives.{listed_first, listed_length, listed_none, part_before, part_behind, part_first, part_none, part_of_listed, replies_first, replies_length, replies_next, replies_split, run_append, run_first, run_none}

-- the reply to the first of the frames of a state tells their number
first_of : (b : Bool) (k : ℕ) (r : Reply BoardReply) (rs : List (Reply BoardReply))
    → r ∷ rs ≡ (if b then listed (λ i. PartSent i (suc k)) 0 (suc k) else StateSent ∷ [])
    → length rs ≡ k → frames_told r ≡ suc k
unfolding listed
first_of true k r rs is long = let z : r ≡ PartSent 0 (suc k) = cc in ap frames_told z
first_of false k r rs is long =
    let z : r ≡ StateSent = cc in
    let none : rs ≡ [] = cc in
    let e : length rs ≡ 0 = ap length none in
    ap frames_told z ∙ omega (arith, e, long)

-- lists of the command Copy are equal, wherever they begin
shifted_from : (from i j k : ℕ) → listed {V = Event BoardEvent} (λ p. At from Copy) i k ≡ listed (λ p. At from Copy) j k
unfolding listed
shifted_from from i j zero = refl
shifted_from from i j (suc k) = ap (λ z. At from Copy ∷ z) (shifted_from from (suc i) (suc j) k)

-- the number of frames that was told is that of the state
frames_are : (from : ℕ) (w0 : BoardWorld) (frames version s : ℕ) (r : Reply BoardReply)
    → r ≡ reply_to board w0 (At from Copy) → frames ≡ frames_told r → 0 < s
    → replies board w0 (copies from s) ≡ state_replies version s → frames ≡ s
unfolding listed
frames_are from w0 frames version zero r reply told some all = absurd (omega (arith, some))
frames_are from w0 frames version (suc k) r reply told some all =
    let rest : List (Event BoardEvent) = listed (λ p. At from Copy) 1 k in
    let whole : replies board w0 (At from Copy ∷ rest) ≡ state_replies version (suc k) =
    ap (replies board w0) (sym (listed_first (λ p. At from Copy) 0 k)) ∙ all
    in
    let long : length (replies board (step board w0 (At from Copy)) rest) ≡ k =
    replies_length rest (step board w0 (At from Copy)) ∙ listed_length (λ p. At from Copy) 1 k
    in
    told ∙ ap frames_told reply
    ∙ first_of (is_compact version) k (reply_to board w0 (At from Copy))
    (replies board (step board w0 (At from Copy)) rest) (sym (replies_first w0 (At from Copy) rest) ∙ whole) long

-- the copies of a state are the first one and those after it
copies_are : (from frames s : ℕ) → frames ≡ s → 0 < s → copies from s ≡ At from Copy ∷ copies from (frames - 1)
copies_are from frames s is some =
    let one : s ≡ suc (frames - 1) = omega (arith, is, some) in
    ap (copies from) one ∙ listed_first (λ p. At from Copy) 0 (frames - 1)
    ∙ ap (λ z. At from Copy ∷ z) (shifted_from from 1 0 (frames - 1))

-- the state was sent
pub state_sent : (from : ℕ) (w0 w1 w2 : BoardWorld) (frames : ℕ) (r : Reply BoardReply)
    → r ≡ reply_to board w0 (At from Copy) → w1 ≡ step board w0 (At from Copy) → frames ≡ frames_told r
    → w2 ≡ run board w1 (copies from (frames - 1)) → IsState frames w0 w2 from
state_sent from w0 w1 w2 frames r reply next told last =
    λ version s some all.
    let rest = copies from (frames - 1) in
    let is = frames_are from w0 frames version s r reply told some all in (
      is,
      last ∙ ap (λ z. run board z rest) next ∙ sym (run_first w0 (At from Copy) rest)
          ∙ ap (run board w0) (sym (copies_are from frames s is some)),
    )

-- memory ran out before the first frame of a state, or after it
pub no_state : (from : ℕ) (w0 w1 : BoardWorld) → w1 ≡ w0 → IsStateLeft w0 w1 from
no_state from w0 w1 is =
    λ version s some all. part_of_listed (λ p. At from Copy) w0 w1 0 s some
    (is ∙ sym (ap (run board w0) (listed_none (λ p. At from Copy) 0) ∙ run_none w0))

pub state_left : (from : ℕ) (w0 w1 w2 : BoardWorld) (frames : ℕ) (r : Reply BoardReply)
    → r ≡ reply_to board w0 (At from Copy) → w1 ≡ step board w0 (At from Copy) → frames ≡ frames_told r
    → IsPartOf (copies from (frames - 1)) w1 w2 → IsStateLeft w0 w2 from
state_left from w0 w1 w2 frames r reply next told part =
    λ version s some all.
    subst (λ z. IsPartOf z w0 w2)
    (sym (copies_are from frames s (frames_are from w0 frames version s r reply told some all) some))
    (part_first (At from Copy) (copies from (frames - 1)) w0 w1 w2 next part)

-- ALL PHASES

-- the events that send a guest, phase by phase, and their replies
module _ (from first version move n s : ℕ) where
  abbrev round_events : List (Event BoardEvent)
  round_events = copies from (n + 1)

  abbrev came_events : List (Event BoardEvent)
  came_events = deliveries first (n + 1)

  abbrev state_events : List (Event BoardEvent)
  state_events = copies from s

  abbrev last_events : List (Event BoardEvent)
  last_events = deliveries (first + n + 1) (s + 3)

  abbrev from_stop : List (Event BoardEvent)
  from_stop = At from Copy ∷ (state_events ++ last_events)

  abbrev came_replies : List (Reply BoardReply)
  came_replies = listed (λ p. Stored p (suc p)) 0 n ++ Noted ∷ []

  abbrev last_replies : List (Reply BoardReply)
  last_replies = arrival_replies version s ++ Committed move ∷ StartedHere ∷ Finished ∷ []

  abbrev replies_from_stop : List (Reply BoardReply)
  replies_from_stop = Stopping ∷ (state_replies version s ++ last_replies)

  -- the replies to the events of the round
  round_told : (w0 w1 : BoardWorld) → replies board w0 (sending from first n s) ≡ sending_replies version move n s
      → (replies board w0 round_events ≡ round_replies n)
      × (w1 ≡ run board w0 round_events
      → replies board w1 (came_events ++ from_stop) ≡ came_replies ++ replies_from_stop)
  round_told w0 w1 all =
      replies_split w0 w1 round_events (came_events ++ from_stop) (round_replies n) (came_replies ++ replies_from_stop)
      all
      (length-append (listed (λ p. Copied p (suc p)) 0 n) (RoundEnded 1 n 0 0 ∷ [])
      ∙ ap (λ z. z + 1) (listed_length (λ p. Copied p (suc p)) 0 n)
      ∙ sym (listed_length (λ p. At from Copy) 0 (n + 1)))

  -- the replies to the events from the stop on, after the frames of the round came
  came_told : (w1 w2 : BoardWorld) → replies board w1 (came_events ++ from_stop) ≡ came_replies ++ replies_from_stop
      → w2 ≡ run board w1 came_events → replies board w2 from_stop ≡ replies_from_stop
  came_told w1 w2 told came =
      (replies_split w1 w2 came_events from_stop came_replies replies_from_stop told
      (length-append (listed (λ p. Stored p (suc p)) 0 n) (Noted ∷ [])
      ∙ ap (λ z. z + 1) (listed_length (λ p. Stored p (suc p)) 0 n)
      ∙ sym (listed_length (λ p. Deliver (first + p)) 0 (n + 1)))).1 came

  -- the replies to the copies of the state
  state_told : (w2 w3 : BoardWorld) → length (state_replies {A = BoardReply} version s) ≡ s
      → replies board w2 from_stop ≡ replies_from_stop → w3 ≡ step board w2 (At from Copy)
      → replies board w3 state_events ≡ state_replies version s
  state_told w2 w3 whole told stop =
      (replies_split w3 w3 state_events last_events (state_replies version s) last_replies
      ((replies_next w2 w3 (At from Copy) (state_events ++ last_events) Stopping
      (state_replies version s ++ last_replies) told).1 stop) (whole ∙ sym (listed_length (λ p. At from Copy) 0 s))).0

  -- the worlds that the phases leave
  record Phases (w0 w1 w2 w3 : BoardWorld) (round : ℕ) : Type 0 where
    counted : round ≡ n + 1
    made : w1 ≡ run board w0 round_events
    came : w2 ≡ run board w1 came_events
    told : replies board w3 state_events ≡ state_replies version s

  -- the phases, if the replies are those of a guest that is sent
  phases : (w0 w1 w2 w3 : BoardWorld) (round : ℕ) → n ≤ 4096 → length (state_replies {A = BoardReply} version s) ≡ s
      → replies board w0 (sending from first n s) ≡ sending_replies version move n s → IsRound round w0 w1 from
      → w2 ≡ run board w1 (deliveries first round) → w3 ≡ step board w2 (At from Copy) → Phases w0 w1 w2 w3 round
  phases w0 w1 w2 w3 round most whole all made came stop =
      let p = round_told w0 w1 all in
      let r = made n most p.0 in
      let here = came ∙ ap (λ z. run board w1 (deliveries first z)) r.0 in
      record {
        counted = r.0;
        made = r.1;
        came = here;
        told = state_told w2 w3 whole (came_told w1 w2 (p.1 r.1) here) stop;
      }

  -- the place of the first frame of the state, counted in two ways
  further : first + (n + 1) ≡ first + n + 1
  further = omega arith

  last_are : (round frames : ℕ) → round ≡ n + 1 → frames ≡ s
      → deliveries (first + round) (frames + 3) ≡ last_events
  last_are round frames counted told =
      (λ j. deliveries (first + counted j) (told j + 3)) ∙ ap (λ z. deliveries z (s + 3)) further

  -- some events were made after the round, after its frames came, or after the stop
  behind_round : (w0 w1 new : BoardWorld) → w1 ≡ run board w0 round_events → IsPartOf (came_events ++ from_stop) w1 new
      → IsPartOf (sending from first n s) w0 new
  behind_round w0 w1 new made part = part_behind round_events (came_events ++ from_stop) w0 w1 new made part

  behind_came : (w1 w2 new : BoardWorld) → w2 ≡ run board w1 came_events → IsPartOf from_stop w2 new
      → IsPartOf (came_events ++ from_stop) w1 new
  behind_came w1 w2 new came part = part_behind came_events from_stop w1 w2 new came part

  behind_stop : (w0 w1 w2 w3 new : BoardWorld) (round : ℕ) → Phases w0 w1 w2 w3 round
      → w3 ≡ step board w2 (At from Copy) → IsPartOf (state_events ++ last_events) w3 new → IsPartOf (sending from first n s) w0 new
  behind_stop w0 w1 w2 w3 new round p stop part =
      behind_round w0 w1 new p.made
      (behind_came w1 w2 new p.came (part_first (At from Copy) (state_events ++ last_events) w2 w3 new stop part))

-- the guest was sent
pub guest_sent : (from first : ℕ) (w0 w1 w2 w3 w4 w5 : BoardWorld) (round frames : ℕ)
    → IsRound round w0 w1 from → w2 ≡ run board w1 (deliveries first round) → w3 ≡ step board w2 (At from Copy)
    → IsState frames w3 w4 from → w5 ≡ run board w4 (deliveries (first + round) (frames + 3))
    → IsSent (2 * (round + frames) + 1 + 3) w0 w5 from first
guest_sent from first w0 w1 w2 w3 w4 w5 round frames made came stop state ready =
    λ version move n s most some whole all.
    let a = copies from (n + 1) in
    let b = deliveries first (n + 1) in
    let c = copies from s in
    let d = deliveries (first + n + 1) (s + 3) in
    let p = phases from first version move n s w0 w1 w2 w3 round most whole all made came stop in
    let r = state version s some p.told in
    let ready_d : w5 ≡ run board w4 d =
    ready ∙ ap (run board w4) (last_are from first version move n s round frames p.counted r.0)
    in
    let leads : run board w0 (a ++ (b ++ (At from Copy ∷ (c ++ d)))) ≡ w5 =
    run_append a (b ++ (At from Copy ∷ (c ++ d))) w0
    ∙ ap (λ z. run board z (b ++ (At from Copy ∷ (c ++ d)))) (sym p.made)
    ∙ run_append b (At from Copy ∷ (c ++ d)) w1
    ∙ ap (λ z. run board z (At from Copy ∷ (c ++ d))) (sym p.came)
    ∙ run_first w2 (At from Copy) (c ++ d)
    ∙ ap (λ z. run board z (c ++ d)) (sym stop)
    ∙ run_append c d w3
    ∙ ap (λ z. run board z d) (sym r.1)
    ∙ sym ready_d
    in
    let round_is = p.counted in
    let frames_is = r.0 in
    (omega (arith, round_is, frames_is), sym leads)

-- MEMORY RAN OUT

-- memory ran out in the round
pub left_in_round : (from first : ℕ) (w0 w1 : BoardWorld) → IsRoundLeft w0 w1 from → IsSentLeft w0 w1 from first
left_in_round from first w0 w1 left =
    λ version move n s most some whole all.
    part_before (copies from (n + 1)) (deliveries first (n + 1) ++ from_stop from first version move n s) w0 w1
    (left n most (round_told from first version move n s w0 w1 all).0)

-- memory ran out while the frames of the round came
pub left_coming : (from first : ℕ) (w0 w1 w2 : BoardWorld) (round : ℕ) → IsRound round w0 w1 from
    → IsPartOf (deliveries first round) w1 w2 → IsSentLeft w0 w2 from first
left_coming from first w0 w1 w2 round made part =
    λ version move n s most some whole all.
    let r = made n most (round_told from first version move n s w0 w1 all).0 in
    behind_round from first version move n s w0 w1 w2 r.1
    (part_before (deliveries first (n + 1)) (from_stop from first version move n s) w1 w2
    (subst (λ z. IsPartOf (deliveries first z) w1 w2) r.0 part))

-- memory ran out at the stop
pub left_before_stop : (from first : ℕ) (w0 w1 w2 w3 : BoardWorld) (round : ℕ) → IsRound round w0 w1 from
    → w2 ≡ run board w1 (deliveries first round) → w3 ≡ w2 → IsSentLeft w0 w3 from first
left_before_stop from first w0 w1 w2 w3 round made came stays =
    λ version move n s most some whole all.
    let r = made n most (round_told from first version move n s w0 w1 all).0 in
    behind_round from first version move n s w0 w1 w3 r.1
    (behind_came from first version move n s w1 w2 w3 (came ∙ ap (λ z. run board w1 (deliveries first z)) r.0)
    (part_none (At from Copy) (copies from s ++ deliveries (first + n + 1) (s + 3)) w2 w3 stays))

-- memory ran out while the state was sent
pub left_in_state : (from first : ℕ) (w0 w1 w2 w3 w4 : BoardWorld) (round : ℕ) → IsRound round w0 w1 from
    → w2 ≡ run board w1 (deliveries first round) → w3 ≡ step board w2 (At from Copy) → IsStateLeft w3 w4 from
    → IsSentLeft w0 w4 from first
left_in_state from first w0 w1 w2 w3 w4 round made came stop left =
    λ version move n s most some whole all.
    let p = phases from first version move n s w0 w1 w2 w3 round most whole all made came stop in
    behind_stop from first version move n s w0 w1 w2 w3 w4 round p stop
    (part_before (copies from s) (deliveries (first + n + 1) (s + 3)) w3 w4 (left version s some p.told))

-- memory ran out while the frames of the state came, or Ready, Go and Started
pub left_closing : (from first : ℕ) (w0 w1 w2 w3 w4 w5 : BoardWorld) (round frames : ℕ) → IsRound round w0 w1 from
    → w2 ≡ run board w1 (deliveries first round) → w3 ≡ step board w2 (At from Copy) → IsState frames w3 w4 from
    → IsPartOf (deliveries (first + round) (frames + 3)) w4 w5 → IsSentLeft w0 w5 from first
left_closing from first w0 w1 w2 w3 w4 w5 round frames made came stop state part =
    λ version move n s most some whole all.
    let d = deliveries (first + n + 1) (s + 3) in
    let p = phases from first version move n s w0 w1 w2 w3 round most whole all made came stop in
    let r = state version s some p.told in
    behind_stop from first version move n s w0 w1 w2 w3 w5 round p stop
    (part_behind (copies from s) d w3 w4 w5 r.1
    (subst (λ z. IsPartOf z w4 w5) (last_are from first version move n s round frames p.counted r.0) part))
