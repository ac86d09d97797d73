-- A driven move: each of its frames is delivered once and in order, and the guest has no event.
use Rattle.std.specs.Prelude.{◌≡◌, ℕ, suc, ◌+◌, ◌*◌, ◌^◌, ◌-◌, ◌<◌, ◌≤◌, true, if◌then◌else◌, List, [], ◌∷◌, ◌++◌, length}
use Rattle.rvm_protocol.specs.Guest.{Guest}
use Rattle.rvm_protocol.specs.Frames.{is_compact}
use Rattle.rvm_protocol.specs.Commands.{Policy, is_allowed, Begin, Copy}
use Rattle.rvm_protocol.specs.Replies.{Reply, Begun, Copied, RoundEnded, Stopping, StateSent, PartSent, Accepted, Declined, Open, MoveDeclined, Stored, Noted, Kept, ReadySent, Committed, StartedHere, Finished}
use Rattle.rvm_protocol.specs.Pages.{listed}
use Rattle.rvm_protocol.specs.Rounds.{page_count}
use Rattle.rvm_protocol.specs.Modes.{Empty, Run}
use Rattle.rvm_protocol.specs.Host.{is_there}
use Rattle.rvm_protocol.specs.World.{World, Event, At, Deliver, mode_at, run, replies, new_world}

module _ {E : Type 0} where
  -- the events that move n pages and a state of s frames, if k frames were sent before: the offer
  -- and its answer; a copy of each page and the round's end, and the delivery of these frames; the
  -- stop; the state, and the delivery of its frames; Ready, Go and Started
  abbrev pub drive : (from to : ℕ) → Policy → (k n s : ℕ) → List (Event E)
  drive from to policy k n s =
      At from (Begin to policy) ∷ Deliver k ∷ Deliver (k + 1) ∷ []
      ++ listed (λ p. At from Copy) 0 n
      ++ At from Copy ∷ []
      ++ listed (λ p. Deliver (k + 2 + p)) 0 n
      ++ Deliver (k + 2 + n) ∷ At from Copy ∷ []
      ++ listed (λ i. At from Copy) 0 s
      ++ listed (λ i. Deliver (k + 3 + n + i)) 0 s
      ++ Deliver (k + 3 + n + s) ∷ Deliver (k + 4 + n + s) ∷ Deliver (k + 5 + n + s) ∷ []

module _ {A : Type 0} where
  -- the replies to the copies of a state of s frames
  abbrev pub state_replies : (version s : ℕ) → List (Reply A)
  state_replies version s =
      if is_compact version then listed (λ i. PartSent i s) 0 s else StateSent ∷ []

  -- the replies to these frames at the target, the last of which is ReadySent
  abbrev pub arrival_replies : (version s : ℕ) → List (Reply A)
  arrival_replies version s =
      if is_compact version then listed (λ i. Kept i s) 0 (s - 1) ++ ReadySent ∷ []
      else ReadySent ∷ []

  -- the replies to a driven move
  abbrev pub drive_replies : (version e n s : ℕ) → List (Reply A)
  drive_replies version e n s =
      Begun e ∷ Accepted ∷ Open ∷ []
      ++ listed (λ p. Copied p (suc p)) 0 n
      ++ RoundEnded 1 n 0 0 ∷ []
      ++ listed (λ p. Stored p (suc p)) 0 n
      ++ Noted ∷ Stopping ∷ []
      ++ state_replies version s
      ++ arrival_replies version s
      ++ Committed e ∷ StartedHere ∷ Finished ∷ []

module _ {S P E A B : Type 0} (m : Guest S P E A B) where
  -- the number of frames of the state of g, if the copy of page p has number p + 1
  abbrev pub state_frames : (version : ℕ) → S → ℕ
  state_frames version g =
      if is_compact version then length (m.cut (listed suc 0 (page_count m g)) (m.body g)) else 1

  -- these events get the planned replies, and then the guest stands unchanged at its target
  pub record Arrives (w : World S P B) (from to : ℕ) (e : ℕ) (g : S) (events : List (Event E))
      : Type 0 where
    pub replied : replies m w events
        ≡ drive_replies w.version (suc e) (page_count m g) (state_frames w.version g)
    pub there : mode_at m (run m w events) to ≡ Run (suc e) g
    pub left : mode_at m (run m w events) from ≡ Empty (suc e)

  -- a driven move arrives, from a world of any run whose host `from` is in Run, at another host
  -- that takes that many pages
  unfoldable pub ADrivenMoveArrives : Type 0
  ADrivenMoveArrives =
      (start g : S) (version origin count : ℕ) (limits : ℕ → ℕ) (events : List (Event E))
      (from to e : ℕ) (policy : Policy) → m.valid start ≡ true
      → mode_at m (run m (new_world m version origin start count limits) events) from ≡ Run e g
      → e < 2 ^ 64 - 1 → is_allowed policy ≡ true → from < count → is_there from count to ≡ true
      → page_count m g ≤ limits to → 0 < page_count m g → page_count m g < 2 ^ 32
      → Arrives (run m (new_world m version origin start count limits) events) from to e g
      (drive from to policy
      (length (run m (new_world m version origin start count limits) events).sent) (page_count m g)
      (state_frames version g))

-- the events up to the target's answer
abbrev pub drive_opening : {E : Type 0} → (from to : ℕ) → Policy → (k : ℕ) → List (Event E)
drive_opening from to policy k = At from (Begin to policy) ∷ Deliver k ∷ Deliver (k + 1) ∷ []

module _ {S P E A B : Type 0} (m : Guest S P E A B) where
  -- the target declines, and the guest runs on at its source
  pub record IsDeclined (w : World S P B) (from to : ℕ) (e : ℕ) (g : S) (events : List (Event E))
      : Type 0 where
    pub replied : replies m w events
        ≡ Begun (suc e) ∷ Declined (w.limits to) ∷ MoveDeclined (w.limits to) ∷ []
    pub stays : mode_at m (run m w events) from ≡ Run (suc e) g

  -- a driven move to a host that takes fewer pages is declined
  unfoldable pub ATooLargeGuestIsDeclined : Type 0
  ATooLargeGuestIsDeclined =
      (start g : S) (version origin count : ℕ) (limits : ℕ → ℕ) (events : List (Event E))
      (from to e : ℕ) (policy : Policy) → m.valid start ≡ true
      → mode_at m (run m (new_world m version origin start count limits) events) from ≡ Run e g
      → e < 2 ^ 64 - 1 → is_allowed policy ≡ true → from < count → is_there from count to ≡ true
      → limits to < page_count m g
      → IsDeclined (run m (new_world m version origin start count limits) events) from to e g
      (drive_opening from to policy
      (length (run m (new_world m version origin start count limits) events).sent))

-- the number of events of a driven move
unfoldable pub DriveCount : (E : Type 0) → Type 0
DriveCount E =
    (from to k n s : ℕ) (policy : Policy)
    → length (drive {E = E} from to policy k n s) ≡ 2 * n + 9 + 2 * s
