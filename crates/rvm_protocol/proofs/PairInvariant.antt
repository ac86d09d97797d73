-- The invariant of the current host and one other: O is the mode of the first, T that of the other,
-- F the frames that the first ever sent to the other, as they are read, R those that came back. It
-- has three parts: which modes may meet, the move numbers of frames, and the pages.
use Rattle.std.proofs.Common.{◌≡◌, ◌⊎◌, ℕ, suc, ◌<◌, ◌≤◌, true, List, length, get_or, Option, Some, None, ◌^◌, []}
use Rattle.rvm_protocol.specs.Frames.{Frame, Offer, Accept, Refuse, Page, RoundEnd, Lost, State, Ready, Go, Started, Abort, Part, Zero}
use Rattle.rvm_protocol.specs.Guest.{Guest}
use Rattle.rvm_protocol.specs.Modes.{Mode, Empty, Run, Offering, Copying, Stopped, Given, Staging, Held, move_of}
use Rattle.rvm_protocol.specs.Rounds.{Rounds, Last, newest_numbers, pieces_of}
use Rattle.rvm_protocol.specs.Staging.{Stage}

-- the frames F and, if one was made, that one
abbrev pub More : {X : Type 0} → (X → Type 0) → Option X → X → Type 0
More F None f = F f
More F (Some x) f = F f ⊎ (x ≡ f)

-- what holds of the frame that was made, if any
abbrev pub New : {X : Type 0} → (X → Type 0) → Option X → Type 0
New Q None = Unit {0}
New Q (Some y) = Q y

module _ {S P : Type 0} where
  -- moves below this may have been aborted, or started, by the current host
  abbrev pub lim : Mode S P → ℕ
  lim (Run n g) = suc n
  lim mode = move_of mode

  -- moves below this may have been committed by the host beside the current one
  abbrev pub go_lim : Mode S P → ℕ
  go_lim (Run n g) = suc n
  go_lim (Held n g) = suc n
  go_lim mode = move_of mode

  abbrev pub page_lim : Mode S P → ℕ
  page_lim (Offering n g p) = n
  page_lim mode = suc (move_of mode)

  abbrev pub state_lim : Mode S P → ℕ
  state_lim (Offering n g p) = n
  state_lim (Copying n r) = n
  state_lim mode = suc (move_of mode)

  -- moves below this may have been reported ready by the host beside the current one
  abbrev pub ready_lim : Mode S P → ℕ
  ready_lim (Staging n s) = n
  ready_lim mode = suc (move_of mode)

  -- the move number of each frame that the current host made
  abbrev pub own_ok : {B : Type 0} → Mode S P → Mode S P → Frame P B → Type 0
  own_ok O T (Offer k a b) = k < suc (move_of O)
  own_ok O T (Accept k) = k < suc (move_of O)
  own_ok O T (Refuse k a) = Unit {0}
  own_ok O T (Page k p n b) = k < page_lim O
  own_ok O T (RoundEnd k a b c d) = Unit {0}
  own_ok O T (Lost k ps) = Unit {0}
  own_ok O T (State k ns b) = k < state_lim O
  own_ok O T (Part k st i u x) = k < state_lim O
  own_ok O T (Zero k p n) = ⊥
  own_ok O T (Ready k) = k < suc (move_of O)
  own_ok O T (Go k) = k < move_of T
  own_ok O T (Started k) = k < lim O
  own_ok O T (Abort k) = k < lim O

  -- the move number of each frame that the other host made
  abbrev pub their_ok : {B : Type 0} → Mode S P → Mode S P → Frame P B → Type 0
  their_ok O T (Offer k a b) = k < suc (move_of T)
  their_ok O T (Accept k) = k < suc (move_of T)
  their_ok O T (Refuse k a) = Unit {0}
  their_ok O T (Page k p n b) = k < suc (move_of T)
  their_ok O T (RoundEnd k a b c d) = Unit {0}
  their_ok O T (Lost k ps) = Unit {0}
  their_ok O T (State k ns b) = k < suc (move_of T)
  their_ok O T (Part k st i u x) = k < suc (move_of T)
  their_ok O T (Zero k p n) = ⊥
  their_ok O T (Ready k) = k < ready_lim T
  their_ok O T (Go k) = k < go_lim O
  their_ok O T (Started k) = k < move_of T
  their_ok O T (Abort k) = k < move_of T

  -- a host that isn't the current one has no guest to run
  abbrev pub HoldsNone : Mode S P → Type 0
  HoldsNone (Empty n) = Unit {0}
  HoldsNone (Given n kept) = Unit {0}
  HoldsNone (Staging n s) = Unit {0}
  HoldsNone (Held n g) = Unit {0}
  HoldsNone mode = ⊥

  -- which modes may meet; the first is the current host's
  abbrev pub run_beside : ℕ → Mode S P → Type 0
  run_beside e (Empty n) = n ≤ e
  run_beside e (Given n kept) = n ≤ e
  run_beside e (Staging n s) = n ≤ e
  run_beside e (Held n g) = n ≤ e
  run_beside e mode = ⊥

  abbrev pub offering_beside : ℕ → Mode S P → Type 0
  offering_beside e (Empty n) = n < e
  offering_beside e (Given n kept) = n < e
  offering_beside e (Staging n s) = n ≤ e
  offering_beside e (Held n g) = n < e
  offering_beside e mode = ⊥

  abbrev pub copying_beside : ℕ → Mode S P → Type 0
  copying_beside e (Staging n s) = n ≡ e
  copying_beside e mode = ⊥

  abbrev pub stopped_beside : ℕ → Mode S P → Type 0
  stopped_beside e (Staging n s) = n ≡ e
  stopped_beside e (Held n g) = n ≡ e
  stopped_beside e mode = ⊥

  abbrev pub held_beside : ℕ → Mode S P → Type 0
  held_beside e (Given n kept) = n ≡ e
  held_beside e mode = ⊥

  abbrev pub Meet : Mode S P → Mode S P → Type 0
  Meet (Run e g) T = run_beside e T
  Meet (Offering e g p) T = offering_beside e T
  Meet (Copying e r) T = copying_beside e T
  Meet (Stopped e l) T = stopped_beside e T
  Meet (Held e g) T = held_beside e T
  Meet mode T = ⊥

  pub record Modes {B : Type 0} (O T : Mode S P) (F R : Frame P B → Type 0) : Type 0 where
    pub meet : Meet O T
    pub own : (f : Frame P B) → F f → own_ok O T f
    pub their : (f : Frame P B) → R f → their_ok O T f

-- The third part: pages. e is the move, F the frames of its source.
module _ {P B : Type 0} where
  -- a copy's number is never above the newest of its page, and that is one that was given
  pub record CopiesOk (e : ℕ) (F : Frame P B → Type 0) (newest : ℕ → ℕ) (copies : ℕ) : Type 0 where
    pub number : (p k : ℕ) (b : P) → F (Page e p k b) → k ≤ newest p
    pub given : (p : ℕ) → newest p ≤ copies
    pub fits : copies < 2 ^ 32

module _ {S P E A B : Type 0} (m : Guest S P E A B) where
  -- the newest copy of page p equals its bytes
  abbrev pub IsFresh : ℕ → (Frame P B → Type 0) → (ℕ → ℕ) → S → ℕ → Type 0
  IsFresh e F newest g p =
      (0 < newest p) × ((b : P) → F (Page e p (newest p) b) → b ≡ get_or (m.pages g) p m.zeros) × F
      (Page e p (newest p) (get_or (m.pages g) p m.zeros))

  -- what is staged was sent
  pub record StageOk (e c h : ℕ) (F : Frame P B → Type 0) (s : Stage P) : Type 0 where
    pub count : length s.pages ≡ c
    pub processors : s.processors ≡ h
    pub staged : (p : ℕ) → p < c
        → (s.have p ≡ 0) ⊎ F (Page e p (s.have p) (get_or s.pages p m.zeros))
    pub kept : (i : ℕ) (x : List ℕ) → s.pieces i ≡ Some x → F (Part e s.stamp i s.parts x)

  abbrev pub BesideOk : ℕ → ℕ → ℕ → (Frame P B → Type 0) → Mode S P → Type 0
  BesideOk e c h F (Staging n s) = n ≡ e → StageOk e c h F s
  BesideOk e c h F mode = Unit {0}

  abbrev pub OfferOk : ℕ → S → (Frame P B → Type 0) → Type 0
  OfferOk e g F = (a b : ℕ) → F (Offer e a b) → (a ≡ length (m.pages g)) × (b ≡ m.processors g)

  pub record CopyingOk (e : ℕ) (r : Rounds S) (T : Mode S P) (F : Frame P B → Type 0) : Type 0 where
    pub beside : BesideOk e (length (m.pages r.guest)) (m.processors r.guest) F T
    pub copies : CopiesOk e F r.newest r.copies
    pub stale : (p : ℕ) → p < length (m.pages r.guest)
        → ((r.scan ≤ p) × (r.to_send p ≡ true)) ⊎
        ((r.log p ≡ true) ⊎ IsFresh e F r.newest r.guest p)
    pub skip : (p : ℕ) → r.to_skip p ≡ true → r.log p ≡ true
    pub over : r.stop ≡ true → length (m.pages r.guest) ≤ r.scan

  -- a State frame names only copies that equal the pages, and all later copies of its move equal
  -- them too
  pub record TrueState (e : ℕ) (F : Frame P B → Type 0) (g : S) (ns : List ℕ) (b : B) : Type 0 where
    pub body : b ≡ m.body g
    pub count : length ns ≡ length (m.pages g)
    pub named : (p : ℕ) → p < length (m.pages g) → 0 < get_or ns p 0
    pub copies : (p k : ℕ) (y : P) → p < length (m.pages g) → get_or ns p 0 ≤ k → F (Page e p k y)
        → y ≡ get_or (m.pages g) p m.zeros

  -- a piece is one of those of a true state, which its stamp determines
  pub record TruePiece (e : ℕ) (F : Frame P B → Type 0) (g : S) (copies : ℕ) (ns : List ℕ)
      (st i u : ℕ) (x : List ℕ) : Type 0 where
    pub stamp : st ≤ copies
    pub state : TrueState e F g ns (m.body g)
    pub fits : (p : ℕ) → p < length ns → get_or ns p 0 < 2 ^ 32
    pub count : u ≡ length (m.cut ns (m.body g))
    pub piece : x ≡ get_or (m.cut ns (m.body g)) i []

  abbrev pub HeldOk : S → Mode S P → Type 0
  HeldOk g (Held n g') = g' ≡ g
  HeldOk g mode = Unit {0}

  pub record StoppedOk (e : ℕ) (l : Last S) (T : Mode S P) (F : Frame P B → Type 0) : Type 0 where
    pub beside : BesideOk e (length (m.pages l.guest)) (m.processors l.guest) F T
    pub copies : CopiesOk e F l.newest l.copies
    pub stale : (p : ℕ) → p < length (m.pages l.guest)
        → (l.to_send p ≡ true) ⊎ ((l.to_fix p ≡ true) ⊎ IsFresh e F l.newest l.guest p)
    pub states : (ns : List ℕ) (b : B) → F (State e ns b) → TrueState e F l.guest ns b
    pub turn : l.turn < length (pieces_of m l)
    -- the numbers that the pieces of a stamp name
    pub numbers : ℕ → List ℕ
    pub now : numbers l.copies ≡ newest_numbers m l
    pub parts : (st i u : ℕ) (x : List ℕ) → F (Part e st i u x)
        → TruePiece e F l.guest l.copies (numbers st) st i u x
    pub held : HeldOk l.guest T

  abbrev pub Content : Mode S P → Mode S P → (Frame P B → Type 0) → Type 0
  Content (Offering e g p) T F =
      OfferOk e g F × BesideOk e (length (m.pages g)) (m.processors g) F T
  Content (Copying e r) T F = CopyingOk e r T F
  Content (Stopped e l) T F = StoppedOk e l T F
  Content mode T F = Unit {0}
