-- What holds of frames and modes beside the current host and its partner.
use Rattle.std.proofs.Common.{◌≡◌, ℕ, zero, suc, ◌<◌, ◌≤◌, Bool, true, false, refl, subst, arith}
use Rattle.rvm_protocol.specs.Frames.{Frame, Offer, Accept, Refuse, Page, RoundEnd, Lost, State, Ready, Go, Started, Abort, Part, Zero}
use Rattle.rvm_protocol.specs.Guest.{Guest}
use Rattle.rvm_protocol.specs.Modes.{Mode, Empty, Run, Offering, Copying, Stopped, Given, Staging, Held, move_of}
use Rattle.rvm_protocol.proofs.PairInvariant.{lim, go_lim, ready_lim, own_ok, their_ok, Meet, HoldsNone, run_beside, offering_beside, held_beside, BesideOk, Content}
use Rattle.rvm_protocol.proofs.CurrentModes.{held_num}
use Rattle.rvm_protocol.proofs.OtherModes.{copying_num, stopped_num}
use Rattle.rvm_protocol.proofs.Tellings.{is_stopped}
use Rattle.rvm_protocol.specs.Shown.{IsTarget}

module _ {S P : Type 0} where
  abbrev pub is_run : Mode S P → Bool
  is_run (Run n g) = true
  is_run mode = false

  -- a frame of a host that isn't current
  abbrev pub from_ok : {B : Type 0} → Mode S P → Frame P B → Type 0
  from_ok X (Offer k a b) = k < suc (move_of X)
  from_ok X (Accept k) = k < suc (move_of X)
  from_ok X (Refuse k a) = Unit {0}
  from_ok X (Page k p n b) = k < suc (move_of X)
  from_ok X (RoundEnd k a b c d) = Unit {0}
  from_ok X (Lost k ps) = Unit {0}
  from_ok X (State k ns b) = k < suc (move_of X)
  from_ok X (Part k st i u x) = k < suc (move_of X)
  from_ok X (Zero k p n) = ⊥
  from_ok X (Ready k) = k < ready_lim X
  from_ok X (Go k) = Unit {0}
  from_ok X (Started k) = k < move_of X
  from_ok X (Abort k) = k < move_of X

  -- a Given host's move was taken by its partner
  abbrev pub GivenOk : ℕ → Mode S P → Type 0
  GivenOk l (Given n kept) = n < l
  GivenOk l mode = Unit {0}

module _ {P B : Type 0} where
  -- a frame of a move below l
  abbrev pub past_ok : ℕ → Frame P B → Type 0
  past_ok l (Offer k a b) = k < l
  past_ok l (Accept k) = k < l
  past_ok l (Refuse k a) = Unit {0}
  past_ok l (Page k p n b) = k < l
  past_ok l (RoundEnd k a b c d) = Unit {0}
  past_ok l (Lost k ps) = Unit {0}
  past_ok l (State k ns b) = k < l
  past_ok l (Part k st i u x) = k < l
  past_ok l (Zero k p n) = ⊥
  past_ok l (Ready k) = k < l
  past_ok l (Go k) = k < l
  past_ok l (Started k) = k < l
  past_ok l (Abort k) = k < l

  abbrev pub go_ok : ℕ → Frame P B → Type 0
  go_ok l (Go k) = k < l
  go_ok l f = Unit {0}

  pub past_mono : (l l' : ℕ) → l ≤ l' → (f : Frame P B) → past_ok l f → past_ok l' f
  past_mono l l' le (Offer k a b) h = omega arith
  past_mono l l' le (Accept k) h = omega arith
  past_mono l l' le (Refuse k a) h = tt
  past_mono l l' le (Page k p n b) h = omega arith
  past_mono l l' le (RoundEnd k a b c d) h = tt
  past_mono l l' le (Lost k ps) h = tt
  past_mono l l' le (State k ns b) h = omega arith
  past_mono l l' le (Part k st i u x) h = omega arith
  past_mono l l' le (Zero k i u) h = h
  past_mono l l' le (Ready k) h = omega arith
  past_mono l l' le (Go k) h = omega arith
  past_mono l l' le (Started k) h = omega arith
  past_mono l l' le (Abort k) h = omega arith

  pub go_mono : (l l' : ℕ) → l ≤ l' → (f : Frame P B) → go_ok l f → go_ok l' f
  go_mono l l' le (Go k) h = omega arith
  go_mono l l' le f h = tt

module _ {S P B : Type 0} where
  pub own_go : (O T : Mode S P) (f : Frame P B) → own_ok O T f → go_ok (move_of T) f
  own_go O T (Go k) h = h
  own_go O T f h = tt

  pub their_go : (O T : Mode S P) (f : Frame P B) → their_ok O T f → go_ok (go_lim O) f
  their_go O T (Go k) h = h
  their_go O T f h = tt

  pub past_own : (e : ℕ) (g : S) (T : Mode S P) (f : Frame P B) → past_ok (suc e) f
      → go_ok (move_of T) f → own_ok (Run e g) T f
  past_own e g T (Go k) h q = q
  past_own e g T (Offer k a b) h q = h
  past_own e g T (Accept k) h q = h
  past_own e g T (Refuse k a) h q = tt
  past_own e g T (Page k p n b) h q = h
  past_own e g T (RoundEnd k a b c d) h q = tt
  past_own e g T (Lost k ps) h q = tt
  past_own e g T (State k ns b) h q = h
  past_own e g T (Part k st i u x) h q = h
  past_own e g T (Zero k i u) h q = h
  past_own e g T (Ready k) h q = h
  past_own e g T (Started k) h q = h
  past_own e g T (Abort k) h q = h

  pub own_past : (e : ℕ) (g : S) (T : Mode S P) (f : Frame P B) → move_of T < suc e
      → own_ok (Run e g) T f → past_ok (suc e) f
  own_past e g T (Go k) lt h = omega arith
  own_past e g T (Offer k a b) lt h = h
  own_past e g T (Accept k) lt h = h
  own_past e g T (Refuse k a) lt h = tt
  own_past e g T (Page k p n b) lt h = h
  own_past e g T (RoundEnd k a b c d) lt h = tt
  own_past e g T (Lost k ps) lt h = tt
  own_past e g T (State k ns b) lt h = h
  own_past e g T (Part k st i u x) lt h = h
  own_past e g T (Zero k i u) lt h = h
  own_past e g T (Ready k) lt h = h
  own_past e g T (Started k) lt h = h
  own_past e g T (Abort k) lt h = h

  pub their_past : (e : ℕ) (g : S) (T : Mode S P) (f : Frame P B) → move_of T < suc e
      → ready_lim T ≤ suc (move_of T) → their_ok (Run e g) T f → past_ok (suc e) f
  their_past e g T (Go k) lt le h = h
  their_past e g T (Offer k a b) lt le h = omega arith
  their_past e g T (Accept k) lt le h = omega arith
  their_past e g T (Refuse k a) lt le h = tt
  their_past e g T (Page k p n b) lt le h = omega arith
  their_past e g T (RoundEnd k a b c d) lt le h = tt
  their_past e g T (Lost k ps) lt le h = tt
  their_past e g T (State k ns b) lt le h = omega arith
  their_past e g T (Part k st i u x) lt le h = omega arith
  their_past e g T (Zero k i u) lt le h = h
  their_past e g T (Ready k) lt le h = omega arith
  their_past e g T (Started k) lt le h = omega arith
  their_past e g T (Abort k) lt le h = omega arith

  pub their_from : (O T : Mode S P) (f : Frame P B) → their_ok O T f → from_ok T f
  their_from O T (Go k) h = tt
  their_from O T (Offer k a b) h = h
  their_from O T (Accept k) h = h
  their_from O T (Refuse k a) h = tt
  their_from O T (Page k p n b) h = h
  their_from O T (RoundEnd k a b c d) h = tt
  their_from O T (Lost k ps) h = tt
  their_from O T (State k ns b) h = h
  their_from O T (Part k st i u x) h = h
  their_from O T (Zero k i u) h = h
  their_from O T (Ready k) h = h
  their_from O T (Started k) h = h
  their_from O T (Abort k) h = h

  pub from_their : (O T : Mode S P) (f : Frame P B) → from_ok T f → go_ok (go_lim O) f
      → their_ok O T f
  from_their O T (Go k) h q = q
  from_their O T (Offer k a b) h q = h
  from_their O T (Accept k) h q = h
  from_their O T (Refuse k a) h q = tt
  from_their O T (Page k p n b) h q = h
  from_their O T (RoundEnd k a b c d) h q = tt
  from_their O T (Lost k ps) h q = tt
  from_their O T (State k ns b) h q = h
  from_their O T (Part k st i u x) h q = h
  from_their O T (Zero k i u) h q = h
  from_their O T (Ready k) h q = h
  from_their O T (Started k) h q = h
  from_their O T (Abort k) h q = h

  -- with the largest sets of frames: what is kept of their_ok is kept of from_ok
  pub from_up : (O T T' : Mode S P) → ((f : Frame P B) → their_ok O T f → their_ok O T' f)
      → (f : Frame P B) → from_ok T f → from_ok T' f
  from_up O T T' up (Go k) h = tt
  from_up O T T' up (Offer k a b) h = up (Offer k a b) h
  from_up O T T' up (Accept k) h = up (Accept k) h
  from_up O T T' up (Refuse k a) h = tt
  from_up O T T' up (Page k p n b) h = up (Page k p n b) h
  from_up O T T' up (RoundEnd k a b c d) h = tt
  from_up O T T' up (Lost k ps) h = tt
  from_up O T T' up (State k ns b) h = up (State k ns b) h
  from_up O T T' up (Part k st i u x) h = up (Part k st i u x) h
  from_up O T T' up (Zero k i u) h = h
  from_up O T T' up (Ready k) h = up (Ready k) h
  from_up O T T' up (Started k) h = up (Started k) h
  from_up O T T' up (Abort k) h = up (Abort k) h

  -- own_ok only grows with the other's number
  pub own_up : (O T T' : Mode S P) → move_of T ≤ move_of T' → (f : Frame P B) → own_ok O T f
      → own_ok O T' f
  own_up O T T' le (Go k) h = omega arith
  own_up O T T' le (Offer k a b) h = h
  own_up O T T' le (Accept k) h = h
  own_up O T T' le (Refuse k a) h = tt
  own_up O T T' le (Page k p n b) h = h
  own_up O T T' le (RoundEnd k a b c d) h = tt
  own_up O T T' le (Lost k ps) h = tt
  own_up O T T' le (State k ns b) h = h
  own_up O T T' le (Part k st i u x) h = h
  own_up O T T' le (Zero k i u) h = h
  own_up O T T' le (Ready k) h = h
  own_up O T T' le (Started k) h = h
  own_up O T T' le (Abort k) h = h

  -- after a commit
  pub given_from : (n : ℕ) (X : Mode S P) → held_beside n X → (f : Frame P B) → past_ok n f
      → from_ok X f
  given_from n (Given k kept) h (Go j) q = tt
  given_from n (Given k kept) h (Offer j a b) q = omega arith
  given_from n (Given k kept) h (Accept j) q = omega arith
  given_from n (Given k kept) h (Refuse j a) q = tt
  given_from n (Given k kept) h (Page j p i b) q = omega arith
  given_from n (Given k kept) h (RoundEnd j a b c d) q = tt
  given_from n (Given k kept) h (Lost j ps) q = tt
  given_from n (Given k kept) h (State j ns b) q = omega arith
  given_from n (Given k kept) h (Part j st i u x) q = omega arith
  given_from n (Given k kept) h (Zero j i u) q = q
  given_from n (Given k kept) h (Ready j) q = omega arith
  given_from n (Given k kept) h (Started j) q = omega arith
  given_from n (Given k kept) h (Abort j) q = omega arith
  given_from n (Empty k) h f q = absurd h
  given_from n (Run k g) h f q = absurd h
  given_from n (Offering k g p) h f q = absurd h
  given_from n (Copying k r) h f q = absurd h
  given_from n (Stopped k l) h f q = absurd h
  given_from n (Staging k s) h f q = absurd h
  given_from n (Held k g) h f q = absurd h

pub below : (a b : ℕ) → ((k : ℕ) → k < a → k < b) → a ≤ b
below zero b h = omega arith
below (suc a) b h = let z : a < b = h a (omega arith) in omega arith

module _ {S P : Type 0} where
  pub ready_num : (X : Mode S P) → ready_lim X ≤ suc (move_of X)
  ready_num (Empty n) = omega arith
  ready_num (Run n g) = omega arith
  ready_num (Offering n g p) = omega arith
  ready_num (Copying n r) = omega arith
  ready_num (Stopped n l) = omega arith
  ready_num (Given n kept) = omega arith
  ready_num (Staging n s) = omega arith
  ready_num (Held n g) = omega arith

  pub lim_num : (X : Mode S P)
      → (move_of X ≤ lim X) × (lim X ≤ suc (move_of X)) × (move_of X ≤ go_lim X) ×
      (lim X ≤ go_lim X)
  lim_num (Empty n) = (omega arith, omega arith, omega arith, omega arith)
  lim_num (Run n g) = (omega arith, omega arith, omega arith, omega arith)
  lim_num (Offering n g p) = (omega arith, omega arith, omega arith, omega arith)
  lim_num (Copying n r) = (omega arith, omega arith, omega arith, omega arith)
  lim_num (Stopped n l) = (omega arith, omega arith, omega arith, omega arith)
  lim_num (Given n kept) = (omega arith, omega arith, omega arith, omega arith)
  lim_num (Staging n s) = (omega arith, omega arith, omega arith, omega arith)
  lim_num (Held n g) = (omega arith, omega arith, omega arith, omega arith)

  pub run_apart : (e : ℕ) (X : Mode S P) → HoldsNone X → move_of X < suc e → run_beside e X
  run_apart e (Empty n) h lt = omega arith
  run_apart e (Given n kept) h lt = omega arith
  run_apart e (Staging n s) h lt = omega arith
  run_apart e (Held n g) h lt = omega arith
  run_apart e (Run n g) h lt = h
  run_apart e (Offering n g p) h lt = h
  run_apart e (Copying n r) h lt = h
  run_apart e (Stopped n l) h lt = h

  pub apart_run : (e : ℕ) (X : Mode S P) → run_beside e X → HoldsNone X × (move_of X < suc e)
  apart_run e (Empty n) h = (tt, omega arith)
  apart_run e (Given n kept) h = (tt, omega arith)
  apart_run e (Staging n s) h = (tt, omega arith)
  apart_run e (Held n g) h = (tt, omega arith)
  apart_run e (Run n g) h = absurd h
  apart_run e (Offering n g p) h = absurd h
  apart_run e (Copying n r) h = absurd h
  apart_run e (Stopped n l) h = absurd h

  pub offering_apart : (e : ℕ) (X : Mode S P) → HoldsNone X → move_of X < e → offering_beside e X
  offering_apart e (Empty n) h lt = lt
  offering_apart e (Given n kept) h lt = lt
  offering_apart e (Staging n s) h lt = omega arith
  offering_apart e (Held n g) h lt = lt
  offering_apart e (Run n g) h lt = h
  offering_apart e (Offering n g p) h lt = h
  offering_apart e (Copying n r) h lt = h
  offering_apart e (Stopped n l) h lt = h

  pub meets_apart : (O T X : Mode S P) → Meet O T → move_of T < lim O → HoldsNone X
      → move_of X < lim O → Meet O X
  meets_apart (Run e g) T X i lt h le = run_apart e X h le
  meets_apart (Offering e g p) T X i lt h le = offering_apart e X h le
  meets_apart (Copying e r) T X i lt h le =
      let q : move_of T ≡ e = copying_num e T i in absurd (omega arith)
  meets_apart (Stopped e l) T X i lt h le =
      let q : move_of T ≡ e = stopped_num e T i in absurd (omega arith)
  meets_apart (Held e g) T X i lt h le =
      let q : move_of T ≡ e = held_num e T i in absurd (omega arith)
  meets_apart (Empty e) T X i lt h le = absurd i
  meets_apart (Given e kept) T X i lt h le = absurd i
  meets_apart (Staging e s) T X i lt h le = absurd i

  offering_num : (e : ℕ) (T : Mode S P) → offering_beside e T → move_of T ≤ e
  offering_num e (Empty n) h = omega arith
  offering_num e (Given n kept) h = omega arith
  offering_num e (Staging n s) h = omega arith
  offering_num e (Held n g) h = omega arith
  offering_num e (Run n g) h = absurd h
  offering_num e (Offering n g p) h = absurd h
  offering_num e (Copying n r) h = absurd h
  offering_num e (Stopped n l) h = absurd h

  pub meet_num : (O T : Mode S P) → Meet O T → move_of T ≤ move_of O
  meet_num (Run e g) T i = let q = (apart_run e T i).1 in omega (arith, q)
  meet_num (Offering e g p) T i = offering_num e T i
  meet_num (Copying e r) T i = let q : move_of T ≡ e = copying_num e T i in omega arith
  meet_num (Stopped e l) T i = let q : move_of T ≡ e = stopped_num e T i in omega arith
  meet_num (Held e g) T i = let q : move_of T ≡ e = held_num e T i in omega arith
  meet_num (Empty e) T i = absurd i
  meet_num (Given e kept) T i = absurd i
  meet_num (Staging e s) T i = absurd i

  given_held : (e : ℕ) (T : Mode S P) → held_beside e T → GivenOk (suc e) T
  given_held e (Given n kept) h = omega arith
  given_held e (Empty n) h = tt
  given_held e (Run n g) h = tt
  given_held e (Offering n g p) h = tt
  given_held e (Copying n r) h = tt
  given_held e (Stopped n l) h = tt
  given_held e (Staging n s) h = tt
  given_held e (Held n g) h = tt

  pub given_mono : (l l' : ℕ) (X : Mode S P) → l ≤ l' → GivenOk l X → GivenOk l' X
  given_mono l l' (Given n kept) le h = omega arith
  given_mono l l' (Empty n) le h = tt
  given_mono l l' (Run n g) le h = tt
  given_mono l l' (Offering n g p) le h = tt
  given_mono l l' (Copying n r) le h = tt
  given_mono l l' (Stopped n q) le h = tt
  given_mono l l' (Staging n s) le h = tt
  given_mono l l' (Held n g) le h = tt

  -- the three modes at a commit
  pub record Turn (O T X : Mode S P) : Type 0 where
    pub there : move_of T ≡ lim O
    pub now : lim T ≡ lim O
    pub left : move_of X ≡ lim O
    pub reached : go_lim O ≡ lim O
    pub more : move_of T < go_lim T
    pub beside : held_beside (lim O) X
    pub given : GivenOk (go_lim T) X
    pub runs : is_run T ≡ false
    pub target : (ts : ℕ → ℕ) (d : ℕ) → IsTarget ts d T

  turn_held : (n : ℕ) (l : _) (T X : Mode S P) → Meet (Stopped n l) T → Meet T X
      → Turn (Stopped n l) T X
  turn_held n l (Held k g) X a b =
      let q : move_of X ≡ k = held_num k X b in
      record {
        there = a;
        now = a;
        left = omega arith;
        reached = refl;
        more = omega arith;
        beside =
            subst (λ z. held_beside z X) a b;
        given =
            given_held k X b;
        runs = refl;
        target = λ ts d. tt;
      }
  turn_held n l (Empty k) X a b = absurd a
  turn_held n l (Run k g) X a b = absurd a
  turn_held n l (Offering k g p) X a b = absurd a
  turn_held n l (Copying k r) X a b = absurd a
  turn_held n l (Stopped k q) X a b = absurd a
  turn_held n l (Given k kept) X a b = absurd a
  turn_held n l (Staging k s) X a b = absurd b

  pub turn : (O T X : Mode S P) → is_stopped O ≡ true → Meet O T → Meet T X → Turn O T X
  turn (Stopped n l) T X h a b = turn_held n l T X a b
  turn (Empty n) T X h a b = absurd a
  turn (Given n kept) T X h a b = absurd a
  turn (Staging n s) T X h a b = absurd a
  turn (Run n g) T X h a b = cc
  turn (Offering n g p) T X h a b = cc
  turn (Copying n r) T X h a b = cc
  turn (Held n g) T X h a b = cc

module _ {S P E A B : Type 0} (m : Guest S P E A B) where
  beside_apart : (e c h : ℕ) (F : Frame P B → Type 0) (X : Mode S P) → move_of X < e
      → BesideOk m e c h F X
  beside_apart e c h F (Staging n s) lt = λ same. absurd (omega arith)
  beside_apart e c h F (Empty n) lt = tt
  beside_apart e c h F (Run n g) lt = tt
  beside_apart e c h F (Offering n g p) lt = tt
  beside_apart e c h F (Copying n r) lt = tt
  beside_apart e c h F (Stopped n l) lt = tt
  beside_apart e c h F (Given n kept) lt = tt
  beside_apart e c h F (Held n g) lt = tt

  pub content_apart : (O T X : Mode S P) (F : Frame P B → Type 0) → Meet O T → move_of T < lim O
      → move_of X < lim O → Content m O T F → Content m O X F
  content_apart (Run e g) T X F i lt le ok = tt
  content_apart (Offering e g p) T X F i lt le ok = (ok.0, beside_apart e _ _ F X le)
  content_apart (Copying e r) T X F i lt le ok =
      let q : move_of T ≡ e = copying_num e T i in absurd (omega arith)
  content_apart (Stopped e l) T X F i lt le ok =
      let q : move_of T ≡ e = stopped_num e T i in absurd (omega arith)
  content_apart (Held e g) T X F i lt le ok = tt
  content_apart (Empty e) T X F i lt le ok = tt
  content_apart (Given e kept) T X F i lt le ok = tt
  content_apart (Staging e s) T X F i lt le ok = tt
