-- The first two parts of the invariant are kept by each event at the other host.
use Rattle.std.proofs.Common.{◌≡◌, ℕ, suc, ◌<◌, ◌≤◌, ◌&&◌, ◌==◌, nat_lt, List, length, Some, None, arith}
use Rattle.std.proofs.lemmas.Bool.{ltb-true, eqb-true}
use Rattle.rvm_protocol.specs.Commands.{Command, Board, Begin, Copy, Resend, AbortMove}
use Rattle.rvm_protocol.specs.Frames.{Frame, Offer, Accept, Refuse, Page, RoundEnd, Lost, State, Ready, Go, Started, Abort, Part}
use Rattle.rvm_protocol.specs.Guest.{Guest}
use Rattle.rvm_protocol.specs.Modes.{Mode, Empty, Run, Offering, Copying, Stopped, Given, Staging, Held, Outcome, ignores, move_of, sends}
use Rattle.rvm_protocol.specs.Obeying.{obey}
use Rattle.rvm_protocol.specs.Pages.{size, members}
use Rattle.rvm_protocol.specs.Receiving.{came, of_this_move, offered, offer_above}
use Rattle.rvm_protocol.specs.Staging.{Stage, lacks, with_part}
use Rattle.rvm_protocol.proofs.PairInvariant.{More, lim, go_lim, state_lim, ready_lim, their_ok, Meet, copying_beside, stopped_beside, HoldsNone, Modes}
use Rattle.rvm_protocol.proofs.CurrentModes.{either, other_to, held_num}
use Rattle.rvm_protocol.proofs.StateCases.{state_cases, part_cases}
use Rattle.rvm_protocol.specs.Replies.{ReadySent, Lacking}

module _ {S P : Type 0} where
  given_go : (O : Mode S P) (n : ℕ) (kept : S) → Meet O (Given n kept) → n < go_lim O
  given_go (Run e g) n kept h = omega arith
  given_go (Offering e g p) n kept h = h
  given_go (Held e g) n kept h = omega arith
  given_go (Copying e r) n kept h = absurd h
  given_go (Stopped e l) n kept h = absurd h
  given_go (Empty e) n kept h = absurd h
  given_go (Given e old) n kept h = absurd h
  given_go (Staging e s) n kept h = absurd h

  -- the other host never holds a guest that runs
  pub alone : (O T : Mode S P) → Meet O T → HoldsNone T
  alone O (Empty n) h = tt
  alone O (Given n kept) h = tt
  alone O (Staging n s) h = tt
  alone O (Held n g) h = tt
  alone (Run e q) T h = h
  alone (Offering e q p) T h = h
  alone (Copying e r) T h = h
  alone (Stopped e l) T h = h
  alone (Held e q) T h = h
  alone (Empty e) T h = absurd h
  alone (Given e kept) T h = absurd h
  alone (Staging e s) T h = absurd h

  pub copying_num : (e : ℕ) (T : Mode S P) → copying_beside e T → move_of T ≡ e
  copying_num e (Staging n s) h = h
  copying_num e (Empty n) h = absurd h
  copying_num e (Run n g) h = absurd h
  copying_num e (Offering n g p) h = absurd h
  copying_num e (Copying n r) h = absurd h
  copying_num e (Stopped n l) h = absurd h
  copying_num e (Given n kept) h = absurd h
  copying_num e (Held n g) h = absurd h

  pub stopped_num : (e : ℕ) (T : Mode S P) → stopped_beside e T → move_of T ≡ e
  stopped_num e (Staging n s) h = h
  stopped_num e (Held n g) h = h
  stopped_num e (Empty n) h = absurd h
  stopped_num e (Run n g) h = absurd h
  stopped_num e (Offering n g p) h = absurd h
  stopped_num e (Copying n r) h = absurd h
  stopped_num e (Stopped n l) h = absurd h
  stopped_num e (Given n kept) h = absurd h

  restaged : (O T : Mode S P) (k : ℕ) (s : Stage P) → Meet O T → move_of T < k → k < suc (move_of O)
      → Meet O (Staging k s)
  restaged (Run e g) T k s h a b = omega arith
  restaged (Offering e g p) T k s h a b = omega arith
  restaged (Copying e r) T k s h a b = let q : move_of T ≡ e = copying_num e T h in omega arith
  restaged (Stopped e l) T k s h a b = let q : move_of T ≡ e = stopped_num e T h in omega arith
  restaged (Held e g) T k s h a b = let q : move_of T ≡ e = held_num e T h in absurd (omega arith)
  restaged (Empty e) T k s h a b = h
  restaged (Given e kept) T k s h a b = h
  restaged (Staging e q) T k s h a b = h

  stage_stays : (O : Mode S P) (n : ℕ) (s t : Stage P) → Meet O (Staging n s) → Meet O (Staging n t)
  stage_stays (Run e g) n s t h = h
  stage_stays (Offering e g p) n s t h = h
  stage_stays (Copying e r) n s t h = h
  stage_stays (Stopped e l) n s t h = h
  stage_stays (Held e g) n s t h = h
  stage_stays (Empty e) n s t h = h
  stage_stays (Given e kept) n s t h = h
  stage_stays (Staging e q) n s t h = h

  ready_meets : (O : Mode S P) (n k : ℕ) (s : Stage P) (g : S) → n ≡ k → Meet O (Staging n s)
      → k < state_lim O → Meet O (Held n g)
  ready_meets (Run e q) n k s g same h lt = h
  ready_meets (Offering e q p) n k s g same h lt = omega arith
  ready_meets (Copying e r) n k s g same h lt = omega arith
  ready_meets (Stopped e l) n k s g same h lt = h
  ready_meets (Held e q) n k s g same h lt = h
  ready_meets (Empty e) n k s g same h lt = h
  ready_meets (Given e kept) n k s g same h lt = h
  ready_meets (Staging e q) n k s g same h lt = h

  finished_meets : (O : Mode S P) (n k : ℕ) (kept : S) → n ≡ k → Meet O (Given n kept) → k < lim O
      → Meet O (Empty n)
  finished_meets (Run e q) n k kept same h lt = h
  finished_meets (Offering e q p) n k kept same h lt = h
  finished_meets (Copying e r) n k kept same h lt = h
  finished_meets (Stopped e l) n k kept same h lt = h
  finished_meets (Held e q) n k kept same h lt = omega arith
  finished_meets (Empty e) n k kept same h lt = h
  finished_meets (Given e old) n k kept same h lt = h
  finished_meets (Staging e q) n k kept same h lt = h

  dropped_stage : (O : Mode S P) (n k : ℕ) (s : Stage P) → n ≡ k → Meet O (Staging n s) → k < lim O
      → Meet O (Empty n)
  dropped_stage (Run e q) n k s same h lt = h
  dropped_stage (Offering e q p) n k s same h lt = omega arith
  dropped_stage (Copying e r) n k s same h lt = omega arith
  dropped_stage (Stopped e l) n k s same h lt = omega arith
  dropped_stage (Held e q) n k s same h lt = h
  dropped_stage (Empty e) n k s same h lt = h
  dropped_stage (Given e kept) n k s same h lt = h
  dropped_stage (Staging e q) n k s same h lt = h

  dropped_held : (O : Mode S P) (n k : ℕ) (g : S) → n ≡ k → Meet O (Held n g) → k < lim O
      → Meet O (Empty n)
  dropped_held (Run e q) n k g same h lt = h
  dropped_held (Offering e q p) n k g same h lt = h
  dropped_held (Copying e r) n k g same h lt = h
  dropped_held (Stopped e l) n k g same h lt = omega arith
  dropped_held (Held e q) n k g same h lt = h
  dropped_held (Empty e) n k g same h lt = h
  dropped_held (Given e kept) n k g same h lt = h
  dropped_held (Staging e q) n k g same h lt = h

module _ {S P E A B : Type 0} (m : Guest S P E A B) where
  abbrev pub Beside : Mode S P → (Frame P B → Type 0) → (Frame P B → Type 0) → Outcome S P A B
      → Type 0
  Beside O F R o = Modes O o.next F (More R o.made)

  equal_beside : (n k : ℕ) (o : Outcome S P A B) (O T : Mode S P) (F R : Frame P B → Type 0)
      → Modes O T F R → (n ≡ k → Beside O F R o) → Beside O F R (of_this_move m n k o T)
  equal_beside n k o O T F R i f =
      either (Beside O F R) (n == k) o (ignores T) (λ e. f (eqb-true n k e)) (λ _. i)

  -- a frame more of the other host, which stays in its mode
  other_sends : (O T : Mode S P) (F R : Frame P B → Type 0) (x : Frame P B) → Modes O T F R
      → their_ok O T x → Modes O T F (More R (Some x))
  other_sends O T F R x i new = other_to O T T F R (Some x) i i.meet (omega arith) (omega arith) new

module _ {S P E A B : Type 0} (m : Guest S P E A B) (v : ℕ) where
  -- a command at the other host
  pub other_obeys : (c : Command E) (O T : Mode S P) (F R : Frame P B → Type 0) → Modes O T F R
      → Beside m O F R (obey m v c T)
  other_obeys (Board e) O (Empty n) F R i = i
  other_obeys (Board e) O (Given n kept) F R i = i
  other_obeys (Board e) O (Staging n s) F R i = i
  other_obeys (Board e) O (Held n g) F R i = i
  other_obeys (Begin to p) O (Empty n) F R i = i
  other_obeys (Begin to p) O (Given n kept) F R i = i
  other_obeys (Begin to p) O (Staging n s) F R i = i
  other_obeys (Begin to p) O (Held n g) F R i = i
  other_obeys Copy O (Empty n) F R i = i
  other_obeys Copy O (Given n kept) F R i = i
  other_obeys Copy O (Staging n s) F R i = i
  other_obeys Copy O (Held n g) F R i = i
  other_obeys Resend O (Empty n) F R i = i
  other_obeys Resend O (Given n kept) F R i =
      other_sends m O (Given n kept) F R (Go n) i (given_go O n kept i.meet)
  other_obeys Resend O (Staging n s) F R i = i
  other_obeys Resend O (Held n g) F R i = other_sends m O (Held n g) F R (Ready n) i (omega arith)
  other_obeys AbortMove O (Empty n) F R i = i
  other_obeys AbortMove O (Given n kept) F R i = i
  other_obeys AbortMove O (Staging n s) F R i = i
  other_obeys AbortMove O (Held n g) F R i = i
  other_obeys c O (Run n g) F R i = absurd (alone O (Run n g) i.meet)
  other_obeys c O (Offering n g p) F R i = absurd (alone O (Offering n g p) i.meet)
  other_obeys c O (Copying n r) F R i = absurd (alone O (Copying n r) i.meet)
  other_obeys c O (Stopped n l) F R i = absurd (alone O (Stopped n l) i.meet)

module _ {S P E A B : Type 0} (m : Guest S P E A B) where
  -- an offer above what the other host has seen
  offered_beside : (limit k a b : ℕ) (O T : Mode S P) (F R : Frame P B → Type 0) → Modes O T F R
      → F (Offer k a b) → move_of T < k → ready_lim T ≤ k → Beside m O F R (offered m limit k a b T)
  offered_beside limit k a b O T F R i h lt le =
      either (Beside m O F R) (nat_lt limit a) _ _
      (λ _. other_sends m O T F R (Refuse k limit) i tt)
      (λ _. other_to O T (Staging k _) F R (Some (Accept k)) i
      (restaged O T k _ i.meet lt (i.own (Offer k a b) h)) (omega arith) le (omega arith))

  above_beside : (limit k a b : ℕ) (O T : Mode S P) (F R : Frame P B → Type 0) → Modes O T F R
      → F (Offer k a b) → ready_lim T ≤ suc (move_of T)
      → Beside m O F R (offer_above m (move_of T) limit k a b T)
  above_beside limit k a b O T F R i h le =
      either (Beside m O F R) (nat_lt (move_of T) k) (offered m limit k a b T) (ignores T)
      (λ e. let lt : move_of T < k = ltb-true
      (move_of T) k e in offered_beside limit k a b O T F R i h lt (omega arith))
      (λ _. i)

  ready_beside : (n k : ℕ) (s : Stage P) (g : S) (O : Mode S P) (F R : Frame P B → Type 0)
      → Modes O (Staging n s) F R → n ≡ k → k < state_lim O
      → Beside m O F R (sends ReadySent (Ready n) (Held n g))
  ready_beside n k s g O F R i e lt =
      other_to O (Staging n s) (Held n g) F R (Some (Ready n)) i (ready_meets O n k s g e i.meet lt)
      (omega arith) (omega arith) (omega arith)

  lost_beside : (n : ℕ) (s t : Stage P) (ns : List ℕ) (O : Mode S P) (F R : Frame P B → Type 0)
      → Modes O (Staging n s) F R
      → Beside m O F R
      (sends (Lacking (size (lacks t ns) (length t.pages)))
      (Lost n (members (lacks t ns) 0 (length t.pages))) (Staging n t))
  lost_beside n s t ns O F R i =
      other_to O (Staging n s) (Staging n t) F R (Some (Lost n _)) i (stage_stays O n s t i.meet)
      (omega arith) (omega arith) tt

  -- a frame that comes to the other host
  pub other_receives : (limit : ℕ) (f : Frame P B) (O T : Mode S P) (F R : Frame P B → Type 0) → F f
      → Modes O T F R → Beside m O F R (came m limit f T)
  other_receives limit (Offer k a b) O (Empty n) F R h i =
      above_beside limit k a b O (Empty n) F R i h (omega arith)
  other_receives limit (Offer k a b) O (Given n kept) F R h i =
      above_beside limit k a b O (Given n kept) F R i h (omega arith)
  other_receives limit (Offer k a b) O (Held n g) F R h i =
      above_beside limit k a b O (Held n g) F R i h (omega arith)
  other_receives limit (Offer k a b) O (Staging n s) F R h i =
      either (Beside m O F R) (n == k) _ (offer_above m n limit k a b (Staging n s))
      (λ _. other_sends m O (Staging n s) F R (Accept n) i (omega arith))
      (λ _. above_beside limit k a b O (Staging n s) F R i h (omega arith))
  other_receives limit (Page k p q b) O (Staging n s) F R h i =
      equal_beside m n k _ O (Staging n s) F R i λ e.
      either (Beside m O F R) (nat_lt p (length s.pages) && nat_lt (s.have p) q) _
      (ignores (Staging n s))
      (λ _. other_to O (Staging n s) (Staging n _) F R None i (stage_stays O n s _ i.meet)
      (omega arith) (omega arith) tt)
      (λ _. i)
  other_receives limit (RoundEnd k a b c d) O (Staging n s) F R h i =
      equal_beside m n k _ O (Staging n s) F R i λ e. i
  other_receives limit (State k ns b) O (Staging n s) F R h i =
      equal_beside m n k _ O (Staging n s) F R i λ e.
      state_cases m (Beside m O F R) n s s ns b i (lost_beside n s s ns O F R i)
      (λ g _ _. ready_beside n k s g O F R i e (i.own (State k ns b) h))
  other_receives limit (Part k st p u x) O (Staging n s) F R h i =
      equal_beside m n k _ O (Staging n s) F R i λ e.
      part_cases m (Beside m O F R) n s st p u x i i
      (λ _. other_to O (Staging n s) (Staging n _) F R None i (stage_stays O n s _ i.meet)
      (omega arith) (omega arith) tt)
      (λ _ ns. lost_beside n s (with_part s st p u x) ns O F R i)
      (λ _ xs ns b g _ _ _ _. ready_beside n k s g O F R i e (i.own (Part k st p u x) h))
  other_receives limit (Part k st p u x) O (Held n g) F R h i =
      equal_beside m n k _ O (Held n g) F R i λ e. other_sends m O (Held n g) F R (Ready n) i
      (omega arith)
  other_receives limit (State k ns b) O (Held n g) F R h i =
      equal_beside m n k _ O (Held n g) F R i λ e. other_sends m O (Held n g) F R (Ready n) i
      (omega arith)
  other_receives limit (Go k) O (Held n g) F R h i =
      equal_beside m n k _ O (Held n g) F R i λ e. let lt : k < n = i.own (Go k) h in absurd
      (omega arith)
  other_receives limit (Started k) O (Given n kept) F R h i =
      equal_beside m n k _ O (Given n kept) F R i λ e.
      other_to O (Given n kept) (Empty n) F R None i
      (finished_meets O n k kept e i.meet (i.own (Started k) h)) (omega arith) (omega arith) tt
  other_receives limit (Abort k) O (Staging n s) F R h i =
      equal_beside m n k _ O (Staging n s) F R i λ e.
      other_to O (Staging n s) (Empty n) F R None i
      (dropped_stage O n k s e i.meet (i.own (Abort k) h)) (omega arith) (omega arith) tt
  other_receives limit (Abort k) O (Held n g) F R h i =
      equal_beside m n k _ O (Held n g) F R i λ e.
      other_to O (Held n g) (Empty n) F R None i (dropped_held O n k g e i.meet (i.own (Abort k) h))
      (omega arith) (omega arith) tt
  other_receives limit (Accept k) O (Offering n g p) F R h i =
      absurd (alone O (Offering n g p) i.meet)
  other_receives limit (Refuse k a) O (Offering n g p) F R h i =
      absurd (alone O (Offering n g p) i.meet)
  other_receives limit (Lost k ps) O (Stopped n l) F R h i = absurd (alone O (Stopped n l) i.meet)
  other_receives limit (Ready k) O (Stopped n l) F R h i = absurd (alone O (Stopped n l) i.meet)
  other_receives limit (Go k) O (Run n g) F R h i = absurd (alone O (Run n g) i.meet)
  other_receives limit f O T F R h i = i
