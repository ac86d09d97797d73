-- The first two parts of the invariant are kept by each event at the current host.
use Rattle.std.proofs.Common.{◌≡◌, inl, inr, ℕ, suc, ◌<◌, ◌≤◌, Bool, true, false, ◌==◌, if◌then◌else◌, nat_lt, length, Option, Some, None, refl, sym, subst, arith}
use Rattle.std.proofs.lemmas.Bool.{ltb-true, eqb-true}
use Rattle.rvm_protocol.specs.Commands.{Policy, Command, Board, Begin, Copy, Resend, AbortMove, is_allowed}
use Rattle.rvm_protocol.specs.Frames.{Frame, Offer, Accept, Refuse, Page, RoundEnd, Lost, State, Ready, Go, Started, Abort, Part, Zero, is_compact}
use Rattle.rvm_protocol.specs.Guest.{Guest}
use Rattle.rvm_protocol.specs.Modes.{Mode, Empty, Run, Offering, Copying, Stopped, Given, Staging, Held, Outcome, ignores, move_of}
use Rattle.rvm_protocol.specs.Obeying.{obey, board, begin, begin_allowed, copy, resend, abort, copy_page, copy_last, resend_last, sends_state}
use Rattle.rvm_protocol.specs.Receiving.{came, of_this_move, offered}
use Rattle.rvm_protocol.specs.Replies.{Reply, Committed}
use Rattle.rvm_protocol.specs.Rounds.{Rounds, Last, to_copy, opened}
use Rattle.rvm_protocol.proofs.PairInvariant.{More, New, lim, go_lim, page_lim, state_lim, ready_lim, own_ok, their_ok, Meet, run_beside, offering_beside, copying_beside, stopped_beside, held_beside, Modes}

module _ {S P B : Type 0} where
  own_grows : (O T O' T' : Mode S P) → move_of O ≤ move_of O' → move_of T ≤ move_of T'
      → lim O ≤ lim O' → page_lim O ≤ page_lim O' → state_lim O ≤ state_lim O' → (f : Frame P B)
      → own_ok O T f → own_ok O' T' f
  own_grows O T O' T' a b c d e (Offer k x y) h = omega arith
  own_grows O T O' T' a b c d e (Accept k) h = omega arith
  own_grows O T O' T' a b c d e (Refuse k x) h = h
  own_grows O T O' T' a b c d e (Page k p n y) h = omega arith
  own_grows O T O' T' a b c d e (RoundEnd k x y z w) h = h
  own_grows O T O' T' a b c d e (Lost k ps) h = h
  own_grows O T O' T' a b c d e (State k ns y) h = omega arith
  own_grows O T O' T' a b c d e (Part k st i u x) h = omega arith
  own_grows O T O' T' a b c d e (Zero k i u) h = h
  own_grows O T O' T' a b c d e (Ready k) h = omega arith
  own_grows O T O' T' a b c d e (Go k) h = omega arith
  own_grows O T O' T' a b c d e (Started k) h = omega arith
  own_grows O T O' T' a b c d e (Abort k) h = omega arith

  their_grows : (O T O' T' : Mode S P) → move_of T ≤ move_of T' → ready_lim T ≤ ready_lim T'
      → go_lim O ≤ go_lim O' → (f : Frame P B) → their_ok O T f → their_ok O' T' f
  their_grows O T O' T' b c d (Offer k x y) h = omega arith
  their_grows O T O' T' b c d (Accept k) h = omega arith
  their_grows O T O' T' b c d (Refuse k x) h = h
  their_grows O T O' T' b c d (Page k p n y) h = omega arith
  their_grows O T O' T' b c d (RoundEnd k x y z w) h = h
  their_grows O T O' T' b c d (Lost k ps) h = h
  their_grows O T O' T' b c d (State k ns y) h = omega arith
  their_grows O T O' T' b c d (Part k st i u x) h = omega arith
  their_grows O T O' T' b c d (Zero k i u) h = h
  their_grows O T O' T' b c d (Ready k) h = omega arith
  their_grows O T O' T' b c d (Go k) h = omega arith
  their_grows O T O' T' b c d (Started k) h = omega arith
  their_grows O T O' T' b c d (Abort k) h = omega arith

module _ {X : Type 0} where
  -- a frame more
  pub more : (Q Q' F : X → Type 0) (x : Option X) → ((f : X) → Q f → Q' f) → New Q' x
      → ((f : X) → F f → Q f) → (f : X) → More F x f → Q' f
  more Q Q' F None up new old f h = up f (old f h)
  more Q Q' F (Some y) up new old f (inl h) = up f (old f h)
  more Q Q' F (Some y) up new old f (inr e) = subst Q' e new

  pub either : (Q : X → Type 0) (b : Bool) (x y : X) → (b ≡ true → Q x) → (b ≡ false → Q y)
      → Q (if b then x else y)
  either Q true x y f g = f refl
  either Q false x y f g = g refl

module _ {S P : Type 0} where
  begun_meets : (e : ℕ) (g : S) (p : Policy) (T : Mode S P) → run_beside e T
      → offering_beside (suc e) T
  begun_meets e g p (Empty n) h = omega arith
  begun_meets e g p (Given n kept) h = omega arith
  begun_meets e g p (Staging n s) h = omega arith
  begun_meets e g p (Held n q) h = omega arith
  begun_meets e g p (Run n q) h = h
  begun_meets e g p (Offering n q r) h = h
  begun_meets e g p (Copying n r) h = h
  begun_meets e g p (Stopped n l) h = h

  offering_runs : (e : ℕ) (T : Mode S P) → offering_beside e T → run_beside e T
  offering_runs e (Empty n) h = omega arith
  offering_runs e (Given n kept) h = omega arith
  offering_runs e (Staging n s) h = h
  offering_runs e (Held n q) h = omega arith
  offering_runs e (Run n q) h = h
  offering_runs e (Offering n q r) h = h
  offering_runs e (Copying n r) h = h
  offering_runs e (Stopped n l) h = h

  stopped_runs : (e : ℕ) (T : Mode S P) → stopped_beside e T → run_beside e T
  stopped_runs e (Staging n s) h = omega arith
  stopped_runs e (Held n q) h = omega arith
  stopped_runs e (Empty n) h = absurd h
  stopped_runs e (Given n kept) h = absurd h
  stopped_runs e (Run n q) h = h
  stopped_runs e (Offering n q r) h = h
  stopped_runs e (Copying n r) h = h
  stopped_runs e (Stopped n l) h = h

  accepted_meets : (e k : ℕ) (T : Mode S P) → e ≡ k → offering_beside e T → k < suc (move_of T)
      → copying_beside e T
  accepted_meets e k (Staging n s) q h lt = omega arith
  accepted_meets e k (Empty n) q h lt = omega arith
  accepted_meets e k (Given n kept) q h lt = omega arith
  accepted_meets e k (Held n g) q h lt = omega arith
  accepted_meets e k (Run n g) q h lt = h
  accepted_meets e k (Offering n g p) q h lt = h
  accepted_meets e k (Copying n r) q h lt = h
  accepted_meets e k (Stopped n l) q h lt = h

  copying_stops : (e : ℕ) (T : Mode S P) → copying_beside e T → stopped_beside e T
  copying_stops e (Staging n s) h = h
  copying_stops e (Empty n) h = h
  copying_stops e (Given n kept) h = h
  copying_stops e (Held n q) h = absurd h
  copying_stops e (Run n q) h = h
  copying_stops e (Offering n q r) h = h
  copying_stops e (Copying n r) h = h
  copying_stops e (Stopped n l) h = h

module _ {S P B : Type 0} where
  -- the current host goes to O', and may make a frame x
  pub owner_to : (O O' T : Mode S P) (F R : Frame P B → Type 0) (x : Option (Frame P B))
      → Modes O T F R → Meet O' T → move_of O ≤ move_of O' → lim O ≤ lim O'
      → page_lim O ≤ page_lim O' → state_lim O ≤ state_lim O' → go_lim O ≤ go_lim O'
      → New (own_ok O' T) x → Modes O' T (More F x) R
  owner_to O O' T F R x i meet a b c d e new =
      record {
        meet = meet;
        own = more (own_ok O T) (own_ok O' T) F x (own_grows O T O' T a
            (omega arith) b c d) new i.own;
        their = λ f h. their_grows O T O' T (omega arith) (omega arith) e f (i.their f h);
      }

  -- the other host goes to T', and may make a frame x
  pub other_to : (O T T' : Mode S P) (F R : Frame P B → Type 0) (x : Option (Frame P B))
      → Modes O T F R → Meet O T' → move_of T ≤ move_of T' → ready_lim T ≤ ready_lim T'
      → New (their_ok O T') x → Modes O T' F (More R x)
  other_to O T T' F R x i meet a b new =
      record {
        meet = meet;
        own = λ f h. own_grows O T O T' (omega arith) a (omega arith) (omega arith) (omega arith) f
            (i.own f h);
        their = more (their_ok O T) (their_ok O T') R x
            (their_grows O T O T' a b (omega arith)) new i.their;
      }

module _ {S P E A B : Type 0} (m : Guest S P E A B) where
  abbrev pub Kept : Mode S P → (Frame P B → Type 0) → (Frame P B → Type 0) → Outcome S P A B
      → Type 0
  Kept T F R o = Modes o.next T (More F o.made) R

  copying_kept : (e : ℕ) (r r' : Rounds S) (T : Mode S P) (F R : Frame P B → Type 0)
      (x : Option (Frame P B)) → Modes (Copying e r) T F R → New (own_ok (Copying e r') T) x
      → Modes (Copying e r') T (More F x) R
  copying_kept e r r' T F R x i new =
      owner_to (Copying e r) (Copying e r') T F R x i i.meet (omega arith) (omega arith)
      (omega arith) (omega arith) (omega arith) new

  stopped_kept : (e : ℕ) (l l' : Last S) (T : Mode S P) (F R : Frame P B → Type 0)
      (x : Option (Frame P B)) → Modes (Stopped e l) T F R → New (own_ok (Stopped e l') T) x
      → Modes (Stopped e l') T (More F x) R
  stopped_kept e l l' T F R x i new =
      owner_to (Stopped e l) (Stopped e l') T F R x i i.meet (omega arith) (omega arith)
      (omega arith) (omega arith) (omega arith) new

  board_kept : (e : E) (O T : Mode S P) (F R : Frame P B → Type 0) → Modes O T F R
      → Kept T F R (board m e O)
  board_kept e (Run n g) T F R i =
      owner_to (Run n g) (Run n (m.next g e)) T F R None i i.meet (omega arith) (omega arith)
      (omega arith) (omega arith) (omega arith) tt
  board_kept e (Offering n g p) T F R i =
      owner_to (Offering n g p) (Offering n (m.next g e) p) T F R None i i.meet (omega arith)
      (omega arith) (omega arith) (omega arith) (omega arith) tt
  board_kept e (Copying n r) T F R i = copying_kept n r _ T F R None i tt
  board_kept e (Stopped n l) T F R i = i
  board_kept e (Held n g) T F R i = i
  board_kept e (Empty n) T F R i = i
  board_kept e (Given n kept) T F R i = i
  board_kept e (Staging n s) T F R i = i

  begin_allowed_kept : (p : Policy) (n : ℕ) (g : S) (T : Mode S P) (F R : Frame P B → Type 0)
      → Modes (Run n g) T F R → Kept T F R (begin_allowed m p n g)
  begin_allowed_kept p n g T F R i =
      either (Kept T F R) _ _ _ (λ _. i) λ _.
      owner_to (Run n g) (Offering (suc n) g p) T F R
      (Some (Offer (suc n) (length (m.pages g)) (m.processors g))) i
      (begun_meets n g p T i.meet) (omega arith) (omega arith) (omega arith) (omega arith)
      (omega arith) (omega arith)

  begin_kept : (p : Policy) (O T : Mode S P) (F R : Frame P B → Type 0) → Modes O T F R
      → Kept T F R (begin m p O)
  begin_kept p (Run n g) T F R i =
      either (Kept T F R) (is_allowed p) _ _ (λ _. begin_allowed_kept p n g T F R i) (λ _. i)
  begin_kept p (Offering n g r) T F R i = i
  begin_kept p (Copying n r) T F R i = i
  begin_kept p (Stopped n l) T F R i = i
  begin_kept p (Held n g) T F R i = i
  begin_kept p (Empty n) T F R i = i
  begin_kept p (Given n kept) T F R i = i
  begin_kept p (Staging n s) T F R i = i

  copy_page_kept : (n : ℕ) (r : Rounds S) (q : Option ℕ) (T : Mode S P) (F R : Frame P B → Type 0)
      → Modes (Copying n r) T F R → Kept T F R (copy_page m n r q)
  copy_page_kept n r (Some p) T F R i =
      either (Kept T F R) _ _ _ (λ _. i) λ _. copying_kept n r _ T F R (Some _) i (omega arith)
  copy_page_kept n r None T F R i = copying_kept n r _ T F R (Some _) i tt

module _ {S P E A B : Type 0} (m : Guest S P E A B) (v : ℕ) where
  sends_state_kept : (a b : Reply A) (n : ℕ) (l : Last S) (T : Mode S P) (F R : Frame P B → Type 0)
      → Modes (Stopped n l) T F R → Kept m T F R (sends_state m v a b n l)
  sends_state_kept a b n l T F R i =
      either (Kept m T F R) (is_compact v) _ _
      (λ _. stopped_kept m n l _ T F R (Some _) i (omega arith))
      (λ _. stopped_kept m n l l T F R (Some _) i (omega arith))

  copy_last_kept : (n : ℕ) (l : Last S) (q : Option ℕ) (T : Mode S P) (F R : Frame P B → Type 0)
      → Modes (Stopped n l) T F R → Kept m T F R (copy_last m v n l q)
  copy_last_kept n l (Some p) T F R i =
      either (Kept m T F R) _ _ _ (λ _. i) λ _. stopped_kept m n l _ T F R (Some _) i (omega arith)
  copy_last_kept n l None T F R i = sends_state_kept _ _ n l T F R i

  copy_kept : (O T : Mode S P) (F R : Frame P B → Type 0) → Modes O T F R
      → Kept m T F R (copy m v O)
  copy_kept (Copying n r) T F R i =
      either (Kept m T F R) r.stop _ _
      (λ _. owner_to (Copying n r) (Stopped n _) T F R None i (copying_stops n T i.meet)
      (omega arith) (omega arith) (omega arith) (omega arith) (omega arith) tt)
      (λ _. copy_page_kept m n r _ T F R i)
  copy_kept (Stopped n l) T F R i = copy_last_kept n l (to_copy m l) T F R i
  copy_kept (Run n g) T F R i = i
  copy_kept (Offering n g p) T F R i = i
  copy_kept (Held n g) T F R i = i
  copy_kept (Empty n) T F R i = i
  copy_kept (Given n kept) T F R i = i
  copy_kept (Staging n s) T F R i = i

  resend_last_kept : (n : ℕ) (l : Last S) (q : Option ℕ) (T : Mode S P) (F R : Frame P B → Type 0)
      → Modes (Stopped n l) T F R → Kept m T F R (resend_last m v n l q)
  resend_last_kept n l (Some p) T F R i = i
  resend_last_kept n l None T F R i = sends_state_kept _ _ n l T F R i

  resend_kept : (O T : Mode S P) (F R : Frame P B → Type 0) → Modes O T F R
      → Kept m T F R (resend m v O)
  resend_kept (Offering n g p) T F R i =
      owner_to (Offering n g p) (Offering n g p) T F R (Some _) i i.meet (omega arith) (omega arith)
      (omega arith) (omega arith) (omega arith) (omega arith)
  resend_kept (Stopped n l) T F R i = resend_last_kept n l (to_copy m l) T F R i
  resend_kept (Held n g) T F R i =
      owner_to (Held n g) (Held n g) T F R (Some (Ready n)) i i.meet (omega arith) (omega arith)
      (omega arith) (omega arith) (omega arith) (omega arith)
  resend_kept (Run n g) T F R i = i
  resend_kept (Copying n r) T F R i = i
  resend_kept (Empty n) T F R i = i
  resend_kept (Given n kept) T F R i = absurd i.meet
  resend_kept (Staging n s) T F R i = i

  abort_kept : (O T : Mode S P) (F R : Frame P B → Type 0) → Modes O T F R
      → Kept m T F R (abort m O)
  abort_kept (Offering n g p) T F R i =
      owner_to (Offering n g p) (Run n g) T F R (Some (Abort n)) i (offering_runs n T i.meet)
      (omega arith) (omega arith) (omega arith) (omega arith) (omega arith) (omega arith)
  abort_kept (Copying n r) T F R i =
      owner_to (Copying n r) (Run n r.guest) T F R (Some (Abort n)) i
      (stopped_runs n T (copying_stops n T i.meet)) (omega arith) (omega arith) (omega arith)
      (omega arith) (omega arith) (omega arith)
  abort_kept (Stopped n l) T F R i =
      owner_to (Stopped n l) (Run n l.guest) T F R (Some (Abort n)) i (stopped_runs n T i.meet)
      (omega arith) (omega arith) (omega arith) (omega arith) (omega arith) (omega arith)
  abort_kept (Run n g) T F R i = i
  abort_kept (Held n g) T F R i = i
  abort_kept (Empty n) T F R i = i
  abort_kept (Given n kept) T F R i = i
  abort_kept (Staging n s) T F R i = i

  -- a command at the current host
  pub owner_obeys : (c : Command E) (O T : Mode S P) (F R : Frame P B → Type 0) → Modes O T F R
      → Kept m T F R (obey m v c O)
  owner_obeys (Board e) O T F R i = board_kept m e O T F R i
  owner_obeys (Begin to p) O T F R i = begin_kept m p O T F R i
  owner_obeys Copy O T F R i = copy_kept O T F R i
  owner_obeys Resend O T F R i = resend_kept O T F R i
  owner_obeys AbortMove O T F R i = abort_kept O T F R i

module _ {S P B : Type 0} where
  swap_own : (n n' : ℕ) (l : Last S) (g : S) → n' ≡ n → (f : Frame P B)
      → own_ok {S = S} (Stopped n l) (Held n' g) f → their_ok {S = S} (Held n' g) (Given n l.guest) f
  swap_own n n' l g e (Offer k x y) h = omega arith
  swap_own n n' l g e (Accept k) h = omega arith
  swap_own n n' l g e (Refuse k x) h = h
  swap_own n n' l g e (Page k p q y) h = omega arith
  swap_own n n' l g e (RoundEnd k x y z w) h = h
  swap_own n n' l g e (Lost k ps) h = h
  swap_own n n' l g e (State k ns y) h = omega arith
  swap_own n n' l g e (Part k st i u x) h = omega arith
  swap_own n n' l g e (Zero k i u) h = h
  swap_own n n' l g e (Ready k) h = omega arith
  swap_own n n' l g e (Go k) h = omega arith
  swap_own n n' l g e (Started k) h = omega arith
  swap_own n n' l g e (Abort k) h = omega arith

  swap_their : (n n' : ℕ) (l : Last S) (g : S) → n' ≡ n → (f : Frame P B)
      → their_ok {S = S} (Stopped n l) (Held n' g) f → own_ok {S = S} (Held n' g) (Given n l.guest) f
  swap_their n n' l g e (Offer k x y) h = omega arith
  swap_their n n' l g e (Accept k) h = omega arith
  swap_their n n' l g e (Refuse k x) h = h
  swap_their n n' l g e (Page k p q y) h = omega arith
  swap_their n n' l g e (RoundEnd k x y z w) h = h
  swap_their n n' l g e (Lost k ps) h = h
  swap_their n n' l g e (State k ns y) h = omega arith
  swap_their n n' l g e (Part k st i u x) h = omega arith
  swap_their n n' l g e (Zero k i u) h = h
  swap_their n n' l g e (Ready k) h = omega arith
  swap_their n n' l g e (Go k) h = omega arith
  swap_their n n' l g e (Started k) h = omega arith
  swap_their n n' l g e (Abort k) h = omega arith

  -- the source commits: the other host is the current one from now on
  commits : (n : ℕ) (l : Last S) (T : Mode S P) (F R : Frame P B → Type 0)
      → Modes (Stopped n l) T F R → R (Ready n) → Modes T (Given n l.guest) R (More F (Some (Go n)))
  commits n l (Held n' g) F R i came =
      let e : n' ≡ n = i.meet in
      record {
        meet = sym e;
        own = λ f h. swap_their n n' l g e f (i.their f h);
        their = more (own_ok (Stopped n l) (Held n' g)) (their_ok (Held n' g) (Given n l.guest)) F
            (Some (Go n)) (swap_own n n' l g e) (omega arith) i.own;
      }
  commits n l (Staging n' s) F R i came =
      let e : n' ≡ n = i.meet in let h : n < n' = i.their (Ready n) came in absurd (omega arith)
  commits n l (Empty k) F R i came = absurd i.meet
  commits n l (Run k g) F R i came = absurd i.meet
  commits n l (Offering k g p) F R i came = absurd i.meet
  commits n l (Copying k r) F R i came = absurd i.meet
  commits n l (Stopped k q) F R i came = absurd i.meet
  commits n l (Given k kept) F R i came = absurd i.meet

module _ {S P : Type 0} where
  pub held_num : (e : ℕ) (T : Mode S P) → held_beside e T → move_of T ≡ e
  held_num e (Given n kept) h = h
  held_num e (Empty n) h = absurd h
  held_num e (Run n g) h = absurd h
  held_num e (Offering n g p) h = absurd h
  held_num e (Copying n r) h = absurd h
  held_num e (Stopped n l) h = absurd h
  held_num e (Staging n s) h = absurd h
  held_num e (Held n g) h = absurd h

  held_runs : (e : ℕ) (T : Mode S P) → held_beside e T → run_beside e T
  held_runs e (Given n kept) h = omega arith
  held_runs e (Empty n) h = absurd h
  held_runs e (Run n g) h = h
  held_runs e (Offering n g p) h = h
  held_runs e (Copying n r) h = h
  held_runs e (Stopped n l) h = h
  held_runs e (Staging n s) h = absurd h
  held_runs e (Held n g) h = absurd h

module _ {S P E A B : Type 0} (m : Guest S P E A B) where
  -- after a frame came to the current host: at Committed the other one is current
  abbrev pub turned : Mode S P → (Frame P B → Type 0) → (Frame P B → Type 0) → Reply A → Mode S P
      → Option (Frame P B) → Type 0
  turned T F R (Committed n) O x = Modes T O R (More F x)
  turned T F R r O x = Modes O T (More F x) R

  abbrev pub After : Mode S P → (Frame P B → Type 0) → (Frame P B → Type 0) → Outcome S P A B
      → Type 0
  After T F R o = turned T F R o.reply o.next o.made

  -- a frame that has to have this host's move number
  equal_after : (n k : ℕ) (o : Outcome S P A B) (O T : Mode S P) (F R : Frame P B → Type 0)
      → Modes O T F R → (n ≡ k → After T F R o) → After T F R (of_this_move m n k o O)
  equal_after n k o O T F R i f =
      either (After T F R) (n == k) o (ignores O) (λ e. f (eqb-true n k e)) (λ _. i)

  -- a frame that comes to the current host
  pub owner_receives : (limit : ℕ) (f : Frame P B) (O T : Mode S P) (F R : Frame P B → Type 0) → R f
      → Modes O T F R → After T F R (came m limit f O)
  owner_receives limit (Offer k a b) (Held n g) T F R h i =
      either (After T F R) (nat_lt n k) (offered m limit k a b (Held n g)) (ignores (Held n g))
      (λ e. let lt : n < k = ltb-true n k e in let le : k < suc (move_of T) = i.their
      (Offer k a b) h in let same : move_of T ≡ n = held_num n T i.meet in absurd (omega arith))
      (λ _. i)
  owner_receives limit (Offer k a b) (Empty n) T F R h i = absurd i.meet
  owner_receives limit (Offer k a b) (Given n kept) T F R h i = absurd i.meet
  owner_receives limit (Offer k a b) (Staging n s) T F R h i = absurd i.meet
  owner_receives limit (Accept k) (Offering n g p) T F R h i =
      equal_after n k _ (Offering n g p) T F R i λ e.
      owner_to (Offering n g p) (Copying n (opened m g p)) T F R None i
      (accepted_meets n k T e i.meet (i.their (Accept k) h)) (omega arith) (omega arith)
      (omega arith) (omega arith) (omega arith) tt
  owner_receives limit (Refuse k a) (Offering n g p) T F R h i =
      equal_after n k _ (Offering n g p) T F R i λ e.
      owner_to (Offering n g p) (Run n g) T F R None i (offering_runs n T i.meet) (omega arith)
      (omega arith) (omega arith) (omega arith) (omega arith) tt
  owner_receives limit (Lost k ps) (Stopped n l) T F R h i =
      equal_after n k _ (Stopped n l) T F R i λ e. stopped_kept m n l _ T F R None i tt
  owner_receives limit (Ready k) (Stopped n l) T F R h i =
      equal_after n k _ (Stopped n l) T F R i λ e. commits n l T F R i
      (subst (λ z. R (Ready z)) (sym e) h)
  owner_receives limit (Go k) (Run n g) T F R h i =
      equal_after n k _ (Run n g) T F R i λ e.
      owner_to (Run n g) (Run n g) T F R (Some (Started n)) i i.meet (omega arith) (omega arith)
      (omega arith) (omega arith) (omega arith) (omega arith)
  owner_receives limit (Go k) (Held n g) T F R h i =
      equal_after n k _ (Held n g) T F R i λ e.
      owner_to (Held n g) (Run n g) T F R (Some (Started n)) i (held_runs n T i.meet) (omega arith)
      (omega arith) (omega arith) (omega arith) (omega arith) (omega arith)
  owner_receives limit (State k ns b) (Held n g) T F R h i =
      equal_after n k _ (Held n g) T F R i λ e.
      owner_to (Held n g) (Held n g) T F R (Some (Ready n)) i i.meet (omega arith) (omega arith)
      (omega arith) (omega arith) (omega arith) (omega arith)
  owner_receives limit (Part k st j u x) (Held n g) T F R h i =
      equal_after n k _ (Held n g) T F R i λ e.
      owner_to (Held n g) (Held n g) T F R (Some (Ready n)) i i.meet (omega arith) (omega arith)
      (omega arith) (omega arith) (omega arith) (omega arith)
  owner_receives limit (Part k st j u x) (Staging n s) T F R h i = absurd i.meet
  owner_receives limit (Abort k) (Held n g) T F R h i =
      equal_after n k _ (Held n g) T F R i λ e.
      let lt : k < move_of T = i.their (Abort k) h in let same : move_of T ≡ n =
      held_num n T i.meet in absurd (omega arith)
  owner_receives limit (Page k p q b) (Staging n s) T F R h i = absurd i.meet
  owner_receives limit (RoundEnd k a b c d) (Staging n s) T F R h i = absurd i.meet
  owner_receives limit (State k ns b) (Staging n s) T F R h i = absurd i.meet
  owner_receives limit (Started k) (Given n kept) T F R h i = absurd i.meet
  owner_receives limit (Abort k) (Staging n s) T F R h i = absurd i.meet
  owner_receives limit f O T F R h i = i
