-- In whole runs, frames follow their causes.
use Rattle.std.proofs.Common.{◌≡◌, ◌⊎◌, inl, inr, ⊎_elim, ℕ, ◌<◌, ◌≤◌, ◌==◌, ◌^◌, ◌-◌, nat_lt, nat_le, not, ◌&&◌, Bool, true, false, List, [], ◌∷◌, ◌++◌, length, Option, Some, None, refl, sym, ap, ◌∙◌, subst, arith}
use Rattle.std.proofs.lemmas.Bool.{eqb-true}
use Rattle.rvm_protocol.specs.Commands.{Command, Board, Begin, Copy, Resend, AbortMove, HostEvent, Do, Came, is_allowed}
use Rattle.rvm_protocol.specs.FrameCauses.{Somewhere, says_ready, says_committed, says_started, WasReady, WasCommitted, WasStarted, IsCaused, FramesFollowTheirCauses}
use Rattle.rvm_protocol.specs.Frames.{Frame, Offer, Accept, Refuse, Page, RoundEnd, Lost, State, Ready, Go, Started, Abort, Addressed, posted, Part, is_compact, plain, read, Zero}
use Rattle.rvm_protocol.specs.Guest.{Guest, IsGuest}
use Rattle.rvm_protocol.specs.Host.{Host, obey_at, is_there, is_heard, outcome, partner_then, addressee}
use Rattle.rvm_protocol.specs.Modes.{Mode, Empty, Run, Offering, Copying, Stopped, Given, Staging, Held, Outcome, move_of, ignores, says, sends, refuses}
use Rattle.rvm_protocol.specs.Obeying.{obey, begin, begin_allowed, begun, copy_page, sends_page, copy_last, sends_last, resend_last}
use Rattle.rvm_protocol.specs.Pages.{least}
use Rattle.rvm_protocol.specs.Receiving.{came, of_this_move, offered, offer_above}
use Rattle.rvm_protocol.specs.Replies.{Reply, Accepted, Declined, Committed, BadSize, BadHost, EpochsSpent, SeqSpent, Stopping}
use Rattle.rvm_protocol.specs.Rounds.{Rounds, Last, is_skipped, to_copy, stopped}
use Rattle.rvm_protocol.specs.Told.{Told, told, told_reply, at_start, reply_current, reply_paused}
use Rattle.rvm_protocol.specs.World.{World, Event, Entry, mode_at, happened, entry_of, meaning, run, history, result_at, world_at, and_sent, new_world, Has}
use Rattle.rvm_protocol.proofs.PairInvariant.{New, lim, go_lim, Meet, HoldsNone}
use Rattle.rvm_protocol.proofs.CurrentModes.{either}
use Rattle.rvm_protocol.proofs.Basics.{some_is, same_or, is_either, both_false}
use Rattle.rvm_protocol.proofs.Tellings.{is_stopped, commanded}
use Rattle.rvm_protocol.proofs.Behind.{lim_num, meet_num}
use Rattle.rvm_protocol.proofs.WorldInvariant.{reach, reach_here, reach_there, put_all, has_either, has_old, has_new}
use Rattle.rvm_protocol.proofs.Runs.{SoundAt, Allowed, step_sound, happened_sound, event_allowed, told_more, new_sound, sent_after}
use Rattle.rvm_protocol.proofs.OtherHosts.{NoCommit, none_at}
use Rattle.rvm_protocol.proofs.ReadFrames.{has_read}
use Rattle.rvm_protocol.proofs.Causes.{Backed, RunOk, Now, follow_step}
use Rattle.rvm_protocol.proofs.StateCases.{state_cases, part_cases}
use Rattle.rvm_protocol.specs.Shown.{is_paused}

module _ {S P : Type 0} where
  -- the current host in Run: either no move was committed since it began its own, or that one was
  -- started
  abbrev pub Fresh : (C T : ℕ → Type 0) → Mode S P → Type 0
  Fresh C T (Run n g) = ((k : ℕ) → C k → k < n) ⊎ T n
  Fresh C T mode = Unit {0}

  fresh_ok : (C T : ℕ → Type 0) (X : Mode S P) → Fresh C T X → RunOk C T X
  fresh_ok C T (Run n g) (inl h) = λ c. let z : n < n = h n c in absurd (omega arith)
  fresh_ok C T (Run n g) (inr t) = λ c. t
  fresh_ok C T (Empty n) h = tt
  fresh_ok C T (Offering n g p) h = tt
  fresh_ok C T (Copying n r) h = tt
  fresh_ok C T (Stopped n l) h = tt
  fresh_ok C T (Given n kept) h = tt
  fresh_ok C T (Staging n s) h = tt
  fresh_ok C T (Held n g) h = tt

  none_ok : (C T : ℕ → Type 0) (X : Mode S P) → HoldsNone X → RunOk C T X
  none_ok C T (Run n g) h = absurd h
  none_ok C T (Empty n) h = tt
  none_ok C T (Offering n g p) h = tt
  none_ok C T (Copying n r) h = tt
  none_ok C T (Stopped n l) h = tt
  none_ok C T (Given n kept) h = tt
  none_ok C T (Staging n s) h = tt
  none_ok C T (Held n g) h = tt

  fresh_more : (C C' T T' : ℕ → Type 0) (X : Mode S P) → ((k : ℕ) → C' k → C k)
      → ((k : ℕ) → T k → T' k) → Fresh C T X → Fresh C' T' X
  fresh_more C C' T T' (Run n g) c t (inl h) = inl (λ k a. h k (c k a))
  fresh_more C C' T T' (Run n g) c t (inr h) = inr (t n h)
  fresh_more C C' T T' (Empty n) c t h = tt
  fresh_more C C' T T' (Offering n g p) c t h = tt
  fresh_more C C' T T' (Copying n r) c t h = tt
  fresh_more C C' T T' (Stopped n l) c t h = tt
  fresh_more C C' T T' (Given n kept) c t h = tt
  fresh_more C C' T T' (Staging n s) c t h = tt
  fresh_more C C' T T' (Held n g) c t h = tt

  backed_more : (R R' C C' : ℕ → Type 0) (X : Mode S P) → ((k : ℕ) → R k → R' k)
      → ((k : ℕ) → C k → C' k) → Backed R C X → Backed R' C' X
  backed_more R R' C C' (Held n g) r c h = r n h
  backed_more R R' C C' (Given n kept) r c h = c n h
  backed_more R R' C C' (Run n g) r c h = tt
  backed_more R R' C C' (Empty n) r c h = tt
  backed_more R R' C C' (Offering n g p) r c h = tt
  backed_more R R' C C' (Copying n q) r c h = tt
  backed_more R R' C C' (Stopped n l) r c h = tt
  backed_more R R' C C' (Staging n s) r c h = tt

justified_more : {P B : Type 0} (R R' C C' T T' : ℕ → Type 0) (f : Frame P B)
    → ((k : ℕ) → R k → R' k) → ((k : ℕ) → C k → C' k) → ((k : ℕ) → T k → T' k) → IsCaused R C T f
    → IsCaused R' C' T' f
justified_more R R' C C' T T' (Ready n) r c t h = r n h
justified_more R R' C C' T T' (Go n) r c t h = c n h
justified_more R R' C C' T T' (Started n) r c t h = t n h
justified_more R R' C C' T T' f r c t h = tt

some_old : {X : Type 0} (Q : X → Type 0) (xs : List X) (y : X) → Somewhere Q xs
    → Somewhere Q (xs ++ y ∷ [])
unfolding Somewhere
some_old Q [] y h = absurd h
some_old Q (x ∷ xs) y (inl h) = inl h
some_old Q (x ∷ xs) y (inr h) = inr (some_old Q xs y h)

some_new : {X : Type 0} (Q : X → Type 0) (xs : List X) (y : X) → Q y → Somewhere Q (xs ++ y ∷ [])
unfolding Somewhere
some_new Q [] y h = inl h
some_new Q (x ∷ xs) y h = inr (some_new Q xs y h)

some_either : {X : Type 0} (Q : X → Type 0) (xs : List X) (y : X) → Somewhere Q (xs ++ y ∷ [])
    → Somewhere Q xs ⊎ Q y
unfolding Somewhere
some_either Q [] y (inl h) = inr h
some_either Q [] y (inr h) = absurd h
some_either Q (x ∷ xs) y (inl h) = inl (inl h)
some_either Q (x ∷ xs) y (inr h) = ⊎_elim (λ a. inl (inr a)) (λ b. inr b) (some_either Q xs y h)

module _ {S P E A B : Type 0} (m : Guest S P E A B) (C T : ℕ → Type 0) where
  -- how the current host gets into Run
  abbrev pub FreshTo : HostEvent P E B → Outcome S P A B → Type 0
  FreshTo e o = ((n : ℕ) → says_started n e o.reply → T n) → Fresh C T o.next

  fresh_equal : (e : HostEvent P E B) (n k : ℕ) (o : Outcome S P A B) (X : Mode S P) → Fresh C T X
      → (n ≡ k → FreshTo e o) → FreshTo e (of_this_move m n k o X)
  fresh_equal e n k o X b h =
      either (FreshTo e) (n == k) o (ignores X) (λ q. h (eqb-true n k q)) (λ _ _. b)

  pub fresh_came : (limit y : ℕ) (f : Frame P B) (O Q : Mode S P) → Meet O Q
      → ((k : ℕ) → C k → k < go_lim O) → Fresh C T O → FreshTo (Came y f) (came m limit f O)
  fresh_came limit y (Offer k a b) (Held n g) Q i c h =
      either (FreshTo (Came y (Offer k a b))) (nat_lt n k) (offered m limit k a b (Held n g))
      (ignores (Held n g))
      (λ _. either (FreshTo (Came y (Offer k a b))) (nat_lt limit a)
      (sends (Declined limit) (Refuse k limit) (Held n g))
      (sends Accepted (Accept k) (Staging k _)) (λ _ _. tt) (λ _ _. tt))
      (λ _ _. tt)
  fresh_came limit y (Offer k a b) (Empty n) Q i c h = absurd i
  fresh_came limit y (Offer k a b) (Given n kept) Q i c h = absurd i
  fresh_came limit y (Offer k a b) (Staging n s) Q i c h = absurd i
  fresh_came limit y (Accept k) (Offering n g p) Q i c h =
      fresh_equal (Came y (Accept k)) n k _ (Offering n g p) tt (λ e now. tt)
  fresh_came limit y (Refuse k a) (Offering n g p) Q i c h =
      fresh_equal (Came y (Refuse k a)) n k _ (Offering n g p) tt (λ e now. inl c)
  fresh_came limit y (Lost k ps) (Stopped n l) Q i c h =
      fresh_equal (Came y (Lost k ps)) n k _ (Stopped n l) tt (λ e now. tt)
  fresh_came limit y (Ready k) (Stopped n l) Q i c h =
      fresh_equal (Came y (Ready k)) n k _ (Stopped n l) tt (λ e now. tt)
  fresh_came limit y (Go k) (Held n g) Q i c h =
      fresh_equal (Came y (Go k)) n k _ (Held n g) tt (λ e now. inr (now n (sym e)))
  fresh_came limit y (Go k) (Run n g) Q i c h =
      fresh_equal (Came y (Go k)) n k _ (Run n g) h (λ e now. h)
  fresh_came limit y (State k ns b) (Held n g) Q i c h =
      fresh_equal (Came y (State k ns b)) n k _ (Held n g) tt (λ e now. tt)
  fresh_came limit y (Part k st a u x) (Held n g) Q i c h =
      fresh_equal (Came y (Part k st a u x)) n k _ (Held n g) tt (λ e now. tt)
  fresh_came limit y (Part k st a u x) (Staging n s) Q i c h = absurd i
  fresh_came limit y (Abort k) (Held n g) Q i c h =
      fresh_equal (Came y (Abort k)) n k _ (Held n g) tt (λ e now. tt)
  fresh_came limit y (Started k) (Given n kept) Q i c h = absurd i
  fresh_came limit y (Page k a b d) (Staging n s) Q i c h = absurd i
  fresh_came limit y (RoundEnd k a b d e) (Staging n s) Q i c h = absurd i
  fresh_came limit y (State k ns b) (Staging n s) Q i c h = absurd i
  fresh_came limit y (Abort k) (Staging n s) Q i c h = absurd i
  fresh_came limit y f O Q i c h = λ now. h

  fresh_copy : (n : ℕ) (r : Rounds S) (q : Option ℕ) → FreshTo (Do Copy) (copy_page m n r q)
  fresh_copy n r (Some p) =
      either (FreshTo (Do Copy)) (nat_le (2 ^ 32 - 1) r.copies) (refuses SeqSpent (Copying n r))
      (sends_page m n r p) (λ _ _. tt) (λ _ _. tt)
  fresh_copy n r None = λ now. tt

  fresh_last : (v : ℕ) → (n : ℕ) (l : Last S) (q : Option ℕ)
      → FreshTo (Do Copy) (copy_last m v n l q)
  fresh_last v n l (Some p) =
      either (FreshTo (Do Copy)) (nat_le (2 ^ 32 - 1) l.copies) (refuses SeqSpent (Stopped n l))
      (sends_last m n l p) (λ _ _. tt) (λ _ _. tt)
  fresh_last v n l None = either (FreshTo (Do Copy)) (is_compact v) _ _ (λ _ now. tt) (λ _ now. tt)

  fresh_resend : (v : ℕ) → (n : ℕ) (l : Last S) (q : Option ℕ)
      → FreshTo (Do Resend) (resend_last m v n l q)
  fresh_resend v n l (Some p) = λ now. tt
  fresh_resend v n l None =
      either (FreshTo (Do Resend)) (is_compact v) _ _ (λ _ now. tt) (λ _ now. tt)

  pub fresh_obey : (v : ℕ) → (k : Command E) (O Q : Mode S P) → Meet O Q
      → ((k : ℕ) → C k → k < go_lim O) → Fresh C T O → FreshTo (Do k) (obey m v k O)
  fresh_obey v (Board e) (Run n g) Q i c h = λ now. h
  fresh_obey v (Board e) (Offering n g p) Q i c h = λ now. tt
  fresh_obey v (Board e) (Copying n r) Q i c h = λ now. tt
  fresh_obey v (Board e) (Stopped n l) Q i c h = λ now. tt
  fresh_obey v (Board e) (Held n g) Q i c h = λ now. tt
  fresh_obey v (Begin to p) (Run n g) Q i c h =
      either (FreshTo (Do (Begin to p))) (is_allowed p) (begin_allowed m p n g)
      (refuses BadSize (Run n g))
      (λ _. either (FreshTo (Do (Begin to p))) (n == 2 ^ 64 - 1) (refuses EpochsSpent (Run n g))
      (begun m p n g) (λ _ _. h) (λ _ _. tt))
      (λ _ _. h)
  fresh_obey v (Begin to p) (Offering n g r) Q i c h = λ now. tt
  fresh_obey v (Begin to p) (Copying n r) Q i c h = λ now. tt
  fresh_obey v (Begin to p) (Stopped n l) Q i c h = λ now. tt
  fresh_obey v (Begin to p) (Held n g) Q i c h = λ now. tt
  fresh_obey v Copy (Run n g) Q i c h = λ now. h
  fresh_obey v Copy (Offering n g p) Q i c h = λ now. tt
  fresh_obey v Copy (Copying n r) Q i c h =
      either (FreshTo (Do Copy)) r.stop (says Stopping (Stopped n (stopped m r)))
      (copy_page m n r
      (least (λ x. r.to_send x && not (is_skipped r x)) r.scan
      (length (m.pages r.guest) - r.scan))) (λ _ _. tt) (λ _. fresh_copy n r _)
  fresh_obey v Copy (Stopped n l) Q i c h = fresh_last v n l (to_copy m l)
  fresh_obey v Copy (Held n g) Q i c h = λ now. tt
  fresh_obey v Resend (Run n g) Q i c h = λ now. h
  fresh_obey v Resend (Offering n g p) Q i c h = λ now. tt
  fresh_obey v Resend (Copying n r) Q i c h = λ now. tt
  fresh_obey v Resend (Stopped n l) Q i c h = fresh_resend v n l (to_copy m l)
  fresh_obey v Resend (Held n g) Q i c h = λ now. tt
  fresh_obey v AbortMove (Run n g) Q i c h = λ now. h
  fresh_obey v AbortMove (Offering n g p) Q i c h = λ now. inl c
  fresh_obey v AbortMove (Copying n r) Q i c h = λ now. inl c
  fresh_obey v AbortMove (Stopped n l) Q i c h = λ now. inl c
  fresh_obey v AbortMove (Held n g) Q i c h = λ now. tt
  fresh_obey v k (Empty n) Q i c h = absurd i
  fresh_obey v k (Given n kept) Q i c h = absurd i
  fresh_obey v k (Staging n s) Q i c h = absurd i

abbrev is_commit : {A : Type 0} → Reply A → Bool
is_commit (Committed n) = true
is_commit r = false

record CommitOf {A : Type 0} (r : Reply A) : Type 0 where
  pub move : ℕ
  pub is : r ≡ Committed move

append_nil : {X : Type 0} (xs : List X) → xs ++ [] ≡ xs
append_nil [] = refl
append_nil (x ∷ xs) = ap (λ z. x ∷ z) (append_nil xs)

append_assoc : {X : Type 0} (xs ys zs : List X) → (xs ++ ys) ++ zs ≡ xs ++ (ys ++ zs)
append_assoc [] ys zs = refl
append_assoc (x ∷ xs) ys zs = ap (λ z. x ∷ z) (append_assoc xs ys zs)

module _ {P B : Type 0} where
  sent_old : (sent : List (Addressed P B)) (x z : ℕ) (made : Option (Frame P B)) (a : Addressed P B)
      → Has sent a → Has (and_sent sent (posted x z made)) a
  sent_old sent x z None a h = h
  sent_old sent x z (Some f) a h = has_old sent _ _ h

  sent_new : (sent : List (Addressed P B)) (x z : ℕ) (made : Option (Frame P B)) (f : Frame P B)
      → made ≡ Some f
      → Has (and_sent sent (posted x z made)) (record { from = x; to = z; frame = f })
  sent_new sent x z None f h = cc
  sent_new sent x z (Some g) f h =
      has_new sent _ _
      (ap (λ (v : Frame P B). record { from = x; to = z; frame = v }) (some_is g f h))

  sent_either : (sent : List (Addressed P B)) (x z : ℕ) (made : Option (Frame P B))
      (a : Addressed P B) → Has (and_sent sent (posted x z made)) a → (Q : Frame P B → Type 0)
      → (Has sent a → Q a.frame) → New Q made → Q a.frame
  sent_either sent x z None a h Q old new = old h
  sent_either sent x z (Some f) a h Q old new =
      elim (has_either sent (record { from = x; to = z; frame = f }) a h) [
        | inl b ↦ old b
        | inr e ↦
            subst Q (ap (λ (v : Addressed P B). v.frame) e) new
      ]

module _ {S P E A B : Type 0} (m : Guest S P E A B) (laws : IsGuest m) where
  -- a commit is at a Stopped host and sends Go
  abbrev Commits : Mode S P → Outcome S P A B → Type 0
  Commits X o = (n : ℕ) → o.reply ≡ Committed n → (o.made ≡ Some (Go n)) × (is_stopped X ≡ true)

  refused_commits : (X : Mode S P) (o : Outcome S P A B) → NoCommit m laws o.reply → Commits X o
  refused_commits X o h = λ n e. absurd (subst (λ r. NoCommit m laws r) e h)

  commit_equal : (n k : ℕ) (o : Outcome S P A B) (X : Mode S P) → Commits X o
      → Commits X (of_this_move m n k o X)
  commit_equal n k o X h =
      either (Commits X) (n == k) o (ignores X) (λ _. h) (λ _. refused_commits X (ignores X) tt)

  commit_above : (limit s k a b : ℕ) (X : Mode S P) → Commits X (offer_above m s limit k a b X)
  commit_above limit s k a b X =
      either (Commits X) (nat_lt s k) (offered m limit k a b X) (ignores X)
      (λ _. either (Commits X) (nat_lt limit a) (sends (Declined limit) (Refuse k limit) X)
      (sends Accepted (Accept k) (Staging k _)) (λ _ n e. cc) (λ _ n e. cc))
      (λ _ n e. cc)

  same_move : (n k : ℕ) → ◌≡◌ {A = Reply A} (Committed n) (Committed k) → n ≡ k
  same_move n k e = cc

  commit_came : (limit : ℕ) (f : Frame P B) (X : Mode S P) → Commits X (came m limit f X)
  commit_came limit (Offer k a b) (Empty n) = commit_above limit n k a b (Empty n)
  commit_came limit (Offer k a b) (Given n kept) = commit_above limit n k a b (Given n kept)
  commit_came limit (Offer k a b) (Held n g) = commit_above limit n k a b (Held n g)
  commit_came limit (Offer k a b) (Staging n s) =
      either (Commits (Staging n s)) (n == k) (sends Accepted (Accept n) (Staging n s))
      (offer_above m n limit k a b (Staging n s)) (λ _ j e. cc)
      (λ _. commit_above limit n k a b (Staging n s))
  commit_came limit (Accept k) (Offering n g p) = commit_equal n k _ (Offering n g p) (λ j e. cc)
  commit_came limit (Refuse k a) (Offering n g p) = commit_equal n k _ (Offering n g p) (λ j e. cc)
  commit_came limit (Page k i c b) (Staging n s) =
      commit_equal n k _ (Staging n s)
      (either (Commits (Staging n s)) (nat_lt i (length s.pages) && nat_lt (s.have i) c) _
      (ignores (Staging n s)) (λ _ j e. cc) (λ _ j e. cc))
  commit_came limit (RoundEnd k a b c d) (Staging n s) =
      commit_equal n k _ (Staging n s) (λ j e. cc)
  commit_came limit (State k ns b) (Staging n s) =
      commit_equal n k _ (Staging n s)
      (state_cases m (Commits (Staging n s)) n s s ns b (λ j e. cc) (λ j e. cc) (λ g _ _ j e. cc))
  commit_came limit (Part k st i u x) (Staging n s) =
      commit_equal n k _ (Staging n s)
      (part_cases m (Commits (Staging n s)) n s st i u x (λ j e. cc) (λ j e. cc) (λ _ j e. cc)
      (λ _ ns j e. cc) (λ _ xs ns b g _ _ _ _ j e. cc))
  commit_came limit (Part k st i u x) (Held n g) = commit_equal n k _ (Held n g) (λ j e. cc)
  commit_came limit (State k ns b) (Held n g) = commit_equal n k _ (Held n g) (λ j e. cc)
  commit_came limit (Lost k ps) (Stopped n l) = commit_equal n k _ (Stopped n l) (λ j e. cc)
  commit_came limit (Ready k) (Stopped n l) =
      commit_equal n k _ (Stopped n l) (λ j e. (ap (λ z. Some (Go z)) (same_move n j e), refl))
  commit_came limit (Go k) (Held n g) = commit_equal n k _ (Held n g) (λ j e. cc)
  commit_came limit (Go k) (Run n g) = commit_equal n k _ (Run n g) (λ j e. cc)
  commit_came limit (Started k) (Given n kept) = commit_equal n k _ (Given n kept) (λ j e. cc)
  commit_came limit (Abort k) (Staging n s) = commit_equal n k _ (Staging n s) (λ j e. cc)
  commit_came limit (Abort k) (Held n g) = commit_equal n k _ (Held n g) (λ j e. cc)
  commit_came limit f X = λ j e. cc

  one_zero : ◌≡◌ {A = ℕ} 1 0 → ⊥
  one_zero h = cc

  -- a reply that tells the current host stays is no commit
  stays_commits : (r : Reply A) → ((ts : ℕ → ℕ) (x : ℕ) → reply_current r ts x ≡ x) → (n : ℕ)
      → r ≡ Committed n → ⊥
  stays_commits r h n e =
      one_zero (subst (λ (r : Reply A). reply_current r (λ _. 1) 0 ≡ 0) e (h (λ _. 1) 0))

  obey_no_commit : (v : ℕ) → (k : Command E) (X : Mode S P) (n : ℕ)
      → (obey m v k X).reply ≡ Committed n → ⊥
  obey_no_commit v k X n e = stays_commits (obey m v k X).reply (commanded m v k X).current n e

  commit_step : (v : ℕ) → (x count limit : ℕ) (e : HostEvent P E B) (h : Host S P)
      → Commits h.mode (outcome m v x count limit e h)
  commit_step v x count limit (Do (Begin to p)) h = begins h.mode
    where
      begins : (X : Mode S P) → Commits X (obey_at m v x count (Begin to p) X)
      begins (Run n g) =
          either (Commits (Run n g)) (is_there x count to) (begin m p (Run n g))
          (refuses BadHost (Run n g))
          (λ _ j e. absurd (obey_no_commit v (Begin to p) (Run n g) j e)) (λ _ j e. cc)
      begins (Empty n) = λ j e. cc
      begins (Offering n g r) = λ j e. cc
      begins (Copying n r) = λ j e. cc
      begins (Stopped n l) = λ j e. cc
      begins (Given n kept) = λ j e. cc
      begins (Staging n s) = λ j e. cc
      begins (Held n g) = λ j e. cc
  commit_step v x count limit (Do (Board b)) h =
      λ j e. absurd (obey_no_commit v (Board b) h.mode j e)
  commit_step v x count limit (Do Copy) h = λ j e. absurd (obey_no_commit v Copy h.mode j e)
  commit_step v x count limit (Do Resend) h = λ j e. absurd (obey_no_commit v Resend h.mode j e)
  commit_step v x count limit (Do AbortMove) h =
      λ j e. absurd (obey_no_commit v AbortMove h.mode j e)
  commit_step v x count limit (Came y f) h =
      either (Commits h.mode) (is_heard x count y (plain m f) h) (came m limit (plain m f) h.mode)
      (ignores h.mode) (λ _. commit_came limit (plain m f) h.mode) (λ _ j e. cc)

  fresh_plain : (C T : ℕ → Type 0) (limit y : ℕ) (f : Frame P B) (X : Mode S P)
      → FreshTo m C T (Came y (plain m f)) (came m limit (plain m f) X)
      → FreshTo m C T (Came y f) (came m limit (plain m f) X)
  fresh_plain C T limit y (Zero k p n) X h = h
  fresh_plain C T limit y f X h = h

  fresh_step : (v : ℕ)
      → (C T : ℕ → Type 0) (x count limit : ℕ) (e : HostEvent P E B) (h : Host S P) (Q : Mode S P)
      → Meet h.mode Q → ((k : ℕ) → C k → k < go_lim h.mode) → Fresh C T h.mode
      → FreshTo m C T e (outcome m v x count limit e h)
  fresh_step v C T x count limit (Do (Begin to p)) h Q i c q = begins h.mode i c q
    where
      begins : (O : Mode S P) → Meet O Q → ((k : ℕ) → C k → k < go_lim O) → Fresh C T O
          → FreshTo m C T (Do (Begin to p)) (obey_at m v x count (Begin to p) O)
      begins (Run n g) i c q =
          either (FreshTo m C T (Do (Begin to p))) (is_there x count to) (begin m p (Run n g))
          (refuses BadHost (Run n g)) (λ _. fresh_obey m C T v (Begin to p) (Run n g) Q i c q)
          (λ _ _. q)
      begins (Empty n) i c q = λ now. tt
      begins (Offering n g r) i c q = λ now. tt
      begins (Copying n r) i c q = λ now. tt
      begins (Stopped n l) i c q = λ now. tt
      begins (Given n kept) i c q = λ now. tt
      begins (Staging n s) i c q = λ now. tt
      begins (Held n g) i c q = λ now. tt
  fresh_step v C T x count limit (Do (Board b)) h Q i c q =
      fresh_obey m C T v (Board b) h.mode Q i c q
  fresh_step v C T x count limit (Do Copy) h Q i c q = fresh_obey m C T v Copy h.mode Q i c q
  fresh_step v C T x count limit (Do Resend) h Q i c q = fresh_obey m C T v Resend h.mode Q i c q
  fresh_step v C T x count limit (Do AbortMove) h Q i c q =
      fresh_obey m C T v AbortMove h.mode Q i c q
  fresh_step v C T x count limit (Came y f) h Q i c q =
      either (FreshTo m C T (Came y f)) (is_heard x count y (plain m f) h)
      (came m limit (plain m f) h.mode) (ignores h.mode)
      (λ _. fresh_plain C T limit y f h.mode (fresh_came m C T limit y (plain m f) h.mode Q i c q))
      (λ _ _. q)

  fresh_paused : (C T : ℕ → Type 0) (X : Mode S P) → is_paused X ≡ true → Fresh C T X
  fresh_paused C T (Run n g) h = cc
  fresh_paused C T (Empty n) h = tt
  fresh_paused C T (Offering n g p) h = tt
  fresh_paused C T (Copying n r) h = tt
  fresh_paused C T (Stopped n l) h = tt
  fresh_paused C T (Given n kept) h = tt
  fresh_paused C T (Staging n s) h = tt
  fresh_paused C T (Held n g) h = tt

  stopped_paused : (X : Mode S P) → is_stopped X ≡ true → (is_paused X ≡ true) × (HoldsNone X → ⊥)
  stopped_paused (Stopped n l) h = (refl, λ z. z)
  stopped_paused (Run n g) h = cc
  stopped_paused (Empty n) h = cc
  stopped_paused (Offering n g p) h = cc
  stopped_paused (Copying n r) h = cc
  stopped_paused (Given n kept) h = cc
  stopped_paused (Staging n s) h = cc
  stopped_paused (Held n g) h = cc

  run_more : (C C' T T' : ℕ → Type 0) (X : Mode S P)
      → ((n : ℕ) → C' n → C n ⊎ (is_stopped X ≡ true)) → ((n : ℕ) → T n → T' n) → RunOk C T X
      → RunOk C' T' X
  run_more C C' T T' (Run n g) c t h = λ a. elim (c n a) [ inl b ↦ t n (h b) | inr b ↦ cc ]
  run_more C C' T T' (Empty n) c t h = tt
  run_more C C' T T' (Offering n g p) c t h = tt
  run_more C C' T T' (Copying n r) c t h = tt
  run_more C C' T T' (Stopped n l) c t h = tt
  run_more C C' T T' (Given n kept) c t h = tt
  run_more C C' T T' (Staging n s) c t h = tt
  run_more C C' T T' (Held n g) c t h = tt

  -- a Go of move k was sent
  pub record Gone (sent : List (Addressed P B)) (k : ℕ) : Type 0 where
    pub from : ℕ
    pub to : ℕ
    pub was : Has sent (record { from = from; to = to; frame = Go k })

  pub record Followed (w : World S P B) (t : Told S) (past : List (Entry P E A B)) : Type 0 where
    pub backed : (x : ℕ) → Backed (WasReady past) (WasCommitted past) (mode_at m w x)
    pub frames : (a : Addressed P B) → Has (read m w.sent) a
        → IsCaused (WasReady past) (WasCommitted past) (WasStarted past) a.frame
    pub gone : (k : ℕ) → WasCommitted past k → Gone (read m w.sent) k
    pub fresh : Fresh (WasCommitted past) (WasStarted past) (mode_at m w t.current)

  -- the move number is below what the current host's mode allows
  gone_below : (w : World S P B) (t : Told S) (s : SoundAt m laws w t) (k : ℕ) → Gone (read m w.sent) k
      → k < go_lim (mode_at m w s.c)
  gone_below w t s k g =
      let l = s.good in
      let O = mode_at m w s.c in
      let nums = lim_num O in
      elim (same_or g.to s.c) [
        | inl e ↦
            let z : k < reach w.hosts s.c O g.to = l.took g.from g.to (Go k) g.was in let r = ap
            (reach w.hosts s.c O) e ∙ reach_here w.hosts s.c O in omega (arith, z, r)
        | inr n ↦
            let z : k < reach w.hosts s.c O g.to = l.took g.from g.to (Go k) g.was in
            let r = reach_there w.hosts s.c O g.to n in
            elim (same_or g.to s.d) [
              | inl e ↦
                  let q = meet_num O (mode_at m w s.d) l.modes.meet in let v : move_of
                  (w.hosts g.to).mode ≡ move_of (w.hosts s.d).mode =
                  ap (λ y. move_of (w.hosts y).mode) e in let u = nums.2 in let u' = nums.0 in omega
                  (arith, z, r, q, v, num_go O)
              | inr nd ↦
                  let q = (l.others g.to n nd).1 in let u = lim_go O in omega (arith, z, r, q, u)
            ]
      ]
    where
      num_go : (X : Mode S P) → move_of X ≤ go_lim X
      num_go (Empty n) = omega arith
      num_go (Run n g) = omega arith
      num_go (Offering n g p) = omega arith
      num_go (Copying n r) = omega arith
      num_go (Stopped n l) = omega arith
      num_go (Given n kept) = omega arith
      num_go (Staging n s) = omega arith
      num_go (Held n g) = omega arith

      lim_go : (X : Mode S P) → lim X ≤ go_lim X
      lim_go (Empty n) = omega arith
      lim_go (Run n g) = omega arith
      lim_go (Offering n g p) = omega arith
      lim_go (Copying n r) = omega arith
      lim_go (Stopped n l) = omega arith
      lim_go (Given n kept) = omega arith
      lim_go (Staging n s) = omega arith
      lim_go (Held n g) = omega arith

  says_is : (k : ℕ) (r : Reply A) → says_committed k r → r ≡ Committed k
  says_is k (Committed n) h = ap Committed h
  says_is k r h = absurd h

  no_commit : (r : Reply A) (n : ℕ) → is_commit r ≡ false → r ≡ Committed n → ⊥
  no_commit r n h e = both_false (is_commit r) (ap is_commit e) h

  current_stays : (r : Reply A) (ts : ℕ → ℕ) (x : ℕ) → is_commit r ≡ false
      → reply_current r ts x ≡ x
  current_stays (Committed n) ts x h = cc
  current_stays r ts x h = refl

  commit_is : (r : Reply A) → is_commit r ≡ true → CommitOf r
  commit_is (Committed n) h = record { move = n; is = refl }
  commit_is r h = cc

  followed_step : (w : World S P B) (t : Told S) (past : List (Entry P E A B)) (x : ℕ)
      (e : HostEvent P E B) → Allowed m laws w x e → SoundAt m laws w t → Followed w t past
      → Followed (world_at m w x e) (told_reply m x e (result_at m w x e).reply t)
      (past ++ record { host = x; event = e; reply = (result_at m w x e).reply } ∷ [])
  followed_step w t past x e h s p =
      let o = outcome m w.version x w.count (w.limits x) e (w.hosts x) in
      let r = o.reply in
      let X = mode_at m w x in
      let entry : Entry P E A B = record { host = x; event = e; reply = r } in
      let past' = past ++ entry ∷ [] in
      let w' = world_at m w x e in
      let t' = told_reply m x e r t in
      let p' = partner_then e r (w.hosts x).partner in
      let h' : Host S P = record { mode = o.next; partner = p' } in
      let R = WasReady past in let C = WasCommitted past in let T = WasStarted past in
      let R' = WasReady past' in let C' = WasCommitted past' in let T' = WasStarted past' in
      let upR : (k : ℕ) → R k
      → R' k =
      λ k a. some_old (λ (z : Entry P E A B). says_ready k z.event z.reply) past entry a in
      let upC : (k : ℕ) → C k
      → C' k = λ k a. some_old (λ (z : Entry P E A B). says_committed k z.reply) past entry a in
      let upT : (k : ℕ) → T k
      → T' k =
      λ k a. some_old (λ (z : Entry P E A B). says_started k z.event z.reply) past entry a in
      let newC : (k : ℕ) → C' k
      → C k ⊎ (r ≡ Committed k) =
      λ k a. ⊎_elim (λ b. inl b) (λ b. inr (says_is k r b))
      (some_either (λ (z : Entry P E A B). says_committed k z.reply) past entry a) in
      let now : Now {S = S} {P = P} m R' C' T' e r = (
        λ n a. some_new
            (λ (z : Entry P E A B). says_ready n z.event z.reply) past entry a,
        λ n a. some_new
            (λ (z : Entry P E A B). says_committed n z.reply) past entry a,
        λ n a. some_new
            (λ (z : Entry P E A B). says_started n z.event z.reply) past entry a,
      ) in
      let commits = commit_step w.version x w.count (w.limits x) e (w.hosts x) in
      let c_is : t.current ≡ s.c = s.good.current in
      let run : RunOk C T X = elim (same_or x t.current) [
        | inl q ↦
            subst (λ z. RunOk C T (mode_at m w z)) (sym q)
            (fresh_ok C T (mode_at m w t.current) p.fresh)
        | inr n ↦
            none_ok C T X
            (none_at m laws (w.hosts s.c) (w.hosts s.d) w.hosts (read m w.sent) s.c s.d x t s.good
            (λ q. n (q ∙ sym c_is)))
      ] in
      let run' : RunOk C' T' X = run_more C C' T T' X
      (λ n a. ⊎_elim (λ b. inl b) (λ b. inr (commits n b).1) (newC n a)) upT run in
      let just : (y : ℕ) (f : Frame P B) → e ≡ Came y f
      → IsCaused R' C' T' (plain m f) =
      λ y f q. justified_more R R' C C' T T' (plain m f) upR upC upT
      (p.frames (record { from = y; to = x; frame = plain m f })
      (subst (λ z. Allowed m laws w x z) q h)) in
      let follows = follow_step m R' C' T' w.version x w.count (w.limits x) e (w.hosts x)
      (backed_more R R' C C' X upR upC (p.backed x)) run' just now in
      let s' = step_sound m laws w x e t h s in
      let after : read m w'.sent ≡ and_sent (read m w.sent) (posted x (addressee e p') o.made) =
      sent_after m laws w x e t h s in
      record {
        backed = λ y. put_all (λ z (v : Host S P). Backed R' C' v.mode) w.hosts x h' follows.1
            (λ z _. backed_more R R' C C' (w.hosts z).mode upR upC (p.backed z)) y;
        frames = λ a i. sent_either (read m w.sent) x (addressee e p') o.made a
            (subst (λ z. Has z a) after i) (IsCaused R' C' T')
            (λ b. justified_more R R' C C' T T' a.frame upR upC upT (p.frames a b)) follows.0;
        gone = λ k a. ⊎_elim
            (λ b. let g =
            p.gone k b in record {
              from = g.from;
              to = g.to;
              was = subst
                  (λ z. Has z (record { from = g.from; to = g.to; frame = Go k })) (sym after)
                  (sent_old (read m w.sent) x (addressee e p') o.made _ g.was);
            })
            (λ b. record {
              from = x;
              to = addressee e p';
              was = subst
                  (λ z. Has z (record { from = x; to = addressee e p'; frame = Go k })) (sym after)
                  (sent_new (read m w.sent) x (addressee e p') o.made (Go k) (commits k b).0);
            })
            (newC k a);
        fresh = elim (is_either (is_commit r)) [
          | inl sure ↦
              let n = commit_is r sure in
              let u = stopped_paused X (commits n.move n.is).1 in
              let xc : x ≡ t.current = elim
              (same_or x t.current) [
                | inl q ↦
                    q
                | inr v ↦
                    absurd (u.1 (none_at m laws (w.hosts s.c) (w.hosts s.d) w.hosts
                    (read m w.sent) s.c s.d x t s.good (λ q. v (q ∙ sym c_is))))
              ] in
              let was : t.paused ≡ true = s.good.paused
              ∙ ap (λ z. is_paused (mode_at m w z)) (sym c_is ∙ sym xc) ∙ u.0 in
              let is_now : t'.paused ≡ true = ap (λ (z : Reply A). reply_paused z t.paused) n.is
              ∙ was in
              fresh_paused C' T' (mode_at m w' t'.current)
              (ap (λ z. is_paused (mode_at m w' z)) s'.good.current ∙ sym s'.good.paused
              ∙ is_now)
          | inr quiet ↦
              let stays : t'.current ≡ t.current = current_stays r t.targets t.current quiet in
              let oldC : (k : ℕ) → C' k
              → C k = λ k a. ⊎_elim (λ b. b) (λ b. absurd (no_commit r k quiet b)) (newC k a) in
              subst (λ z. Fresh C' T' (mode_at m w' z)) (sym stays)
              (put_all (λ z (v : Host S P). z ≡ t.current → Fresh C' T' v.mode) w.hosts x h'
              (λ q. let xc : x ≡ s.c = q ∙ c_is in fresh_more C C' T' T' o.next oldC (λ k a. a)
              (fresh_step w.version C T' x w.count (w.limits x) e (w.hosts x) (mode_at m w s.d)
              (subst (λ z. Meet (mode_at m w z) (mode_at m w s.d)) (sym xc) s.good.modes.meet)
              (λ k a. subst (λ z. k < go_lim (mode_at m w z)) (sym xc)
              (gone_below w t s k (p.gone k a)))
              (subst (λ z. Fresh C T' (mode_at m w z)) (sym q)
              (fresh_more C C T T' (mode_at m w t.current) (λ k a. a) upT p.fresh)) now.2))
              (λ z _ q. fresh_more C C' T T' (w.hosts z).mode oldC upT
              (subst (λ v. Fresh C T (mode_at m w v)) (sym q) p.fresh))
              t.current refl)
        ];
      }

  followed_happened : (w : World S P B) (t : Told S) (past : List (Entry P E A B))
      (q : Option (ℕ × HostEvent P E B))
      → ((x : ℕ) (e : HostEvent P E B) → q ≡ Some (x, e) → Allowed m laws w x e) → SoundAt m laws w t
      → Followed w t past
      → Followed (happened m w q) (told m t (entry_of m w q)) (past ++ entry_of m w q)
  unfolding told
  followed_happened w t past None h s p = subst (λ z. Followed w t z) (sym (append_nil past)) p
  followed_happened w t past (Some y) h s p = followed_step w t past y.0 y.1 (h y.0 y.1 refl) s p

  run_followed : (events : List (Event E)) (w : World S P B) (t : Told S)
      (past : List (Entry P E A B)) → SoundAt m laws w t → Followed w t past
      → Followed (run m w events) (told m t (history m w events)) (past ++ history m w events)
  unfolding run history told
  run_followed [] w t past s p = subst (λ z. Followed w t z) (sym (append_nil past)) p
  run_followed (ev ∷ events) w t past s p =
      let q = meaning m w ev in
      let s' = happened_sound m laws w t q (λ x e. event_allowed m laws w ev x e) s in
      let p' = followed_happened w t past q (λ x e. event_allowed m laws w ev x e) s p in
      subst (λ z. Followed (run m (happened m w q) events) z
      (past ++ (entry_of m w q ++ history m (happened m w q) events)))
      (sym (told_more m laws t (entry_of m w q) (history m (happened m w q) events)))
      (subst (λ z. Followed (run m (happened m w q) events)
      (told m (told m t (entry_of m w q)) (history m (happened m w q) events)) z)
      (append_assoc past (entry_of m w q) (history m (happened m w q) events))
      (run_followed events (happened m w q) (told m t (entry_of m w q))
      (past ++ entry_of m w q) s' p'))

  new_followed : (version origin : ℕ) (g : S) (count : ℕ) (limits : ℕ → ℕ)
      → Followed (new_world m version origin g count limits) (at_start origin g) []
  unfolding Has Somewhere read
  new_followed version origin g count limits =
      record {
        backed = λ x. either (λ (q : Mode S P). Backed (WasReady {P = P} {E = E} {A = A} {B = B} [])
            (WasCommitted {P = P} {E = E} {A = A} {B = B} []) q) (x == origin) (Run 0 g) (Empty 0)
            (λ _. tt) (λ _. tt);
        frames = λ a h. absurd h;
        gone = λ k h. absurd h;
        fresh = either (λ (q : Mode S P). Fresh (WasCommitted {P = P} {E = E} {A = A} {B = B} [])
            (WasStarted {P = P} {E = E} {A = A} {B = B} []) q) (origin == origin) (Run 0 g) (Empty 0)
            (λ _. inl (λ k h. absurd h)) (λ _. tt);
      }

  caused_plain : (R C T : ℕ → Type 0) (f : Frame P B) → IsCaused R C T (plain m f)
      → IsCaused R C T f
  caused_plain R C T (Zero k p n) h = tt
  caused_plain R C T f h = h

  pub follow_law : FramesFollowTheirCauses m
  unfolding FramesFollowTheirCauses
  follow_law = λ g version origin count limits events a v h.
      let end = run_followed events (new_world m version origin g count limits) (at_start origin g) []
      (new_sound m laws version origin g count limits v) (new_followed version origin g count limits) in
      caused_plain _ _ _ a.frame
      (end.frames (record { from = a.from; to = a.to; frame = plain m a.frame })
      (has_read m laws (run m (new_world m version origin g count limits) events).sent a h))
