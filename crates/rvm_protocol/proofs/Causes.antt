-- Each event of a host makes a Ready, Go or Started only after the replies that allow it.
use Rattle.std.proofs.Common.{◌≡◌, ℕ, ◌==◌, ◌^◌, ◌-◌, nat_lt, nat_le, not, ◌&&◌, length, Option, Some, None, refl, sym, subst}
use Rattle.std.proofs.lemmas.Bool.{eqb-true}
use Rattle.rvm_protocol.specs.Commands.{Command, Board, Begin, Copy, Resend, AbortMove, HostEvent, Do, Came, is_allowed}
use Rattle.rvm_protocol.specs.FrameCauses.{says_ready, says_committed, says_started, IsCaused}
use Rattle.rvm_protocol.specs.Frames.{Frame, Offer, Accept, Refuse, Page, RoundEnd, Lost, State, Ready, Go, Started, Abort, is_compact, Part, plain, Zero}
use Rattle.rvm_protocol.specs.Guest.{Guest}
use Rattle.rvm_protocol.specs.Host.{Host, obey_at, is_there, is_heard, outcome}
use Rattle.rvm_protocol.specs.Modes.{Mode, Empty, Run, Offering, Copying, Stopped, Given, Staging, Held, Outcome, ignores, says, sends, refuses}
use Rattle.rvm_protocol.specs.Obeying.{obey, begin, begin_allowed, begun, copy_page, sends_page, copy_last, sends_last, resend_last}
use Rattle.rvm_protocol.specs.Pages.{least}
use Rattle.rvm_protocol.specs.Receiving.{came, of_this_move, offered, offer_above}
use Rattle.rvm_protocol.specs.Replies.{Reply, Accepted, Declined, BadSize, BadHost, EpochsSpent, SeqSpent, Stopping}
use Rattle.rvm_protocol.specs.Rounds.{Rounds, Last, is_skipped, to_copy, stopped}
use Rattle.rvm_protocol.proofs.PairInvariant.{New}
use Rattle.rvm_protocol.proofs.CurrentModes.{either}
use Rattle.rvm_protocol.proofs.StateCases.{state_cases, part_cases}

module _ {S P : Type 0} where
  -- what the past said of a mode
  abbrev pub Backed : (R C : ℕ → Type 0) → Mode S P → Type 0
  Backed R C (Held n g) = R n
  Backed R C (Given n kept) = C n
  Backed R C mode = Unit {0}

  -- if a Go of this move was sent, the guest was started here
  abbrev pub RunOk : (C T : ℕ → Type 0) → Mode S P → Type 0
  RunOk C T (Run n g) = C n → T n
  RunOk C T mode = Unit {0}

module _ {S P E A B : Type 0} (m : Guest S P E A B) (R C T : ℕ → Type 0) where
  -- what a reply says is true
  abbrev pub Now : HostEvent P E B → Reply A → Type 0
  Now e r =
      ((n : ℕ) → says_ready n e r → R n) × ((n : ℕ) → says_committed n r → C n) ×
      ((n : ℕ) → says_started n e r → T n)

  abbrev pub Follows : HostEvent P E B → Outcome S P A B → Type 0
  Follows e o = Now e o.reply → New (IsCaused R C T) o.made × Backed R C o.next

  follow_equal : (e : HostEvent P E B) (n k : ℕ) (o : Outcome S P A B) (X : Mode S P) → Backed R C X
      → (n ≡ k → Follows e o) → Follows e (of_this_move m n k o X)
  follow_equal e n k o X b h =
      either (Follows e) (n == k) o (ignores X) (λ q. h (eqb-true n k q)) (λ _ _. (tt, b))

  follow_above : (e : HostEvent P E B) (limit s k a b : ℕ) (X : Mode S P) → Backed R C X
      → Follows e (offer_above m s limit k a b X)
  follow_above e limit s k a b X q =
      either (Follows e) (nat_lt s k) (offered m limit k a b X) (ignores X)
      (λ _. either (Follows e) (nat_lt limit a) (sends (Declined limit) (Refuse k limit) X)
      (sends Accepted (Accept k) (Staging k _)) (λ _ _. (tt, q)) (λ _ _. (tt, tt)))
      (λ _ _. (tt, q))

  pub follow_came : (limit y : ℕ) (f : Frame P B) (X : Mode S P) → Backed R C X → RunOk C T X
      → IsCaused R C T f → Follows (Came y f) (came m limit f X)
  follow_came limit y (Offer k a b) (Empty n) q r j =
      follow_above (Came y (Offer k a b)) limit n k a b (Empty n) q
  follow_came limit y (Offer k a b) (Given n kept) q r j =
      follow_above (Came y (Offer k a b)) limit n k a b (Given n kept) q
  follow_came limit y (Offer k a b) (Held n g) q r j =
      follow_above (Came y (Offer k a b)) limit n k a b (Held n g) q
  follow_came limit y (Offer k a b) (Staging n s) q r j =
      either (Follows (Came y (Offer k a b))) (n == k) (sends Accepted (Accept n) (Staging n s))
      (offer_above m n limit k a b (Staging n s)) (λ _ _. (tt, tt))
      (λ _. follow_above (Came y (Offer k a b)) limit n k a b (Staging n s) q)
  follow_came limit y (Accept k) (Offering n g p) q r j =
      follow_equal (Came y (Accept k)) n k _ (Offering n g p) q (λ e now. (tt, tt))
  follow_came limit y (Refuse k a) (Offering n g p) q r j =
      follow_equal (Came y (Refuse k a)) n k _ (Offering n g p) q (λ e now. (tt, tt))
  follow_came limit y (Page k i c b) (Staging n s) q r j =
      follow_equal (Came y (Page k i c b)) n k _ (Staging n s) q
      (λ e. either (Follows (Came y (Page k i c b)))
      (nat_lt i (length s.pages) && nat_lt (s.have i) c) _ (ignores (Staging n s))
      (λ _ _. (tt, tt)) (λ _ _. (tt, tt)))
  follow_came limit y (RoundEnd k a b c d) (Staging n s) q r j =
      follow_equal (Came y (RoundEnd k a b c d)) n k _ (Staging n s) q (λ e now. (tt, tt))
  follow_came limit y (State k ns b) (Staging n s) q r j =
      follow_equal (Came y (State k ns b)) n k _ (Staging n s) q
      (λ e. state_cases m (Follows (Came y (State k ns b))) n s s ns b (λ now. (tt, tt))
      (λ now. (tt, tt)) (λ g _ _ now. (now.0 n (sym e), now.0 n (sym e))))
  follow_came limit y (Part k st i u x) (Staging n s) q r j =
      follow_equal (Came y (Part k st i u x)) n k _ (Staging n s) q
      (λ e. part_cases m (Follows (Came y (Part k st i u x))) n s st i u x (λ now. (tt, tt))
      (λ now. (tt, tt)) (λ _ now. (tt, tt)) (λ _ ns now. (tt, tt))
      (λ _ xs ns b g _ _ _ _ now. (now.0 n (sym e), now.0 n (sym e))))
  follow_came limit y (Part k st i u x) (Held n g) q r j =
      follow_equal (Came y (Part k st i u x)) n k _ (Held n g) q (λ e now. (q, q))
  follow_came limit y (State k ns b) (Held n g) q r j =
      follow_equal (Came y (State k ns b)) n k _ (Held n g) q (λ e now. (q, q))
  follow_came limit y (Lost k ps) (Stopped n l) q r j =
      follow_equal (Came y (Lost k ps)) n k _ (Stopped n l) q (λ e now. (tt, tt))
  follow_came limit y (Ready k) (Stopped n l) q r j =
      follow_equal (Came y (Ready k)) n k _ (Stopped n l) q (λ e now. (now.1 n refl, now.1 n refl))
  follow_came limit y (Go k) (Held n g) q r j =
      follow_equal (Came y (Go k)) n k _ (Held n g) q (λ e now. (now.2 n (sym e), tt))
  follow_came limit y (Go k) (Run n g) q r j =
      follow_equal (Came y (Go k)) n k _ (Run n g) q (λ e now. (r (subst C (sym e) j), tt))
  follow_came limit y (Started k) (Given n kept) q r j =
      follow_equal (Came y (Started k)) n k _ (Given n kept) q (λ e now. (tt, tt))
  follow_came limit y (Abort k) (Staging n s) q r j =
      follow_equal (Came y (Abort k)) n k _ (Staging n s) q (λ e now. (tt, tt))
  follow_came limit y (Abort k) (Held n g) q r j =
      follow_equal (Came y (Abort k)) n k _ (Held n g) q (λ e now. (tt, tt))
  follow_came limit y f X q r j = λ now. (tt, q)

  -- what a frame says it says as it is read
  came_plain : (limit y : ℕ) (f : Frame P B) (X : Mode S P)
      → Follows (Came y (plain m f)) (came m limit (plain m f) X)
      → Follows (Came y f) (came m limit (plain m f) X)
  came_plain limit y (Zero k p n) X h = h
  came_plain limit y f X h = h

  follow_copy : (n : ℕ) (r : Rounds S) (q : Option ℕ) → Follows (Do Copy) (copy_page m n r q)
  follow_copy n r (Some p) =
      either (Follows (Do Copy)) (nat_le (2 ^ 32 - 1) r.copies) (refuses SeqSpent (Copying n r))
      (sends_page m n r p) (λ _ _. (tt, tt)) (λ _ _. (tt, tt))
  follow_copy n r None = λ now. (tt, tt)

  follow_last : (v : ℕ) → (n : ℕ) (l : Last S) (q : Option ℕ)
      → Follows (Do Copy) (copy_last m v n l q)
  follow_last v n l (Some p) =
      either (Follows (Do Copy)) (nat_le (2 ^ 32 - 1) l.copies) (refuses SeqSpent (Stopped n l))
      (sends_last m n l p) (λ _ _. (tt, tt)) (λ _ _. (tt, tt))
  follow_last v n l None =
      either (Follows (Do Copy)) (is_compact v) _ _ (λ _ now. (tt, tt)) (λ _ now. (tt, tt))

  follow_resend : (v : ℕ) → (n : ℕ) (l : Last S) (q : Option ℕ)
      → Follows (Do Resend) (resend_last m v n l q)
  follow_resend v n l (Some p) = λ now. (tt, tt)
  follow_resend v n l None =
      either (Follows (Do Resend)) (is_compact v) _ _ (λ _ now. (tt, tt)) (λ _ now. (tt, tt))

  pub follow_obey : (v : ℕ) → (k : Command E) (X : Mode S P) → Backed R C X
      → Follows (Do k) (obey m v k X)
  follow_obey v (Board e) (Empty n) q = λ now. (tt, q)
  follow_obey v (Board e) (Run n g) q = λ now. (tt, tt)
  follow_obey v (Board e) (Offering n g p) q = λ now. (tt, tt)
  follow_obey v (Board e) (Copying n r) q = λ now. (tt, tt)
  follow_obey v (Board e) (Stopped n l) q = λ now. (tt, tt)
  follow_obey v (Board e) (Given n kept) q = λ now. (tt, q)
  follow_obey v (Board e) (Staging n s) q = λ now. (tt, tt)
  follow_obey v (Board e) (Held n g) q = λ now. (tt, q)
  follow_obey v (Begin to p) (Empty n) q = λ now. (tt, q)
  follow_obey v (Begin to p) (Run n g) q =
      either (Follows (Do (Begin to p))) (is_allowed p) (begin_allowed m p n g)
      (refuses BadSize (Run n g))
      (λ _. either (Follows (Do (Begin to p))) (n == 2 ^ 64 - 1) (refuses EpochsSpent (Run n g))
      (begun m p n g) (λ _ _. (tt, tt)) (λ _ _. (tt, tt)))
      (λ _ _. (tt, tt))
  follow_obey v (Begin to p) (Offering n g r) q = λ now. (tt, tt)
  follow_obey v (Begin to p) (Copying n r) q = λ now. (tt, tt)
  follow_obey v (Begin to p) (Stopped n l) q = λ now. (tt, tt)
  follow_obey v (Begin to p) (Given n kept) q = λ now. (tt, q)
  follow_obey v (Begin to p) (Staging n s) q = λ now. (tt, tt)
  follow_obey v (Begin to p) (Held n g) q = λ now. (tt, q)
  follow_obey v Copy (Empty n) q = λ now. (tt, q)
  follow_obey v Copy (Run n g) q = λ now. (tt, tt)
  follow_obey v Copy (Offering n g p) q = λ now. (tt, tt)
  follow_obey v Copy (Copying n r) q =
      either (Follows (Do Copy)) r.stop (says Stopping (Stopped n (stopped m r)))
      (copy_page m n r
      (least (λ x. r.to_send x && not (is_skipped r x)) r.scan
      (length (m.pages r.guest) - r.scan))) (λ _ _. (tt, tt)) (λ _. follow_copy n r _)
  follow_obey v Copy (Stopped n l) q = follow_last v n l (to_copy m l)
  follow_obey v Copy (Given n kept) q = λ now. (tt, q)
  follow_obey v Copy (Staging n s) q = λ now. (tt, tt)
  follow_obey v Copy (Held n g) q = λ now. (tt, q)
  follow_obey v Resend (Empty n) q = λ now. (tt, q)
  follow_obey v Resend (Run n g) q = λ now. (tt, tt)
  follow_obey v Resend (Offering n g p) q = λ now. (tt, tt)
  follow_obey v Resend (Copying n r) q = λ now. (tt, tt)
  follow_obey v Resend (Stopped n l) q = follow_resend v n l (to_copy m l)
  follow_obey v Resend (Given n kept) q = λ now. (q, q)
  follow_obey v Resend (Staging n s) q = λ now. (tt, tt)
  follow_obey v Resend (Held n g) q = λ now. (q, q)
  follow_obey v AbortMove (Empty n) q = λ now. (tt, q)
  follow_obey v AbortMove (Run n g) q = λ now. (tt, tt)
  follow_obey v AbortMove (Offering n g p) q = λ now. (tt, tt)
  follow_obey v AbortMove (Copying n r) q = λ now. (tt, tt)
  follow_obey v AbortMove (Stopped n l) q = λ now. (tt, tt)
  follow_obey v AbortMove (Given n kept) q = λ now. (tt, q)
  follow_obey v AbortMove (Staging n s) q = λ now. (tt, tt)
  follow_obey v AbortMove (Held n g) q = λ now. (tt, q)

  pub follow_step : (v : ℕ) → (x count limit : ℕ) (e : HostEvent P E B) (h : Host S P)
      → Backed R C h.mode → RunOk C T h.mode
      → ((y : ℕ) (f : Frame P B) → e ≡ Came y f → IsCaused R C T (plain m f))
      → Follows e (outcome m v x count limit e h)
  follow_step v x count limit (Do (Begin to p)) h q r j = begins h.mode q
    where
      begins : (X : Mode S P) → Backed R C X
          → Follows (Do (Begin to p)) (obey_at m v x count (Begin to p) X)
      begins (Run n g) q =
          either (Follows (Do (Begin to p))) (is_there x count to) (begin m p (Run n g))
          (refuses BadHost (Run n g)) (λ _. follow_obey v (Begin to p) (Run n g) q)
          (λ _ _. (tt, tt))
      begins (Empty n) q = λ now. (tt, q)
      begins (Offering n g r) q = λ now. (tt, tt)
      begins (Copying n r) q = λ now. (tt, tt)
      begins (Stopped n l) q = λ now. (tt, tt)
      begins (Given n kept) q = λ now. (tt, q)
      begins (Staging n s) q = λ now. (tt, tt)
      begins (Held n g) q = λ now. (tt, q)
  follow_step v x count limit (Do (Board e)) h q r j = follow_obey v (Board e) h.mode q
  follow_step v x count limit (Do Copy) h q r j = follow_obey v Copy h.mode q
  follow_step v x count limit (Do Resend) h q r j = follow_obey v Resend h.mode q
  follow_step v x count limit (Do AbortMove) h q r j = follow_obey v AbortMove h.mode q
  follow_step v x count limit (Came y f) h q r j =
      either (Follows (Came y f)) (is_heard x count y (plain m f) h)
      (came m limit (plain m f) h.mode) (ignores h.mode)
      (λ _. came_plain limit y f h.mode (follow_came limit y (plain m f) h.mode q r (j y f refl)))
      (λ _ _. (tt, q))
