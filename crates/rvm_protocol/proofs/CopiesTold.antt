-- Each copy of a move had the reply Copied.
use Rattle.std.proofs.Common.{◌≡◌, ℕ, suc, ◌-◌, ◌==◌, ◌^◌, true, false, ◌&&◌, nat_lt, nat_le, if◌then◌else◌, List, [], ◌∷◌, ◌++◌, Option, Some, None, refl, sym, ap, subst}
use Rattle.std.specs.Prelude.{set, length}
use Rattle.std.proofs.lemmas.Bool.{eqb-true}
use Rattle.rvm_protocol.specs.Commands.{Command, Board, Begin, Copy, Resend, AbortMove, HostEvent, Do, Came, is_allowed}
use Rattle.rvm_protocol.specs.FewCopies.{AreTold, CopiesAreTold, copies_after, copies_told}
use Rattle.rvm_protocol.specs.Frames.{Frame, Offer, Accept, Refuse, Page, RoundEnd, Lost, State, Ready, Go, Started, Abort, is_compact, plain, Part}
use Rattle.rvm_protocol.specs.Guest.{Guest}
use Rattle.rvm_protocol.specs.Host.{outcome, Host, obey_at, is_there, is_heard}
use Rattle.rvm_protocol.specs.Modes.{Mode, Empty, Run, Offering, Copying, Stopped, Given, Staging, Held, Outcome, ignores, says, sends, refuses}
use Rattle.rvm_protocol.specs.Obeying.{obey, begun, begin_allowed, copy_page, sends_page, copy_last, sends_last, resend_last, begin}
use Rattle.rvm_protocol.specs.Pages.{put}
use Rattle.rvm_protocol.specs.Receiving.{came, offered, offer_above, of_this_move}
use Rattle.rvm_protocol.specs.Replies.{Accepted, Stored, Stopping, SeqSpent, EpochsSpent, BadSize, BadHost, Open, Declined}
use Rattle.rvm_protocol.specs.Rounds.{Rounds, Last, next_page, to_copy, stopped, stops, round_over, next_round, opened}
use Rattle.rvm_protocol.specs.World.{World, Event, Entry, entry_of, happened, history, meaning, mode_at, result_at, run, new_host, new_world}
use Rattle.rvm_protocol.proofs.CurrentModes.{either}
use Rattle.rvm_protocol.proofs.StateCases.{state_cases, part_cases}

copies_more : {P E A B : Type 0} (x k : ℕ) (xs ys : List (Entry P E A B))
    → copies_told x k (xs ++ ys) ≡ copies_told x (copies_told x k xs) ys
unfolding copies_told
copies_more x k [] ys = refl
copies_more x k (e ∷ es) ys = copies_more x (if x == e.host then copies_after e.reply k else k) es ys

module _ {S P E A B : Type 0} (m : Guest S P E A B) where
  -- an offered move has none yet
  abbrev Tells : ℕ → Mode S P → Type 0
  Tells k (Offering n g p) = k ≡ 0
  Tells k (Copying n r) = r.copies ≡ k
  Tells k (Stopped n l) = l.copies ≡ k
  Tells k mode = Unit {0}

  abbrev Leaves : ℕ → Outcome S P A B → Type 0
  Leaves k o = Tells (copies_after o.reply k) o.next

  page_told : (k n : ℕ) (r : Rounds S) (q : Option ℕ) → r.copies ≡ k → Leaves k (copy_page m n r q)
  page_told k n r (Some p) ok =
      either (Leaves k) (nat_le (2 ^ 32 - 1) r.copies) (refuses SeqSpent (Copying n r)) (sends_page m n r p)
      (λ _. ok) (λ _. ap suc ok)
  page_told k n r None ok =
      either (λ (w : Rounds S). w.copies ≡ k) (stops m r) (round_over m r) (next_round m r) (λ _. ok) (λ _. ok)

  last_told : (k v n : ℕ) (l : Last S) (q : Option ℕ) → l.copies ≡ k → Leaves k (copy_last m v n l q)
  last_told k v n l (Some p) ok =
      either (Leaves k) (nat_le (2 ^ 32 - 1) l.copies) (refuses SeqSpent (Stopped n l)) (sends_last m n l p)
      (λ _. ok) (λ _. ap suc ok)
  last_told k v n l None ok = either (Leaves k) (is_compact v) _ _ (λ _. ok) (λ _. ok)

  resend_told : (k v n : ℕ) (l : Last S) (q : Option ℕ) → l.copies ≡ k → Leaves k (resend_last m v n l q)
  resend_told k v n l (Some p) ok = ok
  resend_told k v n l None ok = either (Leaves k) (is_compact v) _ _ (λ _. ok) (λ _. ok)

  obey_told : (k v : ℕ) (c : Command E) (O : Mode S P) → Tells k O → Leaves k (obey m v c O)
  obey_told k v (Board e) (Empty n) ok = tt
  obey_told k v (Board e) (Run n g) ok = tt
  obey_told k v (Board e) (Offering n g p) ok = ok
  obey_told k v (Board e) (Copying n r) ok = ok
  obey_told k v (Board e) (Stopped n l) ok = ok
  obey_told k v (Board e) (Given n kept) ok = tt
  obey_told k v (Board e) (Staging n s) ok = tt
  obey_told k v (Board e) (Held n g) ok = tt
  obey_told k v (Begin to q) (Empty n) ok = ok
  obey_told k v (Begin to q) (Run n g) ok =
      either (Leaves k) (is_allowed q) (begin_allowed m q n g) (refuses BadSize (Run n g))
      (λ h. either (Leaves k) (n == 2 ^ 64 - 1) (refuses EpochsSpent (Run n g)) (begun m q n g)
      (λ _. tt) (λ _. refl))
      (λ _. tt)
  obey_told k v (Begin to q) (Offering n g p) ok = ok
  obey_told k v (Begin to q) (Copying n r) ok = ok
  obey_told k v (Begin to q) (Stopped n l) ok = ok
  obey_told k v (Begin to q) (Given n kept) ok = ok
  obey_told k v (Begin to q) (Staging n s) ok = ok
  obey_told k v (Begin to q) (Held n g) ok = ok
  obey_told k v Copy (Empty n) ok = ok
  obey_told k v Copy (Run n g) ok = ok
  obey_told k v Copy (Offering n g p) ok = ok
  obey_told k v Copy (Copying n r) ok =
      either (Leaves k) r.stop (says Stopping (Stopped n (stopped m r))) (copy_page m n r (next_page m r))
      (λ _. ok) (λ _. page_told k n r (next_page m r) ok)
  obey_told k v Copy (Stopped n l) ok = last_told k v n l (to_copy m l) ok
  obey_told k v Copy (Given n kept) ok = ok
  obey_told k v Copy (Staging n s) ok = ok
  obey_told k v Copy (Held n g) ok = ok
  obey_told k v Resend (Empty n) ok = ok
  obey_told k v Resend (Run n g) ok = ok
  obey_told k v Resend (Offering n g p) ok = ok
  obey_told k v Resend (Copying n r) ok = ok
  obey_told k v Resend (Stopped n l) ok = resend_told k v n l (to_copy m l) ok
  obey_told k v Resend (Given n kept) ok = ok
  obey_told k v Resend (Staging n s) ok = ok
  obey_told k v Resend (Held n g) ok = ok
  obey_told k v AbortMove (Empty n) ok = ok
  obey_told k v AbortMove (Run n g) ok = ok
  obey_told k v AbortMove (Offering n g p) ok = tt
  obey_told k v AbortMove (Copying n r) ok = tt
  obey_told k v AbortMove (Stopped n l) ok = tt
  obey_told k v AbortMove (Given n kept) ok = ok
  obey_told k v AbortMove (Staging n s) ok = ok
  obey_told k v AbortMove (Held n g) ok = ok

  equal_told : (k n j : ℕ) (o : Outcome S P A B) (O : Mode S P) → Tells k O → Leaves k o
      → Leaves k (of_this_move m n j o O)
  equal_told k n j o O ok h = either (Leaves k) (n == j) o (ignores O) (λ _. h) (λ _. ok)

  above_told : (k limit s j a b : ℕ) (O : Mode S P) → Tells k O → Leaves k (offer_above m s limit j a b O)
  above_told k limit s j a b O ok =
      either (Leaves k) (nat_lt s j) (offered m limit j a b O) (ignores O)
      (λ _. either (Leaves k) (nat_lt limit a) (sends (Declined limit) (Refuse j limit) O)
      (sends Accepted (Accept j) (Staging j _)) (λ _. ok) (λ _. tt))
      (λ _. ok)

  came_told : (k limit : ℕ) (f : Frame P B) (O : Mode S P) → Tells k O → Leaves k (came m limit f O)
  came_told k limit (Offer j a b) (Empty n) ok = above_told k limit n j a b (Empty n) ok
  came_told k limit (Offer j a b) (Given n kept) ok = above_told k limit n j a b (Given n kept) ok
  came_told k limit (Offer j a b) (Held n g) ok = above_told k limit n j a b (Held n g) ok
  came_told k limit (Offer j a b) (Staging n s) ok =
      either (Leaves k) (n == j) (sends Accepted (Accept n) (Staging n s))
      (offer_above m n limit j a b (Staging n s)) (λ _. tt)
      (λ _. above_told k limit n j a b (Staging n s) ok)
  came_told k limit (Accept j) (Offering n g p) ok =
      equal_told k n j (says Open (Copying n (opened m g p))) (Offering n g p) ok (sym ok)
  came_told k limit (Refuse j a) (Offering n g p) ok = equal_told k n j _ (Offering n g p) ok tt
  came_told k limit (Page j p q y) (Staging n s) ok =
      equal_told k n j _ (Staging n s) ok
      (either (Leaves k) (nat_lt p (length s.pages) && nat_lt (s.have p) q)
      (says (Stored p q)
      (Staging n (record s { pages = set s.pages p y; have = put s.have p q })))
      (ignores (Staging n s)) (λ _. tt) (λ _. tt))
  came_told k limit (RoundEnd j a b c d) (Staging n s) ok = equal_told k n j _ (Staging n s) ok tt
  came_told k limit (State j ns b) (Staging n s) ok =
      equal_told k n j _ (Staging n s) ok (state_cases m (Leaves k) n s s ns b tt tt (λ g _ _. tt))
  came_told k limit (Part j st i u x) (Staging n s) ok =
      equal_told k n j _ (Staging n s) ok
      (part_cases m (Leaves k) n s st i u x tt tt (λ _. tt) (λ _ ns. tt)
      (λ _ xs ns b g _ _ _ _. tt))
  came_told k limit (Part j st i u x) (Held n g) ok = equal_told k n j _ (Held n g) ok tt
  came_told k limit (State j ns b) (Held n g) ok = equal_told k n j _ (Held n g) ok tt
  came_told k limit (Lost j ps) (Stopped n l) ok = equal_told k n j _ (Stopped n l) ok ok
  came_told k limit (Ready j) (Stopped n l) ok = equal_told k n j _ (Stopped n l) ok tt
  came_told k limit (Go j) (Held n g) ok = equal_told k n j _ (Held n g) ok tt
  came_told k limit (Go j) (Run n g) ok = equal_told k n j _ (Run n g) ok tt
  came_told k limit (Started j) (Given n kept) ok = equal_told k n j _ (Given n kept) ok tt
  came_told k limit (Abort j) (Staging n s) ok = equal_told k n j _ (Staging n s) ok tt
  came_told k limit (Abort j) (Held n g) ok = equal_told k n j _ (Held n g) ok tt
  came_told k limit f O ok = ok

  obey_at_told : (k v self count : ℕ) (c : Command E) (O : Mode S P) → Tells k O
      → Leaves k (obey_at m v self count c O)
  obey_at_told k v self count (Begin to q) (Run n g) ok =
      either (Leaves k) (is_there self count to) (begin m q (Run n g)) (refuses BadHost (Run n g))
      (λ _. obey_told k v (Begin to q) (Run n g) ok) (λ _. ok)
  obey_at_told k v self count c O ok = obey_told k v c O ok

  step_told : (k v self count limit : ℕ) (e : HostEvent P E B) (h : Host S P) → Tells k h.mode
      → Leaves k (outcome m v self count limit e h)
  step_told k v self count limit (Do c) h ok = obey_at_told k v self count c h.mode ok
  step_told k v self count limit (Came y f) h ok =
      either (Leaves k) (is_heard self count y (plain m f) h) (came m limit (plain m f) h.mode)
      (ignores h.mode) (λ _. came_told k limit (plain m f) h.mode ok) (λ _. ok)

  happened_told : (w : World S P B) (q : Option (ℕ × HostEvent P E B)) (k : ℕ → ℕ)
      → ((x : ℕ) → Tells (k x) (w.hosts x).mode) → (x : ℕ)
      → Tells (copies_told x (k x) (entry_of m w q)) ((happened m w q).hosts x).mode
  unfolding copies_told
  happened_told w None k ok x = ok x
  happened_told w (Some (y, e)) k ok x =
      let o = result_at m w y e in
      elim (x == y) as
      (λ t. (x == y) ≡ t
      → Tells (if t then copies_after o.reply (k x) else k x) (if t then o.next else w.hosts x).mode) [
        | true ↦
            λ same. subst (λ z. Tells (copies_after o.reply (k z)) o.next.mode) (sym (eqb-true x y same))
            (step_told (k y) w.version y w.count (w.limits y) e (w.hosts y) (ok y))
        | false ↦ λ other. ok x
      ] refl

  run_told : (events : List (Event E)) (w : World S P B) (k : ℕ → ℕ)
      → ((x : ℕ) → Tells (k x) (w.hosts x).mode) → (x : ℕ)
      → Tells (copies_told x (k x) (history m w events)) ((run m w events).hosts x).mode
  unfolding run history copies_told
  run_told [] w k ok x = ok x
  run_told (ev ∷ events) w k ok x =
      let q = meaning m w ev in
      subst (λ z. Tells z ((run m (happened m w q) events).hosts x).mode)
      (sym (copies_more x (k x) (entry_of m w q) (history m (happened m w q) events)))
      (run_told events (happened m w q) (λ z. copies_told z (k z) (entry_of m w q)) (happened_told w q k ok) x)

  new_told : (origin : ℕ) (g : S) (x : ℕ) → Tells 0 (new_host m origin g x).mode
  new_told origin g x = either (Tells 0) (x == origin) (Run 0 g) (Empty 0) (λ _. tt) (λ _. tt)

  are_told : (k : ℕ) (O : Mode S P) → Tells k O → AreTold m k O
  are_told k (Empty n) ok = tt
  are_told k (Run n g) ok = tt
  are_told k (Offering n g p) ok = tt
  are_told k (Copying n r) ok = ok
  are_told k (Stopped n l) ok = ok
  are_told k (Given n kept) ok = tt
  are_told k (Staging n s) ok = tt
  are_told k (Held n g) ok = tt

  pub told_law : CopiesAreTold m
  unfolding CopiesAreTold
  told_law = λ g version origin count limits events x.
      let new = new_world m version origin g count limits in
      are_told (copies_told x 0 (history m new events)) (mode_at m (run m new events) x)
      (run_told events new (λ z. 0) (new_told origin g) x)
