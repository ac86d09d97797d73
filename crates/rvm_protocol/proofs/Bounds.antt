-- A move makes few copies before it stops.
use Rattle.std.proofs.Common.{◌≡◌, ℕ, ◌+◌, ◌-◌, ◌*◌, ◌<◌, ◌≤◌, ◌==◌, ◌^◌, Bool, true, false, not, ◌&&◌, nat_lt, nat_le, List, [], ◌∷◌, length, Option, Some, None, refl, sym, subst, arith}
use Rattle.std.specs.Prelude.{set}
use Rattle.std.proofs.lemmas.Bool.{leb-true, leb-false}
use Rattle.std.proofs.Math.Nat.{mul-le-mul_right}
use Rattle.rvm_protocol.specs.Commands.{Policy, Command, Board, Begin, Copy, Resend, AbortMove, HostEvent, Do, Came, is_allowed}
use Rattle.rvm_protocol.specs.FewCopies.{FewCopies, CopiesAreBounded}
use Rattle.rvm_protocol.specs.Frames.{Frame, Offer, Accept, Refuse, Page, RoundEnd, Lost, State, Ready, Go, Started, Abort, is_compact, plain, Part}
use Rattle.rvm_protocol.specs.Guest.{Guest, IsGuest}
use Rattle.rvm_protocol.specs.Host.{outcome, Host, obey_at, is_there, is_heard}
use Rattle.rvm_protocol.specs.Modes.{Mode, Empty, Run, Offering, Copying, Stopped, Given, Staging, Held, Outcome, ignores, says, sends, refuses}
use Rattle.rvm_protocol.specs.Obeying.{obey, begun, begin_allowed, copy_page, sends_page, copy_last, sends_last, resend_last, begin}
use Rattle.rvm_protocol.specs.Pages.{put, least}
use Rattle.rvm_protocol.specs.Receiving.{came, offered, offer_above, of_this_move}
use Rattle.rvm_protocol.specs.Replies.{Accepted, Stored, Stopping, SeqSpent, EpochsSpent, BadSize, BadHost, Open, Declined}
use Rattle.rvm_protocol.specs.Rounds.{Rounds, Last, is_skipped, to_copy, stopped, stops, round_over, next_round, opened}
use Rattle.rvm_protocol.specs.World.{World, Event, mode_at, happened, meaning, result_at, run, new_host, new_world}
use Rattle.rvm_protocol.proofs.CurrentModes.{either}
use Rattle.rvm_protocol.proofs.Basics.{or_false, least_found}
use Rattle.rvm_protocol.proofs.StateCases.{state_cases, part_cases}

-- copies made in rounds of at most count pages
pub record Counted (count max round sent scan copies : ℕ) : Type 0 where
  pub rounds : round ≤ max
  pub sent_le : sent ≤ scan
  pub scan_le : scan ≤ count
  pub copies_le : copies + count ≤ round * count + sent

module _ {S P E A B : Type 0} (m : Guest S P E A B) (laws : IsGuest m) where
  abbrev pub IsCounted : Rounds S → Type 0
  IsCounted r =
      Counted (length (m.pages r.guest)) r.policy.max_rounds r.round r.sent r.scan r.copies

  abbrev pub Bounded : Mode S P → Type 0
  Bounded (Offering n g p) = 1 ≤ p.max_rounds
  Bounded (Copying n r) = IsCounted r
  Bounded mode = Unit {0}

  abbrev pub Bounds : Outcome S P A B → Type 0
  Bounds o = Bounded o.next

  allowed_rounds : (p : Policy) → is_allowed p ≡ true → 1 ≤ p.max_rounds
  allowed_rounds p h =
      leb-true 1 p.max_rounds
      (first_of_six (nat_le 1 p.max_rounds) (nat_le p.max_rounds 1000) (nat_le 1 p.min_left)
      (nat_le p.min_left 4096) (nat_le 1 p.factor) (nat_le p.factor 100) h)
    where
      first_of_six : (a b c d e f : Bool) → (a && b && c && d && e && f) ≡ true → a ≡ true
      first_of_six true b c d e f h = refl
      first_of_six false b c d e f h = cc

  page_bound : (n : ℕ) (r : Rounds S) (q : Option ℕ) → IsCounted r
      → least (λ x. r.to_send x && not (is_skipped r x)) r.scan
      (length (m.pages r.guest) - r.scan) ≡ q → Bounds (copy_page m n r q)
  page_bound n r (Some p) ok found =
      let l = least_found _ _ _ p found in let a = l.from in let b = l.inside in let x =
      ok.sent_le in let y = ok.copies_le in let z = ok.scan_le in
      either Bounds (nat_le (2 ^ 32 - 1) r.copies) (refuses SeqSpent (Copying n r))
      (sends_page m n r p) (λ _. ok)
      (λ _. record {
        rounds = ok.rounds;
        sent_le = omega (arith, a, x);
        scan_le = omega
            (arith, a, b, z);
        copies_le = omega (arith, y);
      })
  page_bound n r None ok found =
      let c = length (m.pages r.guest) in let x = ok.sent_le in let y = ok.copies_le in let z =
      ok.scan_le in
      either (λ w. IsCounted w) (stops m r) (round_over m r) (next_round m r)
      (λ _. record {
        rounds = ok.rounds;
        sent_le = omega (arith, x, z);
        scan_le =
            omega arith;
        copies_le = y;
      })
      (λ e. let lt : r.round < r.policy.max_rounds = leb-false r.policy.max_rounds r.round
      (or_false _ _ (or_false _ _ e).0).0 in
      record {
        rounds = lt;
        sent_le = omega arith;
        scan_le = omega arith;
        copies_le = grind
            (arith, x, y, z);
      })

  last_bound : (v : ℕ) → (n : ℕ) (l : Last S) (q : Option ℕ) → Bounds (copy_last m v n l q)
  last_bound v n l (Some p) =
      either Bounds (nat_le (2 ^ 32 - 1) l.copies) (refuses SeqSpent (Stopped n l))
      (sends_last m n l p) (λ _. tt) (λ _. tt)
  last_bound v n l None = either Bounds (is_compact v) _ _ (λ _. tt) (λ _. tt)

  resend_bound : (v : ℕ) → (n : ℕ) (l : Last S) (q : Option ℕ) → Bounds (resend_last m v n l q)
  resend_bound v n l (Some p) = tt
  resend_bound v n l None = either Bounds (is_compact v) _ _ (λ _. tt) (λ _. tt)

  pub few : (O : Mode S P) → Bounded O → FewCopies m O
  few (Copying n r) ok =
      let c = length (m.pages r.guest) in let x = ok.sent_le in let y = ok.copies_le in let z =
      ok.scan_le in let w = ok.rounds in
      let k : r.round * c ≤ r.policy.max_rounds * c = mul-le-mul_right c w in omega
      (arith, x, y, z, k)
  few (Offering n g p) ok = tt
  few (Empty n) ok = tt
  few (Run n g) ok = tt
  few (Stopped n l) ok = tt
  few (Given n kept) ok = tt
  few (Staging n s) ok = tt
  few (Held n g) ok = tt

  obey_bound : (v : ℕ) → (c : Command E) (O : Mode S P) → Bounded O → Bounds (obey m v c O)
  obey_bound v (Board e) (Empty n) ok = tt
  obey_bound v (Board e) (Run n g) ok = tt
  obey_bound v (Board e) (Offering n g p) ok = ok
  obey_bound v (Board e) (Copying n r) ok =
      let c : length (m.pages (m.next r.guest e)) ≡ length (m.pages r.guest) =
      laws.same_length r.guest e in subst
      (λ z. Counted z r.policy.max_rounds r.round r.sent r.scan r.copies) (sym c) ok
  obey_bound v (Board e) (Stopped n l) ok = tt
  obey_bound v (Board e) (Given n kept) ok = tt
  obey_bound v (Board e) (Staging n s) ok = tt
  obey_bound v (Board e) (Held n g) ok = tt
  obey_bound v (Begin to q) (Empty n) ok = ok
  obey_bound v (Begin to q) (Run n g) ok =
      either Bounds (is_allowed q) (begin_allowed m q n g) (refuses BadSize (Run n g))
      (λ h. either Bounds (n == 2 ^ 64 - 1) (refuses EpochsSpent (Run n g)) (begun m q n g)
      (λ _. tt) (λ _. allowed_rounds q h))
      (λ _. tt)
  obey_bound v (Begin to q) (Offering n g p) ok = ok
  obey_bound v (Begin to q) (Copying n r) ok = ok
  obey_bound v (Begin to q) (Stopped n l) ok = ok
  obey_bound v (Begin to q) (Given n kept) ok = ok
  obey_bound v (Begin to q) (Staging n s) ok = ok
  obey_bound v (Begin to q) (Held n g) ok = ok
  obey_bound v Copy (Empty n) ok = ok
  obey_bound v Copy (Run n g) ok = ok
  obey_bound v Copy (Offering n g p) ok = ok
  obey_bound v Copy (Copying n r) ok =
      either Bounds r.stop (says Stopping (Stopped n (stopped m r)))
      (copy_page m n r
      (least (λ x. r.to_send x && not (is_skipped r x)) r.scan
      (length (m.pages r.guest) - r.scan)))
      (λ _. tt)
      (λ _. page_bound n r _ ok refl)
  obey_bound v Copy (Stopped n l) ok = last_bound v n l (to_copy m l)
  obey_bound v Copy (Given n kept) ok = ok
  obey_bound v Copy (Staging n s) ok = ok
  obey_bound v Copy (Held n g) ok = ok
  obey_bound v Resend (Empty n) ok = ok
  obey_bound v Resend (Run n g) ok = ok
  obey_bound v Resend (Offering n g p) ok = ok
  obey_bound v Resend (Copying n r) ok = ok
  obey_bound v Resend (Stopped n l) ok = resend_bound v n l (to_copy m l)
  obey_bound v Resend (Given n kept) ok = ok
  obey_bound v Resend (Staging n s) ok = ok
  obey_bound v Resend (Held n g) ok = ok
  obey_bound v AbortMove (Empty n) ok = ok
  obey_bound v AbortMove (Run n g) ok = ok
  obey_bound v AbortMove (Offering n g p) ok = tt
  obey_bound v AbortMove (Copying n r) ok = tt
  obey_bound v AbortMove (Stopped n l) ok = tt
  obey_bound v AbortMove (Given n kept) ok = ok
  obey_bound v AbortMove (Staging n s) ok = ok
  obey_bound v AbortMove (Held n g) ok = ok

  equal_bound : (n k : ℕ) (o : Outcome S P A B) (O : Mode S P) → Bounded O → Bounds o
      → Bounds (of_this_move m n k o O)
  equal_bound n k o O ok h = either Bounds (n == k) o (ignores O) (λ _. h) (λ _. ok)

  above_bound : (limit s k a b : ℕ) (O : Mode S P) → Bounded O
      → Bounds (offer_above m s limit k a b O)
  above_bound limit s k a b O ok =
      either Bounds (nat_lt s k) (offered m limit k a b O) (ignores O)
      (λ _. either Bounds (nat_lt limit a) (sends (Declined limit) (Refuse k limit) O)
      (sends Accepted (Accept k) (Staging k _)) (λ _. ok) (λ _. tt))
      (λ _. ok)

  came_bound : (limit : ℕ) (f : Frame P B) (O : Mode S P) → Bounded O → Bounds (came m limit f O)
  came_bound limit (Offer k a b) (Empty n) ok = above_bound limit n k a b (Empty n) ok
  came_bound limit (Offer k a b) (Given n kept) ok = above_bound limit n k a b (Given n kept) ok
  came_bound limit (Offer k a b) (Held n g) ok = above_bound limit n k a b (Held n g) ok
  came_bound limit (Offer k a b) (Staging n s) ok =
      either Bounds (n == k) (sends Accepted (Accept n) (Staging n s))
      (offer_above m n limit k a b (Staging n s)) (λ _. tt)
      (λ _. above_bound limit n k a b (Staging n s) ok)
  came_bound limit (Accept k) (Offering n g p) ok =
      equal_bound n k (says Open (Copying n (opened m g p))) (Offering n g p) ok
      (record {
        rounds = ok;
        sent_le = omega arith;
        scan_le = omega arith;
        copies_le =
            omega arith;
      })
  came_bound limit (Refuse k a) (Offering n g p) ok = equal_bound n k _ (Offering n g p) ok tt
  came_bound limit (Page k p q y) (Staging n s) ok =
      equal_bound n k _ (Staging n s) ok
      (either Bounds (nat_lt p (length s.pages) && nat_lt (s.have p) q)
      (says (Stored p q)
      (Staging n (record s { pages = set s.pages p y; have = put s.have p q })))
      (ignores (Staging n s)) (λ _. tt) (λ _. tt))
  came_bound limit (RoundEnd k a b c d) (Staging n s) ok = equal_bound n k _ (Staging n s) ok tt
  came_bound limit (State k ns b) (Staging n s) ok =
      equal_bound n k _ (Staging n s) ok
      (state_cases m Bounds n s s ns b tt tt (λ g _ _. tt))
  came_bound limit (Part k st i u x) (Staging n s) ok =
      equal_bound n k _ (Staging n s) ok
      (part_cases m Bounds n s st i u x tt tt (λ _. tt) (λ _ ns. tt)
      (λ _ xs ns b g _ _ _ _. tt))
  came_bound limit (Part k st i u x) (Held n g) ok = equal_bound n k _ (Held n g) ok tt
  came_bound limit (State k ns b) (Held n g) ok = equal_bound n k _ (Held n g) ok tt
  came_bound limit (Lost k ps) (Stopped n l) ok = equal_bound n k _ (Stopped n l) ok tt
  came_bound limit (Ready k) (Stopped n l) ok = equal_bound n k _ (Stopped n l) ok tt
  came_bound limit (Go k) (Held n g) ok = equal_bound n k _ (Held n g) ok tt
  came_bound limit (Go k) (Run n g) ok = equal_bound n k _ (Run n g) ok tt
  came_bound limit (Started k) (Given n kept) ok = equal_bound n k _ (Given n kept) ok tt
  came_bound limit (Abort k) (Staging n s) ok = equal_bound n k _ (Staging n s) ok tt
  came_bound limit (Abort k) (Held n g) ok = equal_bound n k _ (Held n g) ok tt
  came_bound limit f O ok = ok

  obey_at_bound : (v : ℕ) → (self count : ℕ) (c : Command E) (O : Mode S P) → Bounded O
      → Bounds (obey_at m v self count c O)
  obey_at_bound v self count (Begin to q) (Run n g) ok =
      either Bounds (is_there self count to) (begin m q (Run n g)) (refuses BadHost (Run n g))
      (λ _. obey_bound v (Begin to q) (Run n g) ok) (λ _. ok)
  obey_at_bound v self count c O ok = obey_bound v c O ok

  step_bound : (v : ℕ) → (self count limit : ℕ) (e : HostEvent P E B) (h : Host S P)
      → Bounded h.mode → Bounds (outcome m v self count limit e h)
  step_bound v self count limit (Do c) h ok = obey_at_bound v self count c h.mode ok
  step_bound v self count limit (Came y f) h ok =
      either Bounds (is_heard self count y (plain m f) h) (came m limit (plain m f) h.mode)
      (ignores h.mode) (λ _. came_bound limit (plain m f) h.mode ok) (λ _. ok)

  happened_bound : (w : World S P B) (q : Option (ℕ × HostEvent P E B))
      → ((x : ℕ) → Bounded (w.hosts x).mode) → (x : ℕ) → Bounded ((happened m w q).hosts x).mode
  happened_bound w None ok x = ok x
  happened_bound w (Some (y, e)) ok x =
      either (λ (h : Host S P). Bounded h.mode) (x == y) (result_at m w y e).next (w.hosts x)
      (λ _. step_bound w.version y w.count (w.limits y) e (w.hosts y) (ok y)) (λ _. ok x)

  pub run_bound : (events : List (Event E)) (w : World S P B) → ((x : ℕ) → Bounded (w.hosts x).mode)
      → (x : ℕ) → Bounded ((run m w events).hosts x).mode
  unfolding run
  run_bound [] w ok x = ok x
  run_bound (ev ∷ events) w ok x =
      run_bound events (happened m w (meaning m w ev)) (happened_bound w (meaning m w ev) ok) x

  pub new_bound : (origin : ℕ) (g : S) (x : ℕ) → Bounded (new_host m origin g x).mode
  new_bound origin g x = either Bounded (x == origin) (Run 0 g) (Empty 0) (λ _. tt) (λ _. tt)

  pub bound_law : CopiesAreBounded m
  unfolding CopiesAreBounded
  bound_law =
      λ g version origin count limits events x. few
      (mode_at m (run m (new_world m version origin g count limits) events) x)
      (run_bound events (new_world m version origin g count limits) (new_bound origin g) x)
