-- Moves are numbered below 2^64.
use Rattle.std.proofs.Common.{◌≡◌, inl, inr, ℕ, suc, ◌-◌, ◌<◌, ◌≤◌, ◌==◌, ◌^◌, Bool, true, false, ◌&&◌, nat_lt, nat_le, List, [], ◌∷◌, length, Option, Some, None, refl, subst, arith}
use Rattle.std.specs.Prelude.{if◌then◌else◌, set, slice_get}
use Rattle.std.proofs.lemmas.Bool.{eqb-false, ltb-false, ltb-true}
use Rattle.rvm_protocol.specs.Commands.{Command, Board, Begin, Copy, Resend, AbortMove, HostEvent, Do, Came, is_allowed}
use Rattle.rvm_protocol.specs.Frames.{Addressed, Frame, Offer, Accept, Refuse, Page, Zero, RoundEnd, Lost, State, Ready, Go, Started, Abort, Part, is_compact, made_as, plain, posted, written}
use Rattle.rvm_protocol.specs.Guest.{Guest}
use Rattle.rvm_protocol.specs.Host.{Host, addressee, is_heard, is_there, obey_at, outcome, partner_then}
use Rattle.rvm_protocol.specs.Modes.{Mode, Empty, Run, Offering, Copying, Stopped, Given, Staging, Held, Outcome, ignores, move_of, says, sends, refuses}
use Rattle.rvm_protocol.specs.Obeying.{obey, begun, begin, begin_allowed, copy_page, sends_page, copy_last, sends_last, resend_last}
use Rattle.rvm_protocol.specs.Pages.{gathered, members, put, size}
use Rattle.rvm_protocol.specs.Receiving.{came, guest_read, of_this_move, offer_above, offered, part_came, part_kept, pieces_joined, state_came, state_compared}
use Rattle.rvm_protocol.specs.Replies.{Accepted, BadState, Stored, Stopping, SeqSpent, EpochsSpent, Lacking, BadSize, BadHost, Declined}
use Rattle.rvm_protocol.specs.Rounds.{Rounds, Last, next_page, stopped, to_copy}
use Rattle.rvm_protocol.specs.Staging.{Stage, lacks, takes_part, with_part}
use Rattle.rvm_protocol.specs.World.{World, Event, At, Deliver, Has, and_sent, frame_for, happened, meaning, new_world, result_at, run}
use Rattle.rvm_protocol.proofs.Runs.{has_got}
use Rattle.rvm_protocol.proofs.WorldInvariant.{has_either}

pub either : {X : Type 0} (Q : X → Type 0) (b : Bool) (x y : X) → (b ≡ true → Q x) → (b ≡ false → Q y)
    → Q (if b then x else y)
either Q true x y f g = f refl
either Q false x y f g = g refl

some_is : {X : Type 0} (x y : X) → Some x ≡ Some y → x ≡ y
some_is x y h = cc

module _ {P B : Type 0} where
  -- an offer has such a number; the other frames bring none to a host
  abbrev OfferIsNumbered : Frame P B → Type 0
  OfferIsNumbered (Offer k a b) = k < 2 ^ 64
  OfferIsNumbered f = Unit {0}

  abbrev MadeIsNumbered : Option (Frame P B) → Type 0
  MadeIsNumbered None = Unit {0}
  MadeIsNumbered (Some f) = OfferIsNumbered f

pub below_if : (n : ℕ) (b : Bool) → nat_lt n (2 ^ 64 - 1) ≡ b → n < 2 ^ 64 → (n == 2 ^ 64 - 1) ≡ false → suc n < 2 ^ 64
below_if n true is lt other = let below : n < 2 ^ 64 - 1 = ltb-true n (2 ^ 64 - 1) is in omega (arith, below)
below_if n false is lt other =
    let above : 2 ^ 64 - 1 ≤ n = ltb-false n (2 ^ 64 - 1) is in
    let same : n ≡ 2 ^ 64 - 1 = omega (arith, above, lt) in
    absurd (eqb-false n (2 ^ 64 - 1) other same)

module _ {S P E A B : Type 0} (m : Guest S P E A B) where
  abbrev IsNumbered : Mode S P → Type 0
  IsNumbered O = move_of O < 2 ^ 64

  abbrev Numbers : Outcome S P A B → Type 0
  Numbers o = IsNumbered o.next × MadeIsNumbered o.made

  page_numbered : (n : ℕ) (r : Rounds S) (q : Option ℕ) → n < 2 ^ 64 → Numbers (copy_page m n r q)
  page_numbered n r (Some p) ok =
      either Numbers (nat_le (2 ^ 32 - 1) r.copies) (refuses SeqSpent (Copying n r)) (sends_page m n r p)
      (λ _. (ok, tt)) (λ _. (ok, tt))
  page_numbered n r None ok = (ok, tt)

  last_numbered : (v n : ℕ) (l : Last S) (q : Option ℕ) → n < 2 ^ 64 → Numbers (copy_last m v n l q)
  last_numbered v n l (Some p) ok =
      either Numbers (nat_le (2 ^ 32 - 1) l.copies) (refuses SeqSpent (Stopped n l)) (sends_last m n l p)
      (λ _. (ok, tt)) (λ _. (ok, tt))
  last_numbered v n l None ok = either Numbers (is_compact v) _ _ (λ _. (ok, tt)) (λ _. (ok, tt))

  again_numbered : (v n : ℕ) (l : Last S) (q : Option ℕ) → n < 2 ^ 64 → Numbers (resend_last m v n l q)
  again_numbered v n l (Some p) ok = (ok, tt)
  again_numbered v n l None ok = either Numbers (is_compact v) _ _ (λ _. (ok, tt)) (λ _. (ok, tt))

  obey_numbered : (v : ℕ) (c : Command E) (O : Mode S P) → IsNumbered O → Numbers (obey m v c O)
  obey_numbered v (Board e) (Empty n) ok = (ok, tt)
  obey_numbered v (Board e) (Run n g) ok = (ok, tt)
  obey_numbered v (Board e) (Offering n g p) ok = (ok, tt)
  obey_numbered v (Board e) (Copying n r) ok = (ok, tt)
  obey_numbered v (Board e) (Stopped n l) ok = (ok, tt)
  obey_numbered v (Board e) (Given n kept) ok = (ok, tt)
  obey_numbered v (Board e) (Staging n s) ok = (ok, tt)
  obey_numbered v (Board e) (Held n g) ok = (ok, tt)
  obey_numbered v (Begin to q) (Empty n) ok = (ok, tt)
  obey_numbered v (Begin to q) (Run n g) ok =
      either Numbers (is_allowed q) (begin_allowed m q n g) (refuses BadSize (Run n g))
      (λ _. either Numbers (n == 2 ^ 64 - 1) (refuses EpochsSpent (Run n g)) (begun m q n g)
      (λ _. (ok, tt)) (λ other. (below_if n _ refl ok other, below_if n _ refl ok other)))
      (λ _. (ok, tt))
  obey_numbered v (Begin to q) (Offering n g p) ok = (ok, tt)
  obey_numbered v (Begin to q) (Copying n r) ok = (ok, tt)
  obey_numbered v (Begin to q) (Stopped n l) ok = (ok, tt)
  obey_numbered v (Begin to q) (Given n kept) ok = (ok, tt)
  obey_numbered v (Begin to q) (Staging n s) ok = (ok, tt)
  obey_numbered v (Begin to q) (Held n g) ok = (ok, tt)
  obey_numbered v Copy (Empty n) ok = (ok, tt)
  obey_numbered v Copy (Run n g) ok = (ok, tt)
  obey_numbered v Copy (Offering n g p) ok = (ok, tt)
  obey_numbered v Copy (Copying n r) ok =
      either Numbers r.stop (says Stopping (Stopped n (stopped m r))) (copy_page m n r (next_page m r))
      (λ _. (ok, tt)) (λ _. page_numbered n r (next_page m r) ok)
  obey_numbered v Copy (Stopped n l) ok = last_numbered v n l (to_copy m l) ok
  obey_numbered v Copy (Given n kept) ok = (ok, tt)
  obey_numbered v Copy (Staging n s) ok = (ok, tt)
  obey_numbered v Copy (Held n g) ok = (ok, tt)
  obey_numbered v Resend (Empty n) ok = (ok, tt)
  obey_numbered v Resend (Run n g) ok = (ok, tt)
  obey_numbered v Resend (Offering n g p) ok = (ok, ok)
  obey_numbered v Resend (Copying n r) ok = (ok, tt)
  obey_numbered v Resend (Stopped n l) ok = again_numbered v n l (to_copy m l) ok
  obey_numbered v Resend (Given n kept) ok = (ok, tt)
  obey_numbered v Resend (Staging n s) ok = (ok, tt)
  obey_numbered v Resend (Held n g) ok = (ok, tt)
  obey_numbered v AbortMove (Empty n) ok = (ok, tt)
  obey_numbered v AbortMove (Run n g) ok = (ok, tt)
  obey_numbered v AbortMove (Offering n g p) ok = (ok, tt)
  obey_numbered v AbortMove (Copying n r) ok = (ok, tt)
  obey_numbered v AbortMove (Stopped n l) ok = (ok, tt)
  obey_numbered v AbortMove (Given n kept) ok = (ok, tt)
  obey_numbered v AbortMove (Staging n s) ok = (ok, tt)
  obey_numbered v AbortMove (Held n g) ok = (ok, tt)

  equal_numbered : (n k : ℕ) (o : Outcome S P A B) (O : Mode S P) → IsNumbered O → Numbers o
      → Numbers (of_this_move m n k o O)
  equal_numbered n k o O ok h = either Numbers (n == k) o (ignores O) (λ _. h) (λ _. (ok, tt))

  above_numbered : (limit s k a b : ℕ) (O : Mode S P) → IsNumbered O → k < 2 ^ 64
      → Numbers (offer_above m s limit k a b O)
  above_numbered limit s k a b O ok new =
      either Numbers (nat_lt s k) (offered m limit k a b O) (ignores O)
      (λ _. either Numbers (nat_lt limit a) (sends (Declined limit) (Refuse k limit) O)
      (sends Accepted (Accept k) (Staging k _)) (λ _. (ok, tt)) (λ _. (new, tt)))
      (λ _. (ok, tt))

  read_numbered : (n : ℕ) (old : Stage P) (q : Option S) → n < 2 ^ 64 → Numbers (guest_read m n old q)
  read_numbered n old None ok = (ok, tt)
  read_numbered n old (Some g) ok = (ok, tt)

  state_numbered : (n : ℕ) (old s : Stage P) (ns : List ℕ) (b : B) → n < 2 ^ 64 → Numbers (state_came m n old s ns b)
  state_numbered n old s ns b ok =
      either Numbers (length ns == length s.pages) (state_compared m n old s ns b) (refuses BadState (Staging n old))
      (λ _. either Numbers (nat_lt 0 (size (lacks s ns) (length s.pages)))
      (sends (Lacking (size (lacks s ns) (length s.pages)))
      (Lost n (members (lacks s ns) 0 (length s.pages))) (Staging n s))
      (guest_read m n old (m.build s.processors b s.pages)) (λ _. (ok, tt))
      (λ _. read_numbered n old (m.build s.processors b s.pages) ok))
      (λ _. (ok, tt))

  joined_numbered : (n : ℕ) (old s : Stage P) (q : Option (List ℕ × B)) → n < 2 ^ 64
      → Numbers (pieces_joined m n old s q)
  joined_numbered n old s None ok = (ok, tt)
  joined_numbered n old s (Some z) ok = state_numbered n old s z.0 z.1 ok

  kept_numbered : (n : ℕ) (old s : Stage P) (part parts : ℕ) (q : Option (List (List ℕ))) → n < 2 ^ 64
      → Numbers (part_kept m n old s part parts q)
  kept_numbered n old s part parts None ok = (ok, tt)
  kept_numbered n old s part parts (Some xs) ok = joined_numbered n old s (m.join xs) ok

  part_numbered : (n : ℕ) (s : Stage P) (stamp part parts : ℕ) (x : List ℕ) → n < 2 ^ 64
      → Numbers (part_came m n s stamp part parts x)
  part_numbered n s stamp part parts x ok =
      let t = with_part s stamp part parts x in
      either Numbers (takes_part s stamp part parts) (part_kept m n s t part parts (gathered t.pieces 0 parts))
      (ignores (Staging n s)) (λ _. kept_numbered n s t part parts (gathered t.pieces 0 parts) ok) (λ _. (ok, tt))

  came_numbered : (limit : ℕ) (f : Frame P B) (O : Mode S P) → IsNumbered O → OfferIsNumbered f
      → Numbers (came m limit f O)
  came_numbered limit (Offer k a b) (Empty n) ok new = above_numbered limit n k a b (Empty n) ok new
  came_numbered limit (Offer k a b) (Given n kept) ok new = above_numbered limit n k a b (Given n kept) ok new
  came_numbered limit (Offer k a b) (Held n g) ok new = above_numbered limit n k a b (Held n g) ok new
  came_numbered limit (Offer k a b) (Staging n s) ok new =
      either Numbers (n == k) (sends Accepted (Accept n) (Staging n s))
      (offer_above m n limit k a b (Staging n s)) (λ _. (ok, tt))
      (λ _. above_numbered limit n k a b (Staging n s) ok new)
  came_numbered limit (Accept k) (Offering n g p) ok new = equal_numbered n k _ (Offering n g p) ok (ok, tt)
  came_numbered limit (Refuse k a) (Offering n g p) ok new = equal_numbered n k _ (Offering n g p) ok (ok, tt)
  came_numbered limit (Page k p q y) (Staging n s) ok new =
      equal_numbered n k _ (Staging n s) ok
      (either Numbers (nat_lt p (length s.pages) && nat_lt (s.have p) q)
      (says (Stored p q) (Staging n (record s { pages = set s.pages p y; have = put s.have p q })))
      (ignores (Staging n s)) (λ _. (ok, tt)) (λ _. (ok, tt)))
  came_numbered limit (RoundEnd k a b c d) (Staging n s) ok new = equal_numbered n k _ (Staging n s) ok (ok, tt)
  came_numbered limit (State k ns b) (Staging n s) ok new =
      equal_numbered n k _ (Staging n s) ok
      (state_numbered n s s ns b ok)
  came_numbered limit (Part k st i u x) (Staging n s) ok new =
      equal_numbered n k _ (Staging n s) ok
      (part_numbered n s st i u x ok)
  came_numbered limit (Part k st i u x) (Held n g) ok new = equal_numbered n k _ (Held n g) ok (ok, tt)
  came_numbered limit (State k ns b) (Held n g) ok new = equal_numbered n k _ (Held n g) ok (ok, tt)
  came_numbered limit (Lost k ps) (Stopped n l) ok new = equal_numbered n k _ (Stopped n l) ok (ok, tt)
  came_numbered limit (Ready k) (Stopped n l) ok new = equal_numbered n k _ (Stopped n l) ok (ok, tt)
  came_numbered limit (Go k) (Held n g) ok new = equal_numbered n k _ (Held n g) ok (ok, tt)
  came_numbered limit (Go k) (Run n g) ok new = equal_numbered n k _ (Run n g) ok (ok, tt)
  came_numbered limit (Started k) (Given n kept) ok new = equal_numbered n k _ (Given n kept) ok (ok, tt)
  came_numbered limit (Abort k) (Staging n s) ok new = equal_numbered n k _ (Staging n s) ok (ok, tt)
  came_numbered limit (Abort k) (Held n g) ok new = equal_numbered n k _ (Held n g) ok (ok, tt)
  came_numbered limit f O ok new = (ok, tt)

  command_numbered : (v self count : ℕ) (c : Command E) (O : Mode S P) → IsNumbered O
      → Numbers (obey_at m v self count c O)
  command_numbered v self count (Begin to q) (Run n g) ok =
      either Numbers (is_there self count to) (begin m q (Run n g)) (refuses BadHost (Run n g))
      (λ _. obey_numbered v (Begin to q) (Run n g) ok) (λ _. (ok, tt))
  command_numbered v self count c O ok = obey_numbered v c O ok

  plain_numbered : (f : Frame P B) → OfferIsNumbered f → OfferIsNumbered (plain m f)
  plain_numbered (Zero n p k) ok = tt
  plain_numbered f ok = ok

  -- an event that can come
  abbrev IsFair : HostEvent P E B → Type 0
  IsFair (Do c) = Unit {0}
  IsFair (Came y f) = OfferIsNumbered f

  outcome_numbered : (v self count limit : ℕ) (e : HostEvent P E B) (h : Host S P) → IsNumbered h.mode → IsFair e
      → Numbers (outcome m v self count limit e h)
  outcome_numbered v self count limit (Do c) h ok fair = command_numbered v self count c h.mode ok
  outcome_numbered v self count limit (Came y f) h ok fair =
      either Numbers (is_heard self count y (plain m f) h) (came m limit (plain m f) h.mode) (ignores h.mode)
      (λ _. came_numbered limit (plain m f) h.mode ok (plain_numbered f fair)) (λ _. (ok, tt))

  written_numbered : (v : ℕ) (f : Frame P B) → OfferIsNumbered f → OfferIsNumbered (written m v f)
  written_numbered v (Page n p k b) ok =
      either OfferIsNumbered (is_compact v && m.is_zeros b) (Zero n p k) (Page n p k b) (λ _. tt) (λ _. tt)
  written_numbered v f ok = ok

  -- each host, and each offer that was sent
  record AreNumbered (w : World S P B) : Type 0 where
    hosts : (x : ℕ) → IsNumbered (w.hosts x).mode
    sent : (a : Addressed P B) → Has w.sent a → OfferIsNumbered a.frame

  and_numbered : (sent : List (Addressed P B)) (v x y : ℕ) (made : Option (Frame P B)) → MadeIsNumbered made
      → ((a : Addressed P B) → Has sent a → OfferIsNumbered a.frame)
      → (a : Addressed P B) → Has (and_sent sent (posted x y (made_as m v made))) a → OfferIsNumbered a.frame
  and_numbered sent v x y None ok old a h = old a h
  and_numbered sent v x y (Some f) ok old a h =
      elim (has_either sent (record { from = x; to = y; frame = written m v f }) a h) [
        | inl b ↦ old a b
        | inr e ↦ subst (λ (z : Addressed P B). OfferIsNumbered z.frame) e (written_numbered v f ok)
      ]

  happened_numbered : (w : World S P B) (q : Option (ℕ × HostEvent P E B)) → AreNumbered w
      → ((x : ℕ) (e : HostEvent P E B) → q ≡ Some (x, e) → IsFair e) → AreNumbered (happened m w q)
  happened_numbered w None ok fair = ok
  happened_numbered w (Some (y, e)) ok fair =
      let o = outcome m w.version y w.count (w.limits y) e (w.hosts y) in
      let fine = outcome_numbered w.version y w.count (w.limits y) e (w.hosts y) (ok.hosts y) (fair y e refl) in
      record {
        hosts =
            λ x. either (λ (h : Host S P). IsNumbered h.mode) (x == y) (result_at m w y e).next (w.hosts x)
            (λ _. fine.0) (λ _. ok.hosts x);
        sent =
            and_numbered w.sent w.version y (addressee e (partner_then e o.reply (w.hosts y).partner)) o.made fine.1
            ok.sent;
      }

  frame_fair : (w : World S P B) (p : Option (Addressed P B)) → AreNumbered w
      → ((a : Addressed P B) → p ≡ Some a → Has w.sent a)
      → (x : ℕ) (e : HostEvent P E B) → frame_for m p ≡ Some (x, e) → IsFair e
  frame_fair w None ok has x e q = cc
  frame_fair w (Some a) ok has x e q =
      let s : (a.to, Came a.from a.frame) ≡ (x, e) = some_is _ _ q in
      subst (λ (z : ℕ × HostEvent P E B). IsFair z.1) s (ok.sent a (has a refl))

  command_fair : (b : Bool) (y : ℕ) (k : Command E) (x : ℕ) (e : HostEvent P E B)
      → if◌then◌else◌ {A = Option (ℕ × HostEvent P E B)} b (Some (y, Do k)) None ≡ Some (x, e) → IsFair e
  command_fair true y k x e q =
      let s : (y, Do k) ≡ (x, e) = some_is _ _ q in
      subst (λ (z : ℕ × HostEvent P E B). IsFair z.1) s tt
  command_fair false y k x e q = cc

  event_fair : (w : World S P B) (ev : Event E) → AreNumbered w
      → (x : ℕ) (e : HostEvent P E B) → meaning m w ev ≡ Some (x, e) → IsFair e
  event_fair w (At y k) ok x e q = command_fair (nat_lt y w.count) y k x e q
  event_fair w (Deliver k) ok x e q = frame_fair w (slice_get w.sent k) ok (λ a h. has_got w.sent k a h) x e q

  run_numbered : (events : List (Event E)) (w : World S P B) → AreNumbered w → AreNumbered (run m w events)
  unfolding run
  run_numbered [] w ok = ok
  run_numbered (ev ∷ events) w ok =
      run_numbered events (happened m w (meaning m w ev))
      (happened_numbered w (meaning m w ev) ok (event_fair w ev ok))

  new_numbered : (g : S) (version origin count : ℕ) (limits : ℕ → ℕ) → AreNumbered (new_world m version origin g count limits)
  unfolding Has
  new_numbered g version origin count limits =
      record {
        hosts = λ x. either IsNumbered (x == origin) (Run 0 g) (Empty 0) (λ _. omega arith) (λ _. omega arith);
        sent = λ a h. absurd h;
      }

  -- the number of the last move that a host of a world of any run knows
  pub moves_are_numbered : (g : S) (version origin count : ℕ) (limits : ℕ → ℕ) (events : List (Event E)) (x : ℕ)
      → move_of ((run m (new_world m version origin g count limits) events).hosts x).mode < 2 ^ 64
  moves_are_numbered g version origin count limits events x =
      (run_numbered events (new_world m version origin g count limits) (new_numbered g version origin count limits)).hosts x
