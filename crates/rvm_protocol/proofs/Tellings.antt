-- What a reply tells agrees with the modes.
use Rattle.std.proofs.Common.{◌≡◌, ℕ, suc, ◌<◌, ◌==◌, ◌^◌, ◌-◌, Bool, true, false, not, ◌&&◌, nat_lt, nat_le, length, Option, Some, None, refl, ap, ◌∙◌, arith}
use Rattle.std.proofs.lemmas.Bool.{ltb-true, eqb-true}
use Rattle.rvm_protocol.specs.Commands.{Command, Board, Begin, Copy, Resend, AbortMove, HostEvent, Do, Came, is_allowed}
use Rattle.rvm_protocol.specs.Frames.{Frame, Offer, Accept, Refuse, Page, RoundEnd, Lost, State, Ready, Go, Started, Abort, is_compact, Part, Zero}
use Rattle.rvm_protocol.specs.Guest.{Guest}
use Rattle.rvm_protocol.specs.Modes.{Mode, Empty, Run, Offering, Copying, Stopped, Given, Staging, Held, Outcome, ignores, says, sends, refuses, move_of, guest_in}
use Rattle.rvm_protocol.specs.Obeying.{obey, begun, begin_allowed, copy_page, sends_page, copy_last, sends_last, resend_last}
use Rattle.rvm_protocol.specs.Pages.{least}
use Rattle.rvm_protocol.specs.Receiving.{came, offered, offer_above, of_this_move}
use Rattle.rvm_protocol.specs.Replies.{Reply, Committed, Accepted, Stopping, SeqSpent, EpochsSpent, BadSize}
use Rattle.rvm_protocol.specs.Rounds.{Rounds, Last, is_skipped, to_copy, stopped, stops, round_over, next_round}
use Rattle.rvm_protocol.specs.Told.{reply_current, reply_targets, reply_paused, reply_waits, reply_guest}
use Rattle.rvm_protocol.proofs.PairInvariant.{Meet, Modes}
use Rattle.rvm_protocol.proofs.CurrentModes.{either, held_num}
use Rattle.rvm_protocol.proofs.OtherModes.{alone}
use Rattle.rvm_protocol.proofs.Basics.{put_same}
use Rattle.rvm_protocol.proofs.StateCases.{state_cases, part_cases}
use Rattle.rvm_protocol.specs.Shown.{is_paused, is_held, IsTarget}

abbrev pub onto : {X : Type 0} → (X → X) → Option X → Option X
onto f None = None
onto f (Some x) = Some (f x)

pub onto_same : {X : Type 0} (o : Option X) → o ≡ onto (λ x. x) o
onto_same None = refl
onto_same (Some x) = refl

module _ {S P : Type 0} where
  abbrev pub is_stopped : Mode S P → Bool
  is_stopped (Stopped n l) = true
  is_stopped mode = false

module _ {S P E A B : Type 0} (m : Guest S P E A B) where
  -- the target that a Begin names
  abbrev pub aims : HostEvent P E B → ℕ → Type 0
  aims (Do (Begin to p)) d = to ≡ d
  aims e d = Unit {0}

  -- at the current host, unless it commits
  pub record Tells (e : HostEvent P E B) (O : Mode S P) (r : Reply A)
      (next : Mode S P) : Type 0 where
    pub guest : guest_in next ≡ onto (reply_guest m e r) (guest_in O)
    pub paused : is_paused next ≡ reply_paused r (is_paused O)
    pub held : is_held next ≡ reply_waits r (is_held O)
    pub current : (ts : ℕ → ℕ) (x : ℕ) → reply_current r ts x ≡ x
    pub target : (ts : ℕ → ℕ) (d : ℕ) → aims e d → IsTarget ts d O
        → IsTarget (reply_targets e r ts) d next

  abbrev pub TellsKept : HostEvent P E B → Mode S P → Outcome S P A B → Type 0
  TellsKept e O o = Tells e O o.reply o.next

  abbrev pub tells_owner : HostEvent P E B → Mode S P → Reply A → Mode S P → Type 0
  tells_owner e O (Committed n) next =
      (is_stopped O ≡ true) × (is_held next ≡ is_held O) × (move_of O ≡ n)
  tells_owner e O r next = Tells e O r next

  abbrev pub TellsOwner : HostEvent P E B → Mode S P → Outcome S P A B → Type 0
  TellsOwner e O o = tells_owner e O o.reply o.next

  -- a reply of the other host tells nothing but whether it waits
  pub record TellsOther (e : HostEvent P E B) (T : Mode S P) (o : Outcome S P A B) : Type 0 where
    pub guest : (g : S) → reply_guest m e o.reply g ≡ g
    pub paused : (b : Bool) → reply_paused o.reply b ≡ b
    pub held : is_held o.next ≡ reply_waits o.reply (is_held T)
    pub current : (ts : ℕ → ℕ) (x : ℕ) → reply_current o.reply ts x ≡ x
    pub targets : (ts : ℕ → ℕ) → reply_targets e o.reply ts ≡ ts

  tells : {e : HostEvent P E B} {O : Mode S P} {r : Reply A} {next : Mode S P}
      → guest_in next ≡ onto (reply_guest m e r) (guest_in O)
      → is_paused next ≡ reply_paused r (is_paused O) → is_held next ≡ reply_waits r (is_held O)
      → ((ts : ℕ → ℕ) (x : ℕ) → reply_current r ts x ≡ x)
      → ((ts : ℕ → ℕ) (d : ℕ) → aims e d → IsTarget ts d O → IsTarget (reply_targets e r ts) d next)
      → Tells e O r next
  tells guest paused held current target =
      record { guest = guest; paused = paused; held = held; current = current; target = target }

  tells_none : {e : HostEvent P E B} {T : Mode S P} {o : Outcome S P A B}
      → ((g : S) → reply_guest m e o.reply g ≡ g) → ((b : Bool) → reply_paused o.reply b ≡ b)
      → is_held o.next ≡ reply_waits o.reply (is_held T)
      → ((ts : ℕ → ℕ) (x : ℕ) → reply_current o.reply ts x ≡ x)
      → ((ts : ℕ → ℕ) → reply_targets e o.reply ts ≡ ts) → TellsOther e T o
  tells_none guest paused held current targets =
      record { guest = guest; paused = paused; held = held; current = current; targets = targets }

  copied_told : (n : ℕ) (r : Rounds S) (q : Option ℕ)
      → TellsKept (Do Copy) (Copying n r) (copy_page m n r q)
  copied_told n r (Some p) =
      either (TellsKept (Do Copy) (Copying n r)) (nat_le (2 ^ 32 - 1) r.copies)
      (refuses SeqSpent (Copying n r)) (sends_page m n r p)
      (λ _. tells refl refl refl (λ ts x. refl) (λ ts d a t. t))
      (λ _. tells refl refl refl (λ ts x. refl) (λ ts d a t. t))
  copied_told n r None =
      record {
        guest = ap Some (either (λ (x : Rounds S). x.guest ≡ r.guest) (stops m r) (round_over m r)
            (next_round m r) (λ _. refl) (λ _. refl));
        paused = refl;
        held = refl;
        current = λ ts x. refl;
        target = λ ts d a t. t;
      }

  last_told : (v : ℕ) → (n : ℕ) (l : Last S) (q : Option ℕ)
      → TellsKept (Do Copy) (Stopped n l) (copy_last m v n l q)
  last_told v n l (Some p) =
      either (TellsKept (Do Copy) (Stopped n l)) (nat_le (2 ^ 32 - 1) l.copies)
      (refuses SeqSpent (Stopped n l)) (sends_last m n l p)
      (λ _. tells refl refl refl (λ ts x. refl) (λ ts d a t. t))
      (λ _. tells refl refl refl (λ ts x. refl) (λ ts d a t. t))
  last_told v n l None =
      either (TellsKept (Do Copy) (Stopped n l)) (is_compact v) _ _
      (λ _. tells refl refl refl (λ ts x. refl) (λ ts d a t. t))
      (λ _. tells refl refl refl (λ ts x. refl) (λ ts d a t. t))

  resent_told : (v : ℕ) → (n : ℕ) (l : Last S) (q : Option ℕ)
      → TellsKept (Do Resend) (Stopped n l) (resend_last m v n l q)
  resent_told v n l (Some p) = tells refl refl refl (λ ts x. refl) (λ ts d a t. t)
  resent_told v n l None =
      either (TellsKept (Do Resend) (Stopped n l)) (is_compact v) _ _
      (λ _. tells refl refl refl (λ ts x. refl) (λ ts d a t. t))
      (λ _. tells refl refl refl (λ ts x. refl) (λ ts d a t. t))

  pub commanded : (v : ℕ) → (c : Command E) (O : Mode S P) → TellsKept (Do c) O (obey m v c O)
  commanded v (Board e) (Empty n) = tells refl refl refl (λ ts x. refl) (λ ts d a t. t)
  commanded v (Board e) (Run n g) = tells refl refl refl (λ ts x. refl) (λ ts d a t. t)
  commanded v (Board e) (Offering n g p) = tells refl refl refl (λ ts x. refl) (λ ts d a t. t)
  commanded v (Board e) (Copying n r) = tells refl refl refl (λ ts x. refl) (λ ts d a t. t)
  commanded v (Board e) (Stopped n l) = tells refl refl refl (λ ts x. refl) (λ ts d a t. t)
  commanded v (Board e) (Given n kept) = tells refl refl refl (λ ts x. refl) (λ ts d a t. t)
  commanded v (Board e) (Staging n s) = tells refl refl refl (λ ts x. refl) (λ ts d a t. t)
  commanded v (Board e) (Held n g) = tells refl refl refl (λ ts x. refl) (λ ts d a t. t)
  commanded v (Begin to q) (Empty n) = tells refl refl refl (λ ts x. refl) (λ ts d a t. t)
  commanded v (Begin to q) (Run n g) =
      either (TellsKept (Do (Begin to q)) (Run n g)) (is_allowed q) (begin_allowed m q n g)
      (refuses BadSize (Run n g))
      (λ _. either (TellsKept (Do (Begin to q)) (Run n g)) (n == 2 ^ 64 - 1)
      (refuses EpochsSpent (Run n g)) (begun m q n g)
      (λ _. tells refl refl refl (λ ts x. refl) (λ ts d a t. t))
      (λ _. tells refl refl refl (λ ts x. refl) (λ ts d a t. put_same ts (suc n) to ∙ a)))
      (λ _. tells refl refl refl (λ ts x. refl) (λ ts d a t. t))
  commanded v (Begin to q) (Offering n g p) = tells refl refl refl (λ ts x. refl) (λ ts d a t. t)
  commanded v (Begin to q) (Copying n r) = tells refl refl refl (λ ts x. refl) (λ ts d a t. t)
  commanded v (Begin to q) (Stopped n l) = tells refl refl refl (λ ts x. refl) (λ ts d a t. t)
  commanded v (Begin to q) (Given n kept) = tells refl refl refl (λ ts x. refl) (λ ts d a t. t)
  commanded v (Begin to q) (Staging n s) = tells refl refl refl (λ ts x. refl) (λ ts d a t. t)
  commanded v (Begin to q) (Held n g) = tells refl refl refl (λ ts x. refl) (λ ts d a t. t)
  commanded v Copy (Empty n) = tells refl refl refl (λ ts x. refl) (λ ts d a t. t)
  commanded v Copy (Run n g) = tells refl refl refl (λ ts x. refl) (λ ts d a t. t)
  commanded v Copy (Offering n g p) = tells refl refl refl (λ ts x. refl) (λ ts d a t. t)
  commanded v Copy (Copying n r) =
      either (TellsKept (Do Copy) (Copying n r)) r.stop (says Stopping (Stopped n (stopped m r)))
      (copy_page m n r
      (least (λ x. r.to_send x && not (is_skipped r x)) r.scan
      (length (m.pages r.guest) - r.scan)))
      (λ _. tells refl refl refl (λ ts x. refl) (λ ts d a t. t))
      (λ _. copied_told n r _)
  commanded v Copy (Stopped n l) = last_told v n l (to_copy m l)
  commanded v Copy (Given n kept) = tells refl refl refl (λ ts x. refl) (λ ts d a t. t)
  commanded v Copy (Staging n s) = tells refl refl refl (λ ts x. refl) (λ ts d a t. t)
  commanded v Copy (Held n g) = tells refl refl refl (λ ts x. refl) (λ ts d a t. t)
  commanded v Resend (Empty n) = tells refl refl refl (λ ts x. refl) (λ ts d a t. t)
  commanded v Resend (Run n g) = tells refl refl refl (λ ts x. refl) (λ ts d a t. t)
  commanded v Resend (Offering n g p) = tells refl refl refl (λ ts x. refl) (λ ts d a t. t)
  commanded v Resend (Copying n r) = tells refl refl refl (λ ts x. refl) (λ ts d a t. t)
  commanded v Resend (Stopped n l) = resent_told v n l (to_copy m l)
  commanded v Resend (Given n kept) = tells refl refl refl (λ ts x. refl) (λ ts d a t. t)
  commanded v Resend (Staging n s) = tells refl refl refl (λ ts x. refl) (λ ts d a t. t)
  commanded v Resend (Held n g) = tells refl refl refl (λ ts x. refl) (λ ts d a t. t)
  commanded v AbortMove (Empty n) = tells refl refl refl (λ ts x. refl) (λ ts d a t. t)
  commanded v AbortMove (Run n g) = tells refl refl refl (λ ts x. refl) (λ ts d a t. t)
  commanded v AbortMove (Offering n g p) = tells refl refl refl (λ ts x. refl) (λ ts d a t. tt)
  commanded v AbortMove (Copying n r) = tells refl refl refl (λ ts x. refl) (λ ts d a t. tt)
  commanded v AbortMove (Stopped n l) = tells refl refl refl (λ ts x. refl) (λ ts d a t. tt)
  commanded v AbortMove (Given n kept) = tells refl refl refl (λ ts x. refl) (λ ts d a t. t)
  commanded v AbortMove (Staging n s) = tells refl refl refl (λ ts x. refl) (λ ts d a t. t)
  commanded v AbortMove (Held n g) = tells refl refl refl (λ ts x. refl) (λ ts d a t. t)

  module _ (y : ℕ) where
    ignored_told : (f : Frame P B) (O : Mode S P) → TellsOwner (Came y f) O (ignores O)
    ignored_told f (Empty n) = tells refl refl refl (λ ts x. refl) (λ ts d a t. t)
    ignored_told f (Run n g) = tells refl refl refl (λ ts x. refl) (λ ts d a t. t)
    ignored_told f (Offering n g p) = tells refl refl refl (λ ts x. refl) (λ ts d a t. t)
    ignored_told f (Copying n r) = tells refl refl refl (λ ts x. refl) (λ ts d a t. t)
    ignored_told f (Stopped n l) = tells refl refl refl (λ ts x. refl) (λ ts d a t. t)
    ignored_told f (Given n kept) = tells refl refl refl (λ ts x. refl) (λ ts d a t. t)
    ignored_told f (Staging n s) = tells refl refl refl (λ ts x. refl) (λ ts d a t. t)
    ignored_told f (Held n g) = tells refl refl refl (λ ts x. refl) (λ ts d a t. t)

    equal_told : (n k : ℕ) (o : Outcome S P A B) (f : Frame P B) (O : Mode S P)
        → (n ≡ k → TellsOwner (Came y f) O o) → TellsOwner (Came y f) O (of_this_move m n k o O)
    equal_told n k o f O h =
        either (TellsOwner (Came y f) O) (n == k) o (ignores O) (λ e. h (eqb-true n k e))
        (λ _. ignored_told f O)

    -- a frame that comes to the current host
    pub received : (limit : ℕ) (f : Frame P B) (O T : Mode S P) (F R : Frame P B → Type 0) → R f
        → Modes O T F R → TellsOwner (Came y f) O (came m limit f O)
    received limit (Offer k a b) (Held n g) T F R h i =
        either (TellsOwner (Came y (Offer k a b)) (Held n g)) (nat_lt n k)
        (offered m limit k a b (Held n g)) (ignores (Held n g))
        (λ e. let lt : n < k = ltb-true n k e in let le : k < suc (move_of T) = i.their
        (Offer k a b) h in let same : move_of T ≡ n = held_num n T i.meet in absurd
        (omega arith))
        (λ _. tells refl refl refl (λ ts x. refl) (λ ts d a t. t))
    received limit (Offer k a b) (Empty n) T F R h i = absurd i.meet
    received limit (Offer k a b) (Given n kept) T F R h i = absurd i.meet
    received limit (Offer k a b) (Staging n s) T F R h i = absurd i.meet
    received limit (Accept k) (Offering n g p) T F R h i =
        equal_told n k _ (Accept k) (Offering n g p) λ e. tells refl refl refl (λ ts x. refl)
        (λ ts d a t. t)
    received limit (Refuse k a) (Offering n g p) T F R h i =
        equal_told n k _ (Refuse k a) (Offering n g p) λ e. tells refl refl refl (λ ts x. refl)
        (λ ts d a t. tt)
    received limit (Lost k ps) (Stopped n l) T F R h i =
        equal_told n k _ (Lost k ps) (Stopped n l) λ e. tells refl refl refl (λ ts x. refl)
        (λ ts d a t. t)
    received limit (Ready k) (Stopped n l) T F R h i =
        equal_told n k _ (Ready k) (Stopped n l) λ e. (refl, refl, refl)
    received limit (Go k) (Run n g) T F R h i =
        equal_told n k _ (Go k) (Run n g) λ e. tells refl refl refl (λ ts x. refl) (λ ts d a t. t)
    received limit (Go k) (Held n g) T F R h i =
        equal_told n k _ (Go k) (Held n g) λ e. tells refl refl refl (λ ts x. refl) (λ ts d a t. t)
    received limit (State k ns b) (Held n g) T F R h i =
        equal_told n k _ (State k ns b) (Held n g) λ e. tells refl refl refl (λ ts x. refl)
        (λ ts d a t. t)
    received limit (Part k st j u x) (Held n g) T F R h i =
        equal_told n k _ (Part k st j u x) (Held n g) λ e. tells refl refl refl (λ ts x. refl)
        (λ ts d a t. t)
    received limit (Part k st j u x) (Staging n s) T F R h i = absurd i.meet
    received limit (Abort k) (Held n g) T F R h i =
        equal_told n k _ (Abort k) (Held n g) λ e. let lt : k < move_of T = i.their
        (Abort k) h in let same : move_of T ≡ n = held_num n T i.meet in absurd (omega arith)
    received limit (Page k p q b) (Staging n s) T F R h i = absurd i.meet
    received limit (RoundEnd k a b c d) (Staging n s) T F R h i = absurd i.meet
    received limit (State k ns b) (Staging n s) T F R h i = absurd i.meet
    received limit (Started k) (Given n kept) T F R h i = absurd i.meet
    received limit (Abort k) (Staging n s) T F R h i = absurd i.meet
    received limit (Zero k p n) O T F R h i = ignored_told (Zero k p n) O
    received limit f O T F R h i = tells refl refl refl (λ ts x. refl) (λ ts d a t. t)

    -- a command at the other host
    pub commanded_other : (v : ℕ) → (c : Command E) (O T : Mode S P) → Meet O T
        → TellsOther (Do c) T (obey m v c T)
    commanded_other v (Board e) O (Empty n) i =
        tells_none (λ g. refl) (λ b. refl) refl (λ ts x. refl) (λ ts. refl)
    commanded_other v (Board e) O (Given n kept) i =
        tells_none (λ g. refl) (λ b. refl) refl (λ ts x. refl) (λ ts. refl)
    commanded_other v (Board e) O (Staging n s) i =
        tells_none (λ g. refl) (λ b. refl) refl (λ ts x. refl) (λ ts. refl)
    commanded_other v (Board e) O (Held n g) i =
        tells_none (λ g. refl) (λ b. refl) refl (λ ts x. refl) (λ ts. refl)
    commanded_other v (Begin to q) O (Empty n) i =
        tells_none (λ g. refl) (λ b. refl) refl (λ ts x. refl) (λ ts. refl)
    commanded_other v (Begin to q) O (Given n kept) i =
        tells_none (λ g. refl) (λ b. refl) refl (λ ts x. refl) (λ ts. refl)
    commanded_other v (Begin to q) O (Staging n s) i =
        tells_none (λ g. refl) (λ b. refl) refl (λ ts x. refl) (λ ts. refl)
    commanded_other v (Begin to q) O (Held n g) i =
        tells_none (λ g. refl) (λ b. refl) refl (λ ts x. refl) (λ ts. refl)
    commanded_other v Copy O (Empty n) i =
        tells_none (λ g. refl) (λ b. refl) refl (λ ts x. refl) (λ ts. refl)
    commanded_other v Copy O (Given n kept) i =
        tells_none (λ g. refl) (λ b. refl) refl (λ ts x. refl) (λ ts. refl)
    commanded_other v Copy O (Staging n s) i =
        tells_none (λ g. refl) (λ b. refl) refl (λ ts x. refl) (λ ts. refl)
    commanded_other v Copy O (Held n g) i =
        tells_none (λ g. refl) (λ b. refl) refl (λ ts x. refl) (λ ts. refl)
    commanded_other v Resend O (Empty n) i =
        tells_none (λ g. refl) (λ b. refl) refl (λ ts x. refl) (λ ts. refl)
    commanded_other v Resend O (Given n kept) i =
        tells_none (λ g. refl) (λ b. refl) refl (λ ts x. refl) (λ ts. refl)
    commanded_other v Resend O (Staging n s) i =
        tells_none (λ g. refl) (λ b. refl) refl (λ ts x. refl) (λ ts. refl)
    commanded_other v Resend O (Held n g) i =
        tells_none (λ g. refl) (λ b. refl) refl (λ ts x. refl) (λ ts. refl)
    commanded_other v AbortMove O (Empty n) i =
        tells_none (λ g. refl) (λ b. refl) refl (λ ts x. refl) (λ ts. refl)
    commanded_other v AbortMove O (Given n kept) i =
        tells_none (λ g. refl) (λ b. refl) refl (λ ts x. refl) (λ ts. refl)
    commanded_other v AbortMove O (Staging n s) i =
        tells_none (λ g. refl) (λ b. refl) refl (λ ts x. refl) (λ ts. refl)
    commanded_other v AbortMove O (Held n g) i =
        tells_none (λ g. refl) (λ b. refl) refl (λ ts x. refl) (λ ts. refl)
    commanded_other v c O (Run n g) i = absurd (alone O (Run n g) i)
    commanded_other v c O (Offering n g p) i = absurd (alone O (Offering n g p) i)
    commanded_other v c O (Copying n r) i = absurd (alone O (Copying n r) i)
    commanded_other v c O (Stopped n l) i = absurd (alone O (Stopped n l) i)

    ignored_other : (f : Frame P B) (T : Mode S P) → TellsOther (Came y f) T (ignores T)
    ignored_other f T = tells_none (λ g. refl) (λ b. refl) refl (λ ts x. refl) (λ ts. refl)

    equal_other : (n k : ℕ) (o : Outcome S P A B) (f : Frame P B) (T : Mode S P)
        → (n ≡ k → TellsOther (Came y f) T o) → TellsOther (Came y f) T (of_this_move m n k o T)
    equal_other n k o f T h =
        either (TellsOther (Came y f) T) (n == k) o (ignores T) (λ e. h (eqb-true n k e))
        (λ _. ignored_other f T)

    above_other : (limit s k a b : ℕ) (T : Mode S P)
        → TellsOther (Came y (Offer k a b)) T (offer_above m s limit k a b T)
    above_other limit s k a b T =
        either (TellsOther (Came y (Offer k a b)) T) (nat_lt s k) (offered m limit k a b T)
        (ignores T)
        (λ _. either (TellsOther (Came y (Offer k a b)) T) (nat_lt limit a) _ _
        (λ _. tells_none (λ g. refl) (λ b. refl) refl (λ ts x. refl) (λ ts. refl))
        (λ _. tells_none (λ g. refl) (λ b. refl) refl (λ ts x. refl) (λ ts. refl)))
        (λ _. ignored_other (Offer k a b) T)

    -- a frame that comes to the other host
    pub received_other : (limit : ℕ) (f : Frame P B) (O T : Mode S P) (F R : Frame P B → Type 0)
        → F f → Modes O T F R → TellsOther (Came y f) T (came m limit f T)
    received_other limit (Offer k a b) O (Empty n) F R h i = above_other limit n k a b (Empty n)
    received_other limit (Offer k a b) O (Given n kept) F R h i = above_other limit n k a b (Given n kept)
    received_other limit (Offer k a b) O (Held n g) F R h i = above_other limit n k a b (Held n g)
    received_other limit (Offer k a b) O (Staging n s) F R h i =
        either (TellsOther (Came y (Offer k a b)) (Staging n s)) (n == k)
        (sends Accepted (Accept n) (Staging n s)) (offer_above m n limit k a b (Staging n s))
        (λ _. tells_none (λ g. refl) (λ b. refl) refl (λ ts x. refl) (λ ts. refl))
        (λ _. above_other limit n k a b (Staging n s))
    received_other limit (Page k p q b) O (Staging n s) F R h i =
        equal_other n k _ (Page k p q b) (Staging n s) λ e.
        either (TellsOther (Came y (Page k p q b)) (Staging n s))
        (nat_lt p (length s.pages) && nat_lt (s.have p) q) _ (ignores (Staging n s))
        (λ _. tells_none (λ g. refl) (λ b. refl) refl (λ ts x. refl) (λ ts. refl))
        (λ _. tells_none (λ g. refl) (λ b. refl) refl (λ ts x. refl) (λ ts. refl))
    received_other limit (RoundEnd k a b c d) O (Staging n s) F R h i =
        equal_other n k _ (RoundEnd k a b c d) (Staging n s) λ e. tells_none (λ g. refl)
        (λ b. refl) refl (λ ts x. refl) (λ ts. refl)
    received_other limit (State k ns b) O (Staging n s) F R h i =
        equal_other n k _ (State k ns b) (Staging n s) λ e.
        state_cases m (TellsOther (Came y (State k ns b)) (Staging n s)) n s s ns b
        (tells_none (λ g. refl) (λ b. refl) refl (λ ts x. refl) (λ ts. refl))
        (tells_none (λ g. refl) (λ b. refl) refl (λ ts x. refl) (λ ts. refl))
        (λ g _ _. tells_none (λ g. refl) (λ b. refl) refl (λ ts x. refl) (λ ts. refl))
    received_other limit (Part k st p u x) O (Staging n s) F R h i =
        equal_other n k _ (Part k st p u x) (Staging n s) λ e.
        part_cases m (TellsOther (Came y (Part k st p u x)) (Staging n s)) n s st p u x
        (tells_none (λ g. refl) (λ b. refl) refl (λ ts x. refl) (λ ts. refl))
        (tells_none (λ g. refl) (λ b. refl) refl (λ ts x. refl) (λ ts. refl))
        (λ _. tells_none (λ g. refl) (λ b. refl) refl (λ ts x. refl) (λ ts. refl))
        (λ _ ns. tells_none (λ g. refl) (λ b. refl) refl (λ ts x. refl) (λ ts. refl))
        (λ _ xs ns b g _ _ _ _. tells_none (λ g. refl) (λ b. refl) refl (λ ts x. refl) (λ ts. refl))
    received_other limit (Part k st p u x) O (Held n g) F R h i =
        equal_other n k _ (Part k st p u x) (Held n g) λ e. tells_none (λ g. refl) (λ b. refl) refl
        (λ ts x. refl) (λ ts. refl)
    received_other limit (State k ns b) O (Held n g) F R h i =
        equal_other n k _ (State k ns b) (Held n g) λ e. tells_none (λ g. refl) (λ b. refl) refl
        (λ ts x. refl) (λ ts. refl)
    received_other limit (Go k) O (Held n g) F R h i =
        equal_other n k _ (Go k) (Held n g) λ e. let lt : k < n = i.own (Go k) h in absurd
        (omega arith)
    received_other limit (Started k) O (Given n kept) F R h i =
        equal_other n k _ (Started k) (Given n kept) λ e. tells_none (λ g. refl) (λ b. refl) refl
        (λ ts x. refl) (λ ts. refl)
    received_other limit (Abort k) O (Staging n s) F R h i =
        equal_other n k _ (Abort k) (Staging n s) λ e. tells_none (λ g. refl) (λ b. refl) refl
        (λ ts x. refl) (λ ts. refl)
    received_other limit (Abort k) O (Held n g) F R h i =
        equal_other n k _ (Abort k) (Held n g) λ e. tells_none (λ g. refl) (λ b. refl) refl
        (λ ts x. refl) (λ ts. refl)
    received_other limit (Accept k) O (Offering n g p) F R h i =
        absurd (alone O (Offering n g p) i.meet)
    received_other limit (Refuse k a) O (Offering n g p) F R h i =
        absurd (alone O (Offering n g p) i.meet)
    received_other limit (Lost k ps) O (Stopped n l) F R h i = absurd (alone O (Stopped n l) i.meet)
    received_other limit (Ready k) O (Stopped n l) F R h i = absurd (alone O (Stopped n l) i.meet)
    received_other limit (Go k) O (Run n g) F R h i = absurd (alone O (Run n g) i.meet)
    received_other limit f O T F R h i =
        tells_none (λ g. refl) (λ b. refl) refl (λ ts x. refl) (λ ts. refl)
