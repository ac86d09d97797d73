-- The law of the one guest follows from the invariant.
use Rattle.std.proofs.Common.{◌≡◌, ◌≢◌, ◌⊎◌, inl, inr, ℕ, ◌<◌, ◌==◌, nat_lt, Bool, true, false, ◌&&◌, if◌then◌else◌, List, [], ◌∷◌, ◌++◌, Option, Some, None, refl, sym, ap, ◌∙◌, subst, arith}
use Rattle.std.proofs.lemmas.Bool.{eq-eqb, ne_eqb}
use Rattle.rvm_protocol.specs.Commands.{Board, Begin, Copy, Resend, AbortMove, HostEvent, Do, Came}
use Rattle.rvm_protocol.specs.Frames.{read}
use Rattle.rvm_protocol.specs.Guest.{Guest, IsGuest}
use Rattle.rvm_protocol.specs.Host.{Host}
use Rattle.rvm_protocol.specs.Modes.{Mode, Empty, Run, Offering, Copying, Stopped, Given, Staging, Held, move_of, guest_in}
use Rattle.rvm_protocol.specs.NeverMoving.{is_answer, accepted_here, answered_here, accepted, answered, fold, fold_answers}
use Rattle.rvm_protocol.specs.Obeying.{board}
use Rattle.rvm_protocol.specs.OneGuest.{AlwaysOneGuest, OneGuest, OneGuestFromAnyWorld}
use Rattle.rvm_protocol.specs.Replies.{Reply, Committed, Answered, Refused, Paused, NotHere, BadHost, NoFrame}
use Rattle.rvm_protocol.specs.Told.{Told, reply_guest, told, told_reply, at_start, due}
use Rattle.rvm_protocol.specs.World.{World, Event, At, Deliver, Entry, mode_at, world_at, result_at, happened, entry_of, meaning, reply_to, reply_or, run, history, new_world, step}
use Rattle.rvm_protocol.proofs.PairInvariant.{lim, Meet, HoldsNone, held_beside}
use Rattle.rvm_protocol.proofs.CurrentModes.{held_num}
use Rattle.rvm_protocol.proofs.OtherModes.{alone}
use Rattle.rvm_protocol.proofs.Basics.{some_is, is_either, same_or}
use Rattle.rvm_protocol.proofs.Behind.{is_run, GivenOk, run_apart}
use Rattle.rvm_protocol.proofs.WorldInvariant.{reach, reach_there}
use Rattle.rvm_protocol.specs.Shown.{is_paused, is_held, IsTarget, holds_current, IsCurrent, Shown, has_given}
use Rattle.rvm_protocol.proofs.OtherHosts.{none_at}
use Rattle.rvm_protocol.proofs.Runs.{Allowed, SoundAt, event_allowed, new_sound, run_sound, step_sound}

module _ {S P E A B : Type 0} (m : Guest S P E A B) (laws : IsGuest m) where
  -- the replies due to board events
  owner_due : (O T : Mode S P) (g : S) (p : Bool) (e : E) → Meet O T → guest_in O ≡ Some g
      → p ≡ is_paused O
      → (board m e O).reply ≡ (if p then Refused Paused else Answered (m.answer g e))
  owner_due (Run n q) T g p e a b c =
      ap (λ x. Answered (m.answer x e)) (some_is q g b)
      ∙ ap (λ (t : Bool). if t then Refused Paused else Answered (m.answer g e)) (sym c)
  owner_due (Offering n q r) T g p e a b c =
      ap (λ x. Answered (m.answer x e)) (some_is q g b)
      ∙ ap (λ (t : Bool). if t then Refused Paused else Answered (m.answer g e)) (sym c)
  owner_due (Copying n r) T g p e a b c =
      ap (λ x. Answered (m.answer x e)) (some_is r.guest g b)
      ∙ ap (λ (t : Bool). if t then Refused Paused else Answered (m.answer g e)) (sym c)
  owner_due (Stopped n l) T g p e a b c =
      ap (λ (t : Bool). if t then Refused Paused else Answered (m.answer g e)) (sym c)
  owner_due (Held n q) T g p e a b c =
      ap (λ (t : Bool). if t then Refused Paused else Answered (m.answer g e)) (sym c)
  owner_due (Empty n) T g p e a b c = absurd a
  owner_due (Given n kept) T g p e a b c = absurd a
  owner_due (Staging n s) T g p e a b c = absurd a

  other_due : (O T : Mode S P) (w : Bool) (e : E) → Meet O T → w ≡ is_held T
      → (board m e T).reply ≡ (if w then Refused Paused else Refused NotHere)
  other_due O (Empty n) w e a c =
      ap (λ (t : Bool). if t then Refused Paused else Refused NotHere) (sym c)
  other_due O (Given n kept) w e a c =
      ap (λ (t : Bool). if t then Refused Paused else Refused NotHere) (sym c)
  other_due O (Staging n s) w e a c =
      ap (λ (t : Bool). if t then Refused Paused else Refused NotHere) (sym c)
  other_due O (Held n g) w e a c =
      ap (λ (t : Bool). if t then Refused Paused else Refused NotHere) (sym c)
  other_due O (Run n g) w e a c = absurd (alone O (Run n g) a)
  other_due O (Offering n g p) w e a c = absurd (alone O (Offering n g p) a)
  other_due O (Copying n r) w e a c = absurd (alone O (Copying n r) a)
  other_due O (Stopped n l) w e a c = absurd (alone O (Stopped n l) a)

  no_answer : (O T : Mode S P) (e : E) → Meet O T → is_answer (board m e T).reply ≡ false
  no_answer O (Empty n) e a = refl
  no_answer O (Given n kept) e a = refl
  no_answer O (Staging n s) e a = refl
  no_answer O (Held n g) e a = refl
  no_answer O (Run n g) e a = absurd (alone O (Run n g) a)
  no_answer O (Offering n g p) e a = absurd (alone O (Offering n g p) a)
  no_answer O (Copying n r) e a = absurd (alone O (Copying n r) a)
  no_answer O (Stopped n l) e a = absurd (alone O (Stopped n l) a)

  -- the guest that the replies tell is the fold's
  fold_here : (e : HostEvent P E B) (r : Reply A) (g : S) (es : List E)
      → fold m g (accepted_here e r ++ es) ≡ fold m (reply_guest m e r g) es
  unfolding fold
  fold_here (Do (Board e)) (Answered a) g es = refl
  fold_here e r g es = refl

  pub told_guest : (past : List (Entry P E A B)) (t : Told S)
      → (told m t past).guest ≡ fold m t.guest (accepted past)
  unfolding told accepted fold
  told_guest [] t = refl
  told_guest (x ∷ xs) t =
      told_guest xs (told_reply m x.host x.event x.reply t)
      ∙ sym (fold_here x.event x.reply t.guest (accepted xs))

  -- an answer is the one due
  answered_is : (a b : A) → ◌≡◌ {A = Reply A} (Answered a) (Answered b) → a ≡ b
  answered_is a b h = cc

  committed_guest : (e : HostEvent P E B) (n : ℕ) (g : S) → reply_guest m e (Committed n) g ≡ g
  committed_guest (Do (Board e)) n g = refl
  committed_guest (Do (Begin to p)) n g = refl
  committed_guest (Do Copy) n g = refl
  committed_guest (Do Resend) n g = refl
  committed_guest (Do AbortMove) n g = refl
  committed_guest (Came y f) n g = refl

  -- the reply that a board event gets at a host
  abbrev pub due_here : Told S → ℕ → E → Reply A
  due_here t x e =
      if x == t.current then
      (if t.paused then Refused Paused else Answered (m.answer t.guest e)) else
      (if t.waiting x then Refused Paused else Refused NotHere)

  answers_at : (w : World S P B) (t : Told S) → SoundAt m laws w t → (x : ℕ) (e : E)
      → (result_at m w x (Do (Board e))).reply ≡ due_here t x e
  answers_at w t s x e =
      let l = s.good in
      elim (same_or x s.c) [
        | inl q ↦
            let is : x ≡ t.current = q ∙ sym l.current in
            ap (λ z. (board m e (w.hosts z).mode).reply) q
            ∙ owner_due (w.hosts s.c).mode
            (w.hosts s.d).mode t.guest t.paused e l.modes.meet l.guest l.paused
            ∙ ap (λ (b : Bool). if b then (if t.paused then Refused Paused else Answered
            (m.answer t.guest e)) else
            (if t.waiting x then Refused Paused else Refused NotHere))
            (sym (eq-eqb x t.current is))
        | inr n ↦
            let X = (w.hosts x).mode in
            let none = none_at m laws (w.hosts s.c) (w.hosts s.d) w.hosts
            (read m w.sent) s.c s.d x t l n in
            other_due (Run (move_of X) t.guest) X (t.waiting x) e
            (run_apart (move_of X) X none (omega arith)) (l.waits x)
            ∙ ap (λ (b : Bool). if b then (if t.paused then Refused Paused else Answered
            (m.answer t.guest e)) else
            (if t.waiting x then Refused Paused else Refused NotHere))
            (sym (ne_eqb x t.current (λ q. n (q ∙ l.current))))
      ]

  replies_at : (w : World S P B) (t : Told S) → SoundAt m laws w t → (x : ℕ) (e : E)
      → reply_to m w (At x (Board e)) ≡ due m w.count t x e
  replies_at w t s x e =
      elim (nat_lt x w.count) as
      (λ b. reply_or m w (Refused BadHost) (if b then Some (x, Do (Board e)) else None) ≡
      (if b then due_here t x e else Refused BadHost)) [
        | true ↦
            answers_at w t s x e
        | false ↦ refl
      ]

  no_answer_at : (w : World S P B) (t : Told S) (s : SoundAt m laws w t) (x : ℕ) (e : E) → x ≢ s.c
      → is_answer (reply_to m w (At x (Board e))) ≡ false
  no_answer_at w t s x e n =
      let X = (w.hosts x).mode in
      let none = none_at m laws (w.hosts s.c) (w.hosts s.d) w.hosts
      (read m w.sent) s.c s.d x t s.good n in
      elim (nat_lt x w.count) as
      (λ b. is_answer
      (reply_or m w (Refused BadHost)
      (if b then Some (x, Do (Board e)) else None)) ≡ false) [
        | true ↦
            no_answer (Run (move_of X) t.guest) X e
            (run_apart (move_of X) X none (omega arith))
        | false ↦ refl
      ]

  and_right : (a b : Bool) → b ≡ false → (a && b) ≡ false
  and_right true b h = h
  and_right false b h = refl

  one_host_at : (w : World S P B) (t : Told S) → SoundAt m laws w t → (x y : ℕ) (e f : E) → x ≢ y
      → (is_answer (reply_to m w (At x (Board e))) && is_answer
      (reply_to m w (At y (Board f)))) ≡ false
  one_host_at w t s x y e f ne =
      elim (same_or x s.c) [
        | inl q ↦ and_right _ _ (no_answer_at w t s y f (λ z. ne (q ∙ sym z)))
        | inr n ↦
            ap (λ b. b && is_answer (reply_to m w (At y (Board f)))) (no_answer_at w t s x e n)
      ]

  board_at : (w : World S P B) (t : Told S) → SoundAt m laws w t
      → guest_in (mode_at m w t.current) ≡ Some t.guest
  board_at w t s =
      subst (λ z. guest_in (mode_at m w z) ≡ Some t.guest) (sym s.good.current) s.good.guest

  -- answers
  due_answer : (t : Told S) (x : ℕ) (e : E) (a : A) → Answered a ≡ due_here t x e
      → a ≡ m.answer t.guest e
  due_answer t x e a h =
      elim (x == t.current) as
      (λ s. Answered a ≡
      (if s then (if t.paused then Refused Paused else Answered (m.answer t.guest e)) else
      (if t.waiting x then Refused Paused else Refused NotHere)) → a ≡ m.answer t.guest e) [
        | true ↦ λ h. elim t.paused as (λ s. Answered a ≡
            (if s then Refused Paused else Answered (m.answer t.guest e))
            → a ≡ m.answer t.guest e) [ true ↦ λ h. cc | false ↦ λ h. answered_is a _ h ] h
        | false ↦
            λ h. elim (t.waiting x) as
            (λ s. Answered a ≡ (if s then Refused Paused else Refused NotHere)
            → a ≡ m.answer t.guest e) [ true ↦ λ h. cc | false ↦ λ h. cc ] h
      ] h

  answers_here : (t : Told S) (x : ℕ) (e : HostEvent P E B) (r : Reply A)
      → ((k : E) → e ≡ Do (Board k) → r ≡ due_here t x k) → (es : List E) (rest : List A)
      → rest ≡ fold_answers m (reply_guest m e r t.guest) es → answered_here e r
      ++ rest ≡ fold_answers m t.guest (accepted_here e r ++ es)
  unfolding fold_answers
  answers_here t x (Do (Board e)) (Answered a) h es rest same =
      ap (λ z. z ∷ rest) (due_answer t x e a (h e refl)) ∙ ap (λ z. m.answer t.guest e ∷ z) same
  answers_here t x e r h es rest same = same

  one_answer : (events : List (Event E)) (w : World S P B) (t : Told S) → SoundAt m laws w t
      → ((w : World S P B) (t : Told S) → SoundAt m laws w t
      → answered (history m w events) ≡ fold_answers m t.guest (accepted (history m w events)))
      → (q : Option (ℕ × HostEvent P E B))
      → ((x : ℕ) (e : HostEvent P E B) → q ≡ Some (x, e) → Allowed m laws w x e)
      → answered (entry_of m w q ++ history m (happened m w q) events) ≡ fold_answers m t.guest
      (accepted (entry_of m w q ++ history m (happened m w q) events))
  unfolding answered accepted
  one_answer events w t l rest None h = rest w t l
  one_answer events w t l rest (Some y) h =
      answers_here t y.0 y.1 (result_at m w y.0 y.1).reply
      (λ k same. ap (λ z. (result_at m w y.0 z).reply) same ∙ answers_at w t l y.0 k)
      (accepted (history m (world_at m w y.0 y.1) events))
      (answered (history m (world_at m w y.0 y.1) events))
      (rest (world_at m w y.0 y.1) (told_reply m y.0 y.1 (result_at m w y.0 y.1).reply t)
      (step_sound m laws w y.0 y.1 t (h y.0 y.1 refl) l))

  run_answers : (events : List (Event E)) (w : World S P B) (t : Told S) → SoundAt m laws w t
      → answered (history m w events) ≡ fold_answers m t.guest (accepted (history m w events))
  unfolding history answered accepted fold_answers
  run_answers [] w t l = refl
  run_answers (ev ∷ events) w t l =
      one_answer events w t l (λ w t l. run_answers events w t l) (meaning m w ev)
      (λ x e. event_allowed m laws w ev x e)

  -- a commit hands over the board
  handed_at : (w : World S P B) (t : Told S) (x : ℕ) (e : HostEvent P E B) (n : ℕ) → Allowed m laws w x e
      → SoundAt m laws w t → (result_at m w x e).reply ≡ Committed n
      → guest_in (mode_at m (world_at m w x e) (t.targets n)) ≡ Some t.guest
  handed_at w t x e n h s same =
      board_at (world_at m w x e) (told_reply m x e (Committed n) t)
      (subst (λ r. SoundAt m laws (world_at m w x e) (told_reply m x e r t)) same
      (step_sound m laws w x e t h s)) ∙ ap Some (committed_guest e n t.guest)

  refused_not : (why : _) (n : ℕ) → ◌≡◌ {A = Reply A} (Refused why) (Committed n) → ⊥
  refused_not why n h = cc

  handed_for : (w : World S P B) (t : Told S) (why : _) (q : Option (ℕ × HostEvent P E B)) (n : ℕ)
      → ((x : ℕ) (e : HostEvent P E B) → q ≡ Some (x, e) → Allowed m laws w x e) → SoundAt m laws w t
      → reply_or m w (Refused why) q ≡ Committed n
      → guest_in (mode_at m (happened m w q) (t.targets n)) ≡ Some t.guest
  handed_for w t why None n h s same = absurd (refused_not why n same)
  handed_for w t why (Some y) n h s same = handed_at w t y.0 y.1 n (h y.0 y.1 refl) s same

  hands : (w : World S P B) (t : Told S) → SoundAt m laws w t → (ev : Event E) (n : ℕ)
      → reply_to m w ev ≡ Committed n
      → guest_in (mode_at m (step m w ev) (t.targets n)) ≡ Some t.guest
  hands w t s (At x k) n same =
      handed_for w t BadHost (meaning m w (At x k)) n
      (λ x' e. event_allowed m laws w (At x k) x' e) s same
  hands w t s (Deliver k) n same =
      handed_for w t NoFrame (meaning m w (Deliver k)) n
      (λ x' e. event_allowed m laws w (Deliver k) x' e) s same

  run_count : (events : List (Event E)) (w : World S P B) → (run m w events).count ≡ w.count
  unfolding run
  run_count [] w = refl
  run_count (ev ∷ events) w = run_count events (step m w ev) ∙ kept (meaning m w ev)
    where
      kept : (q : Option (ℕ × HostEvent P E B)) → (happened m w q).count ≡ w.count
      kept None = refl
      kept (Some y) = refl

  -- what the modes show
  held_shown : (e : ℕ) (c : ℕ) (hd : Host S P) → held_beside e hd.mode → hd.partner ≡ c
      → has_given e hd.mode × (hd.partner ≡ c)
  held_shown e c hd i p = (given_as hd.mode i, p)
    where
      given_as : (T : Mode S P) → held_beside e T → has_given e T
      given_as (Given k kept) h = h
      given_as (Empty k) h = absurd h
      given_as (Run k g) h = absurd h
      given_as (Offering k g r) h = absurd h
      given_as (Copying k r) h = absurd h
      given_as (Stopped k l) h = absurd h
      given_as (Staging k s) h = absurd h
      given_as (Held k g) h = absurd h

  current_shown : (O : Mode S P) (c : ℕ) (hd : Host S P) → Meet O hd.mode
      → (move_of hd.mode < lim O) ⊎ (hd.partner ≡ c) → holds_current hd c O
  current_shown (Run n g) c hd i near = tt
  current_shown (Offering n g p) c hd i near = tt
  current_shown (Copying n r) c hd i near = tt
  current_shown (Stopped n l) c hd i near = tt
  current_shown (Held n g) c hd i near =
      held_shown n c hd i
      (elim near [
        | inl lt ↦
            let q : move_of hd.mode ≡ n = held_num n hd.mode i in absurd (omega (arith, lt, q))
        | inr q ↦
            q
      ])
  current_shown (Empty n) c hd i near = absurd i
  current_shown (Given n kept) c hd i near = absurd i
  current_shown (Staging n s) c hd i near = absurd i

  run_shown : (O : Mode S P) (c : ℕ) (h h' : Host S P) → is_run O ≡ true → holds_current h c O
      → holds_current h' c O
  run_shown (Run n g) c h h' q z = tt
  run_shown (Empty n) c h h' q z = cc
  run_shown (Offering n g p) c h h' q z = cc
  run_shown (Copying n r) c h h' q z = cc
  run_shown (Stopped n l) c h h' q z = cc
  run_shown (Given n kept) c h h' q z = cc
  run_shown (Staging n s) c h h' q z = cc
  run_shown (Held n g) c h h' q z = cc

  run_target : (ts : ℕ → ℕ) (d d' : ℕ) (O : Mode S P) → is_run O ≡ true → IsTarget ts d O
      → IsTarget ts d' O
  run_target ts d d' (Run n g) q z = tt
  run_target ts d d' (Empty n) q z = cc
  run_target ts d d' (Offering n g p) q z = cc
  run_target ts d d' (Copying n r) q z = cc
  run_target ts d d' (Stopped n l) q z = cc
  run_target ts d d' (Given n kept) q z = cc
  run_target ts d d' (Staging n s) q z = cc
  run_target ts d d' (Held n g) q z = cc

  sound_shown : (w : World S P B) (t : Told S) → SoundAt m laws w t → Shown w.hosts t
  sound_shown w t s =
      let l = s.good in
      let O = (w.hosts s.c).mode in
      let here : holds_current (w.hosts s.d) s.c O = current_shown O s.c
      (w.hosts s.d) l.modes.meet l.near in
      let partner : holds_current (w.hosts (w.hosts s.c).partner) s.c O =
      elim (is_either (is_run O)) [
        | inl h ↦ run_shown O s.c (w.hosts s.d)
            (w.hosts (w.hosts s.c).partner) h here
        | inr h ↦
            subst (λ z. holds_current (w.hosts z) s.c O) (sym (l.partner h)) here
      ] in
      let target : IsTarget t.targets (w.hosts s.c).partner O =
      elim (is_either (is_run O)) [
        | inl h ↦ run_target t.targets s.d
            (w.hosts s.c).partner O h l.target
        | inr h ↦
            subst (λ z. IsTarget t.targets z O) (sym (l.partner h)) l.target
      ] in
      record {
        current = subst (λ z. IsCurrent w.hosts z) (sym l.current) partner;
        guest = board_at w t s;
        paused = subst (λ z. t.paused ≡ is_paused (w.hosts z).mode) (sym l.current) l.paused;
        waiting = l.waits;
        target = subst (λ z. IsTarget t.targets (w.hosts z).partner (w.hosts z).mode)
            (sym l.current) target;
      }

  -- only one host is current
  given_not : (X : Mode S P) (n l : ℕ) → has_given n X → GivenOk l X → n < l
  given_not (Given k kept) n l h lt = let z : k ≡ n = h in let y : k < l = lt in omega arith
  given_not (Empty k) n l h lt = absurd h
  given_not (Run k g) n l h lt = absurd h
  given_not (Offering k g p) n l h lt = absurd h
  given_not (Copying k r) n l h lt = absurd h
  given_not (Stopped k q) n l h lt = absurd h
  given_not (Staging k s) n l h lt = absurd h
  given_not (Held k g) n l h lt = absurd h

  meets_given : (O T : Mode S P) (n : ℕ) → has_given n O → Meet O T → ⊥
  meets_given (Given k kept) T n h i = i
  meets_given (Empty k) T n h i = i
  meets_given (Run k g) T n h i = h
  meets_given (Offering k g p) T n h i = h
  meets_given (Copying k r) T n h i = h
  meets_given (Stopped k q) T n h i = h
  meets_given (Staging k s) T n h i = i
  meets_given (Held k g) T n h i = h

  pub no_other : (X : Mode S P) (w : World S P B) (t : Told S) (s : SoundAt m laws w t) (x : ℕ) → x ≢ s.c
      → (w.hosts x).mode ≡ X → HoldsNone X → holds_current (w.hosts (w.hosts x).partner) x X → ⊥
  no_other (Held n g) w t s x ne is h now =
      let l = s.good in
      let p = (w.hosts x).partner in
      elim (same_or p s.c) [
        | inl q ↦
            meets_given (w.hosts s.c).mode (w.hosts s.d).mode n
            (subst (λ z. has_given n (w.hosts z).mode) q now.0) l.modes.meet
        | inr np ↦
            let lt = given_not (w.hosts p).mode n
            (reach w.hosts s.c (w.hosts s.c).mode (w.hosts p).partner) now.0 (l.given p np) in
            let r : reach w.hosts s.c (w.hosts s.c).mode (w.hosts p).partner ≡ n = ap
            (reach w.hosts s.c (w.hosts s.c).mode) now.1
            ∙ reach_there w.hosts s.c (w.hosts s.c).mode x ne ∙ ap move_of is in
            absurd (omega (arith, lt, r))
      ]
  no_other (Empty n) w t s x ne is h now = now
  no_other (Given n kept) w t s x ne is h now = now
  no_other (Staging n q) w t s x ne is h now = now
  no_other (Run n g) w t s x ne is h now = h
  no_other (Offering n g p) w t s x ne is h now = h
  no_other (Copying n r) w t s x ne is h now = h
  no_other (Stopped n q) w t s x ne is h now = h

  shown_current : (w : World S P B) (t : Told S) (s : SoundAt m laws w t) (x : ℕ) → IsCurrent w.hosts x
      → x ≡ s.c
  shown_current w t s x now =
      elim (same_or x s.c) [
        | inl q ↦ q
        | inr n ↦
            absurd (no_other (w.hosts x).mode w t s x n refl
            (none_at m laws (w.hosts s.c) (w.hosts s.d) w.hosts
            (read m w.sent) s.c s.d x t s.good n) now)
      ]

  -- whoever knows what the modes show knows enough
  pub shown_sound : (w : World S P B) (t t' : Told S) → SoundAt m laws w t → Shown w.hosts t'
      → SoundAt m laws w t'
  shown_sound w t t' s h =
      let l = s.good in
      let O = (w.hosts s.c).mode in
      let is : t'.current ≡ s.c = shown_current w t s t'.current h.current in
      let guest : guest_in O ≡ Some t'.guest = subst
      (λ z. guest_in (w.hosts z).mode ≡ Some t'.guest) is h.guest in
      let target : IsTarget t'.targets (w.hosts s.c).partner O = subst
      (λ z. IsTarget t'.targets (w.hosts z).partner (w.hosts z).mode) is h.target in
      record {
        c = s.c;
        d = s.d;
        good = record {
          current = is;
          apart = l.apart;
          is_c = l.is_c;
          is_d = l.is_d;
          partner = l.partner;
          modes = l.modes;
          pages = l.pages;
          guest = guest;
          valid = subst (λ z. m.valid z ≡ true) (some_is t.guest t'.guest
              (sym l.guest ∙ guest)) l.valid;
          paused = subst (λ z. t'.paused ≡ is_paused (w.hosts z).mode) is h.paused;
          waits = h.waiting;
          target = elim (is_either (is_run O)) [
            | inl q ↦ run_target t'.targets
                (w.hosts s.c).partner s.d O q target
            | inr q ↦
                subst (λ z. IsTarget t'.targets z O) (l.partner q) target
          ];
          others = l.others;
          near = l.near;
          past = l.past;
          took = l.took;
          given = l.given;
          from = l.from;
        };
      }

  pub one_guest : (w : World S P B) (t : Told S) (events : List (Event E)) → SoundAt m laws w t
      → OneGuest m t (run m w events) (history m w events)
  one_guest w t events start =
      let past = history m w events in
      let s = run_sound m laws events w t start in
      let is_fold : (told m t past).guest ≡ fold m t.guest (accepted past) = told_guest past t in
      record {
        board = board_at (run m w events) (told m t past) s ∙ ap Some is_fold;
        answers = run_answers events w t start;
        replies = replies_at (run m w events) (told m t past) s;
        one_host = one_host_at (run m w events) (told m t past) s;
        hands_over =
            λ ev n same. hands (run m w events) (told m t past) s ev n same ∙ ap Some is_fold;
        shown = sound_shown (run m w events) (told m t past) s;
      }

  pub the_law : AlwaysOneGuest m
  unfolding AlwaysOneGuest
  the_law =
      λ g version origin count limits events v. one_guest (new_world m version origin g count limits)
      (at_start origin g) events (new_sound m laws version origin g count limits v)

  pub the_law_from_any_world : OneGuestFromAnyWorld m
  unfolding OneGuestFromAnyWorld
  the_law_from_any_world = λ g version origin count limits before events t v h.
      let w = new_world m version origin g count limits in
      one_guest (run m w before) t events
      (shown_sound (run m w before) (told m (at_start origin g) (history m w before)) t
      (run_sound m laws before w (at_start origin g) (new_sound m laws version origin g count limits v)) h)
