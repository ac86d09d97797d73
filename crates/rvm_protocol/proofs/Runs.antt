-- The invariant is kept by each event of a world, so it holds in whole runs.
use Rattle.std.proofs.Common.{◌≡◌, ◌≢◌, inl, inr, ℕ, zero, suc, ◌<◌, ◌==◌, nat_lt, Bool, true, false, if◌then◌else◌, List, [], ◌∷◌, ◌++◌, Option, Some, None, refl, sym, ap, subst, arith}
use Rattle.std.specs.Prelude.{slice_get}
use Rattle.std.proofs.lemmas.Bool.{eq-eqb, ne_eqb}
use Rattle.rvm_protocol.specs.Commands.{Command, HostEvent, Do, Came}
use Rattle.rvm_protocol.specs.Frames.{Addressed, posted, Zero, read, plain}
use Rattle.rvm_protocol.specs.Guest.{Guest, IsGuest}
use Rattle.rvm_protocol.specs.Host.{Host, obey_at, came_at, partner_then, outcome, addressee}
use Rattle.rvm_protocol.specs.Modes.{Mode, Empty, Run, move_of}
use Rattle.rvm_protocol.specs.Obeying.{obey}
use Rattle.rvm_protocol.specs.Pages.{put}
use Rattle.rvm_protocol.specs.Told.{Told, told, told_reply, at_start}
use Rattle.rvm_protocol.specs.World.{World, Event, At, Deliver, Entry, and_sent, world_at, result_at, happened, entry_of, meaning, frame_for, run, history, new_host, new_world, Has}
use Rattle.rvm_protocol.proofs.PairInvariant.{HoldsNone}
use Rattle.rvm_protocol.proofs.CurrentModes.{either}
use Rattle.rvm_protocol.proofs.Basics.{some_is, same_or}
use Rattle.rvm_protocol.proofs.Behind.{GivenOk}
use Rattle.rvm_protocol.proofs.WorldInvariant.{Made, reach, made_new}
use Rattle.rvm_protocol.specs.Shown.{is_held}
use Rattle.rvm_protocol.proofs.ReadFrames.{has_read, read_sent}
use Rattle.rvm_protocol.proofs.CurrentHost.{After, Obeyed, Sound, current_came, current_obeys, sound}
use Rattle.rvm_protocol.proofs.OtherHosts.{none_at, obey_other, other_came, other_do, then_other}

pub has_got : {X : Type 0} (xs : List X) (k : ℕ) (x : X) → slice_get xs k ≡ Some x → Has xs x
unfolding Has
has_got [] k x h = cc
has_got (z ∷ xs) zero x h = inl (some_is z x h)
has_got (z ∷ xs) (suc k) x h = inr (has_got xs k x h)

module _ {S P E A B : Type 0} (m : Guest S P E A B) (laws : IsGuest m) where
  -- one event of the world; frames are as they are read
  abbrev pub SoundAt : World S P B → Told S → Type 0
  SoundAt w t = Sound m laws w.hosts (read m w.sent) t

  -- a frame that comes was sent to this host
  abbrev pub Allowed : World S P B → ℕ → HostEvent P E B → Type 0
  Allowed w x (Do k) = Unit {0}
  Allowed w x (Came y f) = Made (read m w.sent) y x (plain m f)

  outcome_sound : (w : World S P B) (x : ℕ) (e : HostEvent P E B) (t : Told S) → Allowed w x e
      → SoundAt w t
      → After m laws w.hosts (read m w.sent) t x
      (addressee e
      (partner_then e (outcome m w.version x w.count (w.limits x) e (w.hosts x)).reply
      (w.hosts x).partner))
      (partner_then e (outcome m w.version x w.count (w.limits x) e (w.hosts x)).reply
      (w.hosts x).partner) e (outcome m w.version x w.count (w.limits x) e (w.hosts x))
  outcome_sound w x (Do k) t h s =
      let l = s.good in
      let sent = read m w.sent in
      elim (same_or x s.c) [
        | inl e ↦
            subst (λ z. Obeyed m laws w.hosts sent t z (w.hosts z).partner k
            (obey_at m w.version z w.count k (w.hosts z).mode)) (sym e)
            (current_obeys m laws w.version k (w.hosts s.c).mode (w.hosts s.c).partner w.count
            (w.hosts s.d) w.hosts sent s.c s.d t l)
        | inr n ↦
            let X = (w.hosts x).mode in
            let none = none_at m laws (w.hosts s.c) (w.hosts s.d) w.hosts sent s.c s.d x t l n in
            subst (λ o. Obeyed m laws w.hosts sent t x (w.hosts x).partner k o)
            (sym (obey_other m laws w.version x w.count k X none))
            (subst (λ z. After m laws w.hosts sent t x z z (Do k) (obey m w.version k X))
            (sym (then_other m laws w.version k X (w.hosts x).partner none))
            (other_do m laws w.version (w.hosts s.c) (w.hosts s.d) w.hosts sent s.c s.d t x k l n))
      ]
  outcome_sound w x (Came y g) t h s =
      let l = s.good in
      let sent = read m w.sent in
      let f = plain m g in
      elim (same_or x s.c) [
        | inl e ↦
            subst (λ z. After m laws w.hosts sent t z y (partner_then {E = E} (Came y f)
            (came_at m z w.count (w.limits z) y f (w.hosts z)).reply (w.hosts z).partner) (Came y f)
            (came_at m z w.count (w.limits z) y f (w.hosts z))) (sym e)
            (current_came m laws (w.hosts s.c).mode (w.hosts s.c).partner w.count (w.limits s.c)
            (w.hosts s.d) w.hosts sent s.c s.d y t f l (subst (λ z. Made sent y z f) e h))
        | inr n ↦
            other_came m laws (w.hosts s.c) (w.hosts s.d) w.hosts sent s.c s.d t x y w.count
            (w.limits x) f l n h
      ]

  -- no host makes a Zero before its frames are written
  no_zero : (H : ℕ → Host S P) (sent : List (Addressed P B)) (t : Told S) (x y k p n : ℕ)
      → Sound m laws H sent t → Made sent x y (Zero k p n) → ⊥
  no_zero H sent t x y k p n s h =
      let l = s.good in
      elim (l.past x y (Zero k p n) h) [
        | inl q ↦ elim q [
          | inl e ↦
              l.modes.own (Zero k p n)
              (subst (λ z. Made sent s.c z (Zero k p n)) e.1
              (subst (λ z. Made sent z y (Zero k p n)) e.0 h))
          | inr e ↦
              l.modes.their (Zero k p n)
              (subst (λ z. Made sent s.d z (Zero k p n)) e.1
              (subst (λ z. Made sent z y (Zero k p n)) e.0 h))
        ]
        | inr q ↦ q
      ]

  -- the frames sent after an event, as they are read
  pub sent_after : (w : World S P B) (x : ℕ) (e : HostEvent P E B) (t : Told S) → Allowed w x e
      → SoundAt w t
      → read m (world_at m w x e).sent ≡ and_sent (read m w.sent)
      (posted x
      (addressee e
      (partner_then e (outcome m w.version x w.count (w.limits x) e (w.hosts x)).reply
      (w.hosts x).partner)) (outcome m w.version x w.count (w.limits x) e (w.hosts x)).made)
  sent_after w x e t h s =
      let o = outcome m w.version x w.count (w.limits x) e (w.hosts x) in
      let p = partner_then e o.reply (w.hosts x).partner in
      read_sent m laws w.version w.sent x (addressee e p) o.made
      (λ k i n same. no_zero _ _ _ x (addressee e p) k i n (outcome_sound w x e t h s)
      (made_new (read m w.sent) x (addressee e p) o.made (Zero k i n) same))

  pub step_sound : (w : World S P B) (x : ℕ) (e : HostEvent P E B) (t : Told S) → Allowed w x e
      → SoundAt w t → SoundAt (world_at m w x e) (told_reply m x e (result_at m w x e).reply t)
  step_sound w x e t h s =
      let o = outcome m w.version x w.count (w.limits x) e (w.hosts x) in
      let p = partner_then e o.reply (w.hosts x).partner in
      subst (λ z. Sound m laws (put w.hosts x (record { mode = o.next; partner = p })) z
      (told_reply m x e o.reply t)) (sym (sent_after w x e t h s)) (outcome_sound w x e t h s)

  pub told_more : (t : Told S) (xs ys : List (Entry P E A B))
      → told m t (xs ++ ys) ≡ told m (told m t xs) ys
  unfolding told
  told_more t [] ys = refl
  told_more t (x ∷ xs) ys = told_more (told_reply m x.host x.event x.reply t) xs ys

  pub happened_sound : (w : World S P B) (t : Told S) (q : Option (ℕ × HostEvent P E B))
      → ((x : ℕ) (e : HostEvent P E B) → q ≡ Some (x, e) → Allowed w x e) → SoundAt w t
      → SoundAt (happened m w q) (told m t (entry_of m w q))
  unfolding told
  happened_sound w t None h l = l
  happened_sound w t (Some y) h l = step_sound w y.0 y.1 t (h y.0 y.1 refl) l

  deliver_allowed : (w : World S P B) (p : Option (Addressed P B))
      → ((y : Addressed P B) → p ≡ Some y → Made (read m w.sent) y.from y.to (plain m y.frame))
      → (x : ℕ) (e : HostEvent P E B) → frame_for m p ≡ Some (x, e) → Allowed w x e
  deliver_allowed w None h x e q = cc
  deliver_allowed w (Some a) h x e q =
      let s : (a.to, Came a.from a.frame) ≡ (x, e) = some_is _ _ q in
      subst (λ (z : ℕ × HostEvent P E B). Allowed w z.0 z.1) s (h a refl)

  at_allowed : (w : World S P B) (b : Bool) (y : ℕ) (k : Command E) (x : ℕ) (e : HostEvent P E B)
      → if◌then◌else◌ {A = Option (ℕ × HostEvent P E B)} b (Some (y, Do k)) None ≡ Some (x, e)
      → Allowed w x e
  at_allowed w true y k x e q =
      let s : (y, Do k) ≡ (x, e) = some_is _ _ q in
      subst (λ (z : ℕ × HostEvent P E B). Allowed w z.0 z.1) s tt
  at_allowed w false y k x e q = cc

  pub event_allowed : (w : World S P B) (ev : Event E) (x : ℕ) (e : HostEvent P E B)
      → meaning m w ev ≡ Some (x, e) → Allowed w x e
  event_allowed w (At y k) x e q = at_allowed w (nat_lt y w.count) y k x e q
  event_allowed w (Deliver k) x e q =
      deliver_allowed w (slice_get w.sent k)
      (λ y h. has_read m laws w.sent y (has_got w.sent k y h)) x e q

  pub run_sound : (events : List (Event E)) (w : World S P B) (t : Told S) → SoundAt w t
      → SoundAt (run m w events) (told m t (history m w events))
  unfolding run history told
  run_sound [] w t l = l
  run_sound (ev ∷ events) w t l =
      let q = meaning m w ev in
      let next = happened_sound w t q (λ x e. event_allowed w ev x e) l in
      subst (λ z. SoundAt (run m (happened m w q) events) z)
      (sym (told_more t (entry_of m w q) (history m (happened m w q) events)))
      (run_sound events (happened m w q) (told m t (entry_of m w q)) next)

  new_origin : (origin : ℕ) (g : S) → (new_host m origin g origin).mode ≡ Run 0 g
  new_origin origin g = ap (λ (t : Bool). if t then Run 0 g else Empty 0) (eq-eqb origin origin refl)

  new_other : (origin : ℕ) (g : S) (x : ℕ) → x ≢ origin → (new_host m origin g x).mode ≡ Empty 0
  new_other origin g x n = ap (λ (t : Bool). if t then Run 0 g else Empty 0) (ne_eqb x origin n)

  pub new_sound : (version origin : ℕ) (g : S) (count : ℕ) (limits : ℕ → ℕ) → m.valid g ≡ true
      → SoundAt (new_world m version origin g count limits) (at_start origin g)
  unfolding Has read
  new_sound version origin g count limits v =
      sound m laws (record { mode = Run 0 g; partner = origin }) (record { mode = Empty 0; partner = suc origin })
      (new_host m origin g) [] origin (suc origin) (at_start origin g)
      (record {
        current = refl;
        apart = λ q. omega (arith, q);
        is_c = ap (λ (q : Mode S P). record { mode = q; partner = origin }) (sym (new_origin origin g));
        is_d = ap (λ (q : Mode S P). record { mode = q; partner = suc origin })
            (sym (new_other origin g (suc origin) (λ q. omega (arith, q))));
        partner = λ h. cc;
        modes = record { meet = omega arith; own = λ f h. absurd h; their = λ f h. absurd h };
        pages = tt;
        guest = refl;
        valid = v;
        paused = refl;
        waits = λ x. either (λ (q : Mode S P). false ≡ is_held q) (x == origin) (Run 0 g) (Empty 0)
            (λ _. refl) (λ _. refl);
        target = tt;
        others = λ x nc nd. subst (λ (q : Mode S P). HoldsNone q × (move_of q < 1))
            (sym (new_other origin g x nc)) (tt, omega arith);
        near = inl (omega arith);
        past = λ x y f h. absurd h;
        took = λ x y f h. absurd h;
        given = λ x nc. subst (λ (q : Mode S P). GivenOk (reach (new_host m origin g) origin (Run 0 g) x) q)
            (sym (new_other origin g x nc)) tt;
        from = λ x y f nc h. absurd h;
      })
