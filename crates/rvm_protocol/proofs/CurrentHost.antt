-- The invariant is kept by each event at the current host.
use Rattle.std.proofs.Common.{◌≡◌, ◌≢◌, inl, inr, ℕ, suc, ◌<◌, ◌==◌, ◌-◌, ◌^◌, nat_lt, not, ◌||◌, Bool, true, false, ◌&&◌, List, Option, Some, None, refl, sym, ap, ◌∙◌, subst, arith}
use Rattle.std.proofs.lemmas.Bool.{ltb-true, eqb-true, eq-eqb}
use Rattle.rvm_protocol.specs.Commands.{Policy, Command, Board, Begin, Copy, Resend, AbortMove, HostEvent, Do, Came, is_allowed}
use Rattle.rvm_protocol.specs.Frames.{Frame, Offer, Addressed, posted}
use Rattle.rvm_protocol.specs.Guest.{Guest, IsGuest}
use Rattle.rvm_protocol.specs.Host.{Host, obey_at, came_at, is_there, is_heard, is_offer_above, partner_then}
use Rattle.rvm_protocol.specs.Modes.{Mode, Empty, Run, Offering, Copying, Stopped, Given, Staging, Held, Outcome, move_of, ignores, refuses, guest_in}
use Rattle.rvm_protocol.specs.Obeying.{obey, begin, begin_allowed, begun}
use Rattle.rvm_protocol.specs.Pages.{put}
use Rattle.rvm_protocol.specs.Receiving.{came}
use Rattle.rvm_protocol.specs.Replies.{Reply, Committed, Accepted, BadSize, EpochsSpent, Refused, NotHere, BadHost, Ignored, Busy}
use Rattle.rvm_protocol.specs.Rounds.{Last}
use Rattle.rvm_protocol.specs.Told.{Told, told_reply}
use Rattle.rvm_protocol.specs.World.{and_sent}
use Rattle.rvm_protocol.proofs.PairInvariant.{More, own_ok, their_ok, Meet, Modes, Content}
use Rattle.rvm_protocol.proofs.CurrentModes.{either, owner_obeys, owner_receives, turned}
use Rattle.rvm_protocol.proofs.OtherModes.{alone}
use Rattle.rvm_protocol.proofs.Basics.{some_is, both_false, is_either, or_true, and_both}
use Rattle.rvm_protocol.proofs.CurrentPages.{owner_pages}
use Rattle.rvm_protocol.proofs.OtherPages.{owner_pages_came, turned_pages}
use Rattle.rvm_protocol.proofs.Tellings.{onto_same, is_stopped, aims, Tells, tells_owner, commanded, received}
use Rattle.rvm_protocol.proofs.Behind.{is_run, lim_num, meet_num, turn}
use Rattle.rvm_protocol.proofs.WorldInvariant.{Made, Good, retarget_run, own_all, owner_good, commit_good}
use Rattle.rvm_protocol.specs.Shown.{is_paused, IsTarget}

pub there_apart : (x count y : ℕ) → is_there x count y ≡ true → y ≢ x
there_apart x count y h =
    λ e. not_same (nat_lt y count) (y == x) h
    (subst (λ z. (z == x) ≡ true) (sym e) (eq-eqb x x refl))
  where
    not_same : (a b : Bool) → (a && not b) ≡ true → b ≡ true → ⊥
    not_same true true h e = cc
    not_same true false h e = cc
    not_same false b h e = cc

module _ {S P E A B : Type 0} (m : Guest S P E A B) (laws : IsGuest m) where
  -- at Committed the other host holds the board
  handed : (n : ℕ) (l : Last S) (T next : Mode S P) (F : Frame P B → Type 0) → Meet (Stopped n l) T
      → Meet T next → Content m (Stopped n l) T F
      → (guest_in T ≡ Some l.guest) × (is_paused T ≡ true)
  handed n l (Held k g) next F a b ok = (ap Some ok.held, refl)
  handed n l (Empty k) next F a b ok = absurd a
  handed n l (Run k g) next F a b ok = absurd a
  handed n l (Offering k g p) next F a b ok = absurd a
  handed n l (Copying k r) next F a b ok = absurd a
  handed n l (Stopped k q) next F a b ok = absurd a
  handed n l (Given k kept) next F a b ok = absurd a
  handed n l (Staging k s) next F a b ok = absurd b

  committed_board : (O T next : Mode S P) (F : Frame P B → Type 0) → is_stopped O ≡ true → Meet O T
      → Meet T next → Content m O T F → (guest_in T ≡ guest_in O) × (is_paused T ≡ is_paused O)
  committed_board (Stopped n l) T next F h a b ok = handed n l T next F a b ok
  committed_board (Empty n) T next F h a b ok = absurd a
  committed_board (Given n kept) T next F h a b ok = absurd a
  committed_board (Staging n s) T next F h a b ok = absurd a
  committed_board (Run n g) T next F h a b ok = cc
  committed_board (Offering n g p) T next F h a b ok = cc
  committed_board (Copying n r) T next F h a b ok = cc
  committed_board (Held n g) T next F h a b ok = cc

  pub held_valid : (O : Mode S P) (g : S) → guest_in O ≡ Some g → m.valid g ≡ true → (g' : S)
      → guest_in O ≡ Some g' → m.valid g' ≡ true
  held_valid O g is v g' same = subst (λ z. m.valid z ≡ true) (some_is g g' (sym is ∙ same)) v

  pub same_mode : (v : ℕ) → (c : Command E) (O T : Mode S P) → Meet O T → (obey m v c T).next ≡ T
  same_mode v (Board e) O (Empty n) h = refl
  same_mode v (Board e) O (Given n kept) h = refl
  same_mode v (Board e) O (Staging n s) h = refl
  same_mode v (Board e) O (Held n g) h = refl
  same_mode v (Begin to q) O (Empty n) h = refl
  same_mode v (Begin to q) O (Given n kept) h = refl
  same_mode v (Begin to q) O (Staging n s) h = refl
  same_mode v (Begin to q) O (Held n g) h = refl
  same_mode v Copy O (Empty n) h = refl
  same_mode v Copy O (Given n kept) h = refl
  same_mode v Copy O (Staging n s) h = refl
  same_mode v Copy O (Held n g) h = refl
  same_mode v Resend O (Empty n) h = refl
  same_mode v Resend O (Given n kept) h = refl
  same_mode v Resend O (Staging n s) h = refl
  same_mode v Resend O (Held n g) h = refl
  same_mode v AbortMove O (Empty n) h = refl
  same_mode v AbortMove O (Given n kept) h = refl
  same_mode v AbortMove O (Staging n s) h = refl
  same_mode v AbortMove O (Held n g) h = refl
  same_mode v c O (Run n g) h = absurd (alone O (Run n g) h)
  same_mode v c O (Offering n g p) h = absurd (alone O (Offering n g p) h)
  same_mode v c O (Copying n r) h = absurd (alone O (Copying n r) h)
  same_mode v c O (Stopped n l) h = absurd (alone O (Stopped n l) h)

  stopped_target : (O : Mode S P) (n : ℕ) (ts : ℕ → ℕ) (d : ℕ) → is_stopped O ≡ true → move_of O ≡ n
      → IsTarget ts d O → ts n ≡ d
  stopped_target (Stopped k l) n ts d h e q = ap ts (sym e) ∙ q
  stopped_target (Empty k) n ts d h e q = cc
  stopped_target (Run k g) n ts d h e q = cc
  stopped_target (Offering k g p) n ts d h e q = cc
  stopped_target (Copying k r) n ts d h e q = cc
  stopped_target (Given k kept) n ts d h e q = cc
  stopped_target (Staging k s) n ts d h e q = cc
  stopped_target (Held k g) n ts d h e q = cc

  -- some host is current and the invariant holds of it
  pub record Sound (H : ℕ → Host S P) (sent : List (Addressed P B)) (t : Told S) : Type 0 where
    pub c : ℕ
    pub d : ℕ
    pub good : Good m laws (H c) (H d) H sent c d t

  pub sound : (hc hd : Host S P) (H : ℕ → Host S P) (sent : List (Addressed P B)) (c d : ℕ)
      (t : Told S)
      → Good m laws hc hd H sent c d t → Sound H sent t
  sound hc hd H sent c d t l =
      record {
        c = c;
        d = d;
        good = subst (λ z. Good m laws z (H d) H sent c d t) l.is_c
            (subst (λ z. Good m laws hc z H sent c d t) l.is_d l);
      }

  -- what an event at x leaves
  abbrev pub After : (ℕ → Host S P) → List (Addressed P B) → Told S → (x z p' : ℕ) → HostEvent P E B
      → Outcome S P A B → Type 0
  After H sent t x z p' e o =
      Sound (put H x (record { mode = o.next; partner = p' })) (and_sent sent (posted x z o.made))
      (told_reply m x e o.reply t)

  settled : (O : Mode S P) (p : ℕ) (hd : Host S P) (H : ℕ → Host S P) (sent : List (Addressed P B))
      (c d : ℕ) (t : Told S) (f : Frame P B) (r : Reply A) (made : Option (Frame P B))
      (O' : Mode S P) (p' : ℕ) → Good m laws (record { mode = O; partner = p }) hd H sent c d t
      → turned m hd.mode (own_ok O hd.mode) (their_ok O hd.mode) r O' made
      → turned_pages m laws hd.mode (Made sent c d) (Made sent d c) r O' made
      → tells_owner m (Came d f) O r O' → p' ≡ d
      → Sound (put H c (record { mode = O'; partner = p' })) (and_sent sent (posted c d made))
      (told_reply m c (Came d f) r t)
  settled O p hd H sent c d t f (Committed n) made O' p' l i ok tells par =
      let u = turn O hd.mode O' tells.0 l.modes.meet i.meet in
      sound _ _ _ _ _ _ _
      (commit_good m laws O p hd H sent c d t f n made O' p' l u i ok
      (committed_board O hd.mode O' (Made sent c d) tells.0 l.modes.meet i.meet l.pages) tells.1
      (stopped_target O n t.targets d tells.0 tells.2 l.target) (u.target t.targets c)
      (elim l.near [ inl lt ↦ let a = u.there in absurd (omega (arith, a, lt)) | inr e ↦ e ]) par)
  settled O p hd H sent c d t f r made O' p' l i ok tells par =
      sound _ _ _ _ _ _ _
      (owner_good m laws O p hd H sent c d t (Came d f) r made O' p' l i ok tells tt (λ _. par))

  retarget : (O : Mode S P) (p : ℕ) (hd : Host S P) (H : ℕ → Host S P) (sent : List (Addressed P B))
      (c d y : ℕ) (t : Told S) → is_run O ≡ true
      → Good m laws (record { mode = O; partner = p }) hd H sent c d t → y ≢ c
      → Good m laws (record { mode = O; partner = p }) (H y) H sent c y t
  retarget (Run n g) p hd H sent c d y t h l ne = retarget_run m laws n g p hd H sent c d y t l ne
  retarget (Empty n) p hd H sent c d y t h l ne = cc
  retarget (Offering n g r) p hd H sent c d y t h l ne = cc
  retarget (Copying n r) p hd H sent c d y t h l ne = cc
  retarget (Stopped n q) p hd H sent c d y t h l ne = cc
  retarget (Given n kept) p hd H sent c d y t h l ne = cc
  retarget (Staging n s) p hd H sent c d y t h l ne = cc
  retarget (Held n g) p hd H sent c d y t h l ne = cc

  -- the second host is the partner
  aimed : (O : Mode S P) (p : ℕ) (hd : Host S P) (H : ℕ → Host S P) (sent : List (Addressed P B))
      (c d y : ℕ) (t : Told S) → Good m laws (record { mode = O; partner = p }) hd H sent c d t → y ≢ c
      → y ≡ p → Good m laws (record { mode = O; partner = p }) (H y) H sent c y t
  aimed O p hd H sent c d y t l ne same =
      elim (is_either (is_run O)) [
        | inl h ↦ retarget O p hd H sent c d y t h l ne
        | inr h ↦
            subst (λ z. Good m laws (record { mode = O; partner = p }) (H z) H sent c z t)
            (sym (same ∙ l.partner h))
            (subst (λ z. Good m laws (record { mode = O; partner = p }) z H sent c d t) l.is_d l)
      ]

  then_same : (y p : ℕ) (f : Frame P B) (r : Reply A) → y ≡ p
      → partner_then {E = E} (Came y f) r p ≡ y
  then_same y p f Accepted e = refl
  then_same y p f r e = sym e

  -- a frame of its partner at the current host
  partner_came : (O : Mode S P) (p limit : ℕ) (hd : Host S P) (H : ℕ → Host S P)
      (sent : List (Addressed P B)) (c d y : ℕ) (t : Told S) (f : Frame P B)
      → Good m laws (record { mode = O; partner = p }) hd H sent c d t → Made sent y c f → y ≢ c → y ≡ p
      → After H sent t c y (partner_then {E = E} (Came y f) (came m limit f O).reply p) (Came y f)
      (came m limit f O)
  partner_came O p limit hd H sent c d y t f l h ne same =
      let l = aimed O p hd H sent c d y t l ne same in
      let T = (H y).mode in
      let i = own_all m laws O T l.modes.meet in
      let o = came m limit f O in
      settled O p (H y) H sent c y t f o.reply o.made o.next _ l
      (owner_receives m limit f O T (own_ok O T) (their_ok O T) (l.modes.their f h) i)
      (owner_pages_came m laws limit f O T (Made sent c y) (Made sent y c) h l.modes l.pages)
      (received m y limit f O T (own_ok O T) (their_ok O T) (l.modes.their f h) i)
      (then_same y p f o.reply same)

  -- no offer above the current host's number is under way to it
  no_offer : (hc hd : Host S P) (H : ℕ → Host S P) (sent : List (Addressed P B)) (c d y : ℕ)
      (t : Told S) (f : Frame P B) → Good m laws hc hd H sent c d t → Made sent y c f → y ≢ c
      → is_offer_above (move_of hc.mode) f ≡ true → ⊥
  no_offer hc hd H sent c d y t (Offer k a b) l h ne q =
      let lt : move_of hc.mode < k = ltb-true (move_of hc.mode) k q in
      elim (l.past y c (Offer k a b) h) [
        | inl e ↦ elim e [
          | inl v ↦ absurd (ne v.0)
          | inr v ↦
              let z : k < suc (move_of hd.mode) = l.modes.their (Offer k a b)
              (subst (λ w. Made sent w c (Offer k a b)) v.0 h) in let w =
              meet_num hc.mode hd.mode l.modes.meet in absurd (omega (arith, w))
        ]
        | inr z ↦ let w = (lim_num hc.mode).1 in absurd (omega (arith, w))
      ]
  no_offer hc hd H sent c d y t f l h ne q = cc

  quiet : (y : ℕ) (f : Frame P B) (O : Mode S P) → Tells m (Came y f) O (Refused Ignored) O
  quiet y f O =
      record {
        guest = onto_same (guest_in O);
        paused = refl;
        held = refl;
        current =
            λ ts x. refl;
        target = λ ts d a t. t;
      }

  pub current_came : (O : Mode S P) (p count limit : ℕ) (hd : Host S P) (H : ℕ → Host S P)
      (sent : List (Addressed P B)) (c d y : ℕ) (t : Told S) (f : Frame P B)
      → Good m laws (record { mode = O; partner = p }) hd H sent c d t → Made sent y c f
      → After H sent t c y
      (partner_then {E = E} (Came y f)
      (came_at m c count limit y f (record { mode = O; partner = p })).reply p) (Came y f)
      (came_at m c count limit y f (record { mode = O; partner = p }))
  current_came O p count limit hd H sent c d y t f l h =
      let Q = λ (o : Outcome S P A B). After H sent t c y
      (partner_then {E = E} (Came y f) o.reply p) (Came y f) o in
      either Q (is_heard c count y f (record { mode = O; partner = p })) (came m limit f O)
      (ignores O)
      (λ e. let both = and_both (is_there c count y) ((y == p) || is_offer_above (move_of O) f) e in
      let ne = there_apart c count y both.0 in
      elim (or_true (y == p) (is_offer_above (move_of O) f) both.1) [
        | inl q ↦ partner_came O p limit hd H sent c d y t f l h ne (eqb-true y p q)
        | inr q ↦ absurd (no_offer (record { mode = O; partner = p }) hd H sent c d y t f l h ne q)
      ])
      (λ _. sound _ _ _ _ _ _ _
      (owner_good m laws O p hd H sent c d t (Came y f) (Refused Ignored) None O p l
      (own_all m laws O hd.mode l.modes.meet) l.pages (quiet y f O) tt l.partner))

  -- commands at the current host
  abbrev pub NoBegin : Command E → Type 0
  NoBegin (Begin to q) = ⊥
  NoBegin k = Unit {0}

  run_quiet : (v : ℕ) → (k : Command E) (n : ℕ) (g : S) → NoBegin k
      → ((obey m v k (Run n g)).made ≡ None) × (is_run (obey m v k (Run n g)).next ≡ true)
  run_quiet v (Board e) n g h = (refl, refl)
  run_quiet v (Begin to q) n g h = absurd h
  run_quiet v Copy n g h = (refl, refl)
  run_quiet v Resend n g h = (refl, refl)
  run_quiet v AbortMove n g h = (refl, refl)

  abbrev pub Obeyed : (ℕ → Host S P) → List (Addressed P B) → Told S → (c p : ℕ) → Command E
      → Outcome S P A B → Type 0
  Obeyed H sent t c p k o =
      After H sent t c (partner_then {P = P} {B = B} (Do k) o.reply p)
      (partner_then {P = P} {B = B} (Do k) o.reply p) (Do k) o

  -- d is the partner, or nothing is sent
  obeyed : (v : ℕ)
      → (k : Command E) (O : Mode S P) (p p' : ℕ) (hd : Host S P) (H : ℕ → Host S P)
      (sent : List (Addressed P B)) (c d : ℕ) (t : Told S)
      → Good m laws (record { mode = O; partner = p }) hd H sent c d t
      → ((to : ℕ) (q : Policy) → k ≡ Begin to q → to ≡ d)
      → posted c p' (obey m v k O).made ≡ posted c d (obey m v k O).made
      → (is_run (obey m v k O).next ≡ false → p' ≡ d)
      → After H sent t c p' p' (Do k) (obey m v k O)
  obeyed v k O p p' hd H sent c d t l aim post par =
      let T = hd.mode in
      let o = obey m v k O in
      subst (λ z. Sound (put H c (record { mode = o.next; partner = p' })) (and_sent sent z)
      (told_reply m c (Do k) o.reply t)) (sym post)
      (sound _ _ _ _ _ _ _
      (owner_good m laws O p hd H sent c d t (Do k) o.reply o.made o.next p' l
      (owner_obeys m v k O T (own_ok O T) (their_ok O T) (own_all m laws O T l.modes.meet))
      (owner_pages m laws v k O T (Made sent c d) (Made sent d c) l.modes l.pages)
      (commanded m v k O) (aims_at k aim) par))
    where
      aims_at : (k : Command E) → ((to : ℕ) (q : Policy) → k ≡ Begin to q → to ≡ d)
          → aims m (Do k) d
      aims_at (Begin to q) aim = aim to q refl
      aims_at (Board e) aim = tt
      aims_at Copy aim = tt
      aims_at Resend aim = tt
      aims_at AbortMove aim = tt

  -- a command other than Begin, and Begin where the host isn't in Run
  obeyed_as : (v : ℕ)
      → (k : Command E) (O : Mode S P) (p : ℕ) (hd : Host S P) (H : ℕ → Host S P)
      (sent : List (Addressed P B)) (c d : ℕ) (t : Told S)
      → Good m laws (record { mode = O; partner = p }) hd H sent c d t → NoBegin k
      → After H sent t c p p (Do k) (obey m v k O)
  obeyed_as v k O p hd H sent c d t l nb =
      obeyed v k O p p hd H sent c d t l (λ to q e. absurd (subst NoBegin e nb)) (post O k l nb)
      (stays O k l nb)
    where
      post : (O : Mode S P) (k : Command E)
          → Good m laws (record { mode = O; partner = p }) hd H sent c d t → NoBegin k
          → posted c p (obey m v k O).made ≡ posted c d (obey m v k O).made
      post (Run n g) k l nb =
          ap (posted c p) (run_quiet v k n g nb).0 ∙ sym (ap (posted c d) (run_quiet v k n g nb).0)
      post (Empty n) k l nb = ap (λ z. posted c z (obey m v k (Empty n)).made) (l.partner refl)
      post (Offering n g r) k l nb =
          ap (λ z. posted c z (obey m v k (Offering n g r)).made) (l.partner refl)
      post (Copying n r) k l nb =
          ap (λ z. posted c z (obey m v k (Copying n r)).made) (l.partner refl)
      post (Stopped n q) k l nb =
          ap (λ z. posted c z (obey m v k (Stopped n q)).made) (l.partner refl)
      post (Given n kept) k l nb = ap (λ z. posted c z (obey m v k (Given n kept)).made) (l.partner refl)
      post (Staging n s) k l nb =
          ap (λ z. posted c z (obey m v k (Staging n s)).made) (l.partner refl)
      post (Held n g) k l nb = ap (λ z. posted c z (obey m v k (Held n g)).made) (l.partner refl)

      stays : (O : Mode S P) (k : Command E)
          → Good m laws (record { mode = O; partner = p }) hd H sent c d t → NoBegin k
          → is_run (obey m v k O).next ≡ false → p ≡ d
      stays (Run n g) k l nb h =
          absurd (both_false (is_run (obey m v k (Run n g)).next) (run_quiet v k n g nb).1 h)
      stays (Empty n) k l nb h = l.partner refl
      stays (Offering n g r) k l nb h = l.partner refl
      stays (Copying n r) k l nb h = l.partner refl
      stays (Stopped n q) k l nb h = l.partner refl
      stays (Given n kept) k l nb h = l.partner refl
      stays (Staging n s) k l nb h = l.partner refl
      stays (Held n g) k l nb h = l.partner refl

  -- one outcome of Begin
  begun_as : (to : ℕ) (q : Policy) (n : ℕ) (g : S) (p : ℕ) (hd : Host S P) (H : ℕ → Host S P)
      (sent : List (Addressed P B)) (c d : ℕ) (t : Told S)
      → Good m laws (record { mode = Run n g; partner = p }) hd H sent c d t → (o : Outcome S P A B)
      → (Modes o.next hd.mode (More (own_ok (Run n g) hd.mode) o.made)
      (their_ok (Run n g) hd.mode)) × Content m o.next hd.mode
      (More (Made sent c d) o.made) × Tells m (Do (Begin to q)) (Run n g) o.reply o.next
      → to ≡ d → (p' : ℕ) → (is_run o.next ≡ false → p' ≡ d)
      → posted c p' o.made ≡ posted c d o.made → After H sent t c p' p' (Do (Begin to q)) o
  begun_as to q n g p hd H sent c d t l o f aim p' par post =
      subst (λ z. Sound (put H c (record { mode = o.next; partner = p' })) (and_sent sent z)
      (told_reply m c (Do (Begin to q)) o.reply t)) (sym post)
      (sound _ _ _ _ _ _ _
      (owner_good m laws (Run n g) p hd H sent c d t
      (Do (Begin to q)) o.reply o.made o.next p' l f.0 f.1 f.2 aim par))

  begins : (v : ℕ)
      → (to : ℕ) (q : Policy) (n : ℕ) (g : S) (p : ℕ) (hd : Host S P) (H : ℕ → Host S P)
      (sent : List (Addressed P B)) (c d : ℕ) (t : Told S)
      → Good m laws (record { mode = Run n g; partner = p }) hd H sent c d t → to ≡ d
      → Obeyed H sent t c p (Begin to q) (begin m q (Run n g))
  begins v to q n g p hd H sent c d t l aim =
      let T = hd.mode in
      let O : Mode S P = Run n g in
      let Facts = λ (o : Outcome S P A B).
      (Modes o.next T (More (own_ok O T) o.made) (their_ok O T)) × Content m o.next T
      (More (Made sent c d) o.made) × Tells m (Do (Begin to q)) O o.reply o.next in
      let Q = λ (o : Outcome S P A B). Facts o → Obeyed H sent t c p (Begin to q) o in
      let all : Facts (begin m q O) = (
        owner_obeys m v (Begin to q) O T (own_ok O T) (their_ok O T)
            (own_all m laws O T l.modes.meet),
        owner_pages m laws v (Begin to q) O T (Made sent c d)
            (Made sent d c) l.modes l.pages,
        commanded m v (Begin to q) O,
      ) in
      either Q (is_allowed q) (begin_allowed m q n g) (refuses BadSize O)
      (λ _. either Q (n == 2 ^ 64 - 1) (refuses EpochsSpent O) (begun m q n g)
      (λ _ f. begun_as to q n g p hd H sent c d t l (refuses EpochsSpent O) f aim p l.partner refl)
      (λ _ f. begun_as to q n g p hd H sent c d t l (begun m q n g) f aim to (λ _. aim)
      (ap (λ z. posted c z (begun m q n g).made) aim)))
      (λ _ f. begun_as to q n g p hd H sent c d t l (refuses BadSize O) f aim p l.partner refl)
      all

  pub current_obeys : (v : ℕ)
      → (k : Command E) (O : Mode S P) (p count : ℕ) (hd : Host S P) (H : ℕ → Host S P)
      (sent : List (Addressed P B)) (c d : ℕ) (t : Told S)
      → Good m laws (record { mode = O; partner = p }) hd H sent c d t
      → Obeyed H sent t c p k (obey_at m v c count k O)
  current_obeys v (Begin to q) (Run n g) p count hd H sent c d t l =
      either (Obeyed H sent t c p (Begin to q)) (is_there c count to) (begin m q (Run n g))
      (refuses BadHost (Run n g))
      (λ e. let ne = there_apart c count to e in begins v to q n g p (H to) H sent c to t
      (retarget_run m laws n g p hd H sent c d to t l ne) refl)
      (λ _. let l' = l in sound _ _ _ _ _ _ _
      (owner_good m laws (Run n g) p hd H sent c d t (Do Copy) (Refused BadHost) None (Run n g) p l
      (own_all m laws (Run n g) hd.mode l.modes.meet) tt
      (record {
        guest = refl;
        paused = refl;
        held = refl;
        current = λ ts x. refl;
        target =
            λ ts d a t. tt;
      }) tt l.partner))
  current_obeys v (Begin to q) (Offering n g r) p count hd H sent c d t l =
      sound _ _ _ _ _ _ _
      (owner_good m laws (Offering n g r) p hd H sent c d t (Do Copy) (Refused Busy) None
      (Offering n g r) p l (own_all m laws (Offering n g r) hd.mode l.modes.meet) l.pages
      (record {
        guest = refl;
        paused = refl;
        held = refl;
        current = λ ts x. refl;
        target =
            λ ts d a t. t;
      }) tt l.partner)
  current_obeys v (Begin to q) (Copying n r) p count hd H sent c d t l =
      sound _ _ _ _ _ _ _
      (owner_good m laws (Copying n r) p hd H sent c d t (Do Copy) (Refused Busy) None (Copying n r) p l
      (own_all m laws (Copying n r) hd.mode l.modes.meet) l.pages
      (record {
        guest = refl;
        paused = refl;
        held = refl;
        current = λ ts x. refl;
        target =
            λ ts d a t. t;
      }) tt l.partner)
  current_obeys v (Begin to q) (Stopped n r) p count hd H sent c d t l =
      sound _ _ _ _ _ _ _
      (owner_good m laws (Stopped n r) p hd H sent c d t (Do Copy) (Refused Busy) None (Stopped n r) p l
      (own_all m laws (Stopped n r) hd.mode l.modes.meet) l.pages
      (record {
        guest = refl;
        paused = refl;
        held = refl;
        current = λ ts x. refl;
        target =
            λ ts d a t. t;
      }) tt l.partner)
  current_obeys v (Begin to q) (Held n g) p count hd H sent c d t l =
      sound _ _ _ _ _ _ _
      (owner_good m laws (Held n g) p hd H sent c d t (Do Copy) (Refused NotHere) None (Held n g) p l
      (own_all m laws (Held n g) hd.mode l.modes.meet) l.pages
      (record {
        guest = refl;
        paused = refl;
        held = refl;
        current = λ ts x. refl;
        target =
            λ ts d a t. t;
      }) tt l.partner)
  current_obeys v (Begin to q) (Empty n) p count hd H sent c d t l = absurd l.modes.meet
  current_obeys v (Begin to q) (Given n kept) p count hd H sent c d t l = absurd l.modes.meet
  current_obeys v (Begin to q) (Staging n s) p count hd H sent c d t l = absurd l.modes.meet
  current_obeys v (Board e) O p count hd H sent c d t l =
      obeyed_as v (Board e) O p hd H sent c d t l tt
  current_obeys v Copy O p count hd H sent c d t l = obeyed_as v Copy O p hd H sent c d t l tt
  current_obeys v Resend O p count hd H sent c d t l = obeyed_as v Resend O p hd H sent c d t l tt
  current_obeys v AbortMove O p count hd H sent c d t l =
      obeyed_as v AbortMove O p hd H sent c d t l tt
