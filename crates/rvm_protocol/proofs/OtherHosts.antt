-- The invariant is kept by each event at the other hosts.
use Rattle.std.proofs.Common.{◌≡◌, ◌≢◌, ◌⊎◌, inl, inr, ℕ, zero, suc, ◌<◌, ◌≤◌, ◌==◌, nat_lt, ◌||◌, true, ◌&&◌, List, length, Option, Some, None, refl, sym, ap, ◌∙◌, subst, arith}
use Rattle.std.proofs.lemmas.Bool.{ltb-true, eqb-true}
use Rattle.rvm_protocol.specs.Commands.{Command, Board, Begin, Copy, Resend, AbortMove, HostEvent, Do, Came}
use Rattle.rvm_protocol.specs.Frames.{Frame, Offer, Accept, Refuse, Page, RoundEnd, Lost, State, Ready, Go, Started, Abort, Addressed, Part}
use Rattle.rvm_protocol.specs.Guest.{Guest, IsGuest}
use Rattle.rvm_protocol.specs.Host.{Host, obey_at, came_at, is_there, is_heard, is_offer_above, partner_then}
use Rattle.rvm_protocol.specs.Modes.{Mode, Empty, Run, Offering, Copying, Stopped, Given, Staging, Held, Outcome, move_of, ignores, sends}
use Rattle.rvm_protocol.specs.Obeying.{obey}
use Rattle.rvm_protocol.specs.Pages.{put}
use Rattle.rvm_protocol.specs.Receiving.{came, of_this_move, offered, offer_above}
use Rattle.rvm_protocol.specs.Replies.{Reply, Committed, Accepted, Declined}
use Rattle.rvm_protocol.specs.Told.{Told}
use Rattle.rvm_protocol.proofs.PairInvariant.{More, New, lim, own_ok, their_ok, Meet, HoldsNone, Modes, Content}
use Rattle.rvm_protocol.proofs.CurrentModes.{either}
use Rattle.rvm_protocol.proofs.OtherModes.{other_obeys, other_receives, alone}
use Rattle.rvm_protocol.proofs.Basics.{or_true, put_same, same_or, and_both}
use Rattle.rvm_protocol.proofs.OtherPages.{other_pages_came}
use Rattle.rvm_protocol.proofs.Tellings.{TellsOther, commanded_other, received_other}
use Rattle.rvm_protocol.proofs.Behind.{from_ok, GivenOk, past_ok, go_ok, their_go, past_own, their_past, their_from, from_their, from_up, own_up, below, ready_num, run_apart, apart_run, meets_apart, content_apart}
use Rattle.rvm_protocol.proofs.WorldInvariant.{put_all, Made, made_down, more_old, more_new, Pair, reach, reach_here, reach_there, Good, own_all, other_good}
use Rattle.rvm_protocol.proofs.StateCases.{state_cases, part_cases}
use Rattle.rvm_protocol.proofs.CurrentHost.{After, held_valid, same_mode, sound}

with_pred : {Q : Type 0} (a b : ℕ) → a < b → ((l : ℕ) → b ≡ suc l → Q) → Q
with_pred a zero lt f = absurd (omega arith)
with_pred a (suc b) lt f = f b refl

new_from : {X : Type 0} (Q : X → Type 0) (made : Option X) → ((f : X) → made ≡ Some f → Q f)
    → New Q made
new_from Q None h = tt
new_from Q (Some f) h = h f refl

more_cases : {X : Type 0} (F : X → Type 0) (made : Option X) (f : X) → More F made f
    → F f ⊎ (made ≡ Some f)
more_cases F None f h = inl h
more_cases F (Some g) f (inl h) = inl h
more_cases F (Some g) f (inr e) = inr (ap Some e)

module _ {S P E A B : Type 0} (m : Guest S P E A B) (laws : IsGuest m) where
  -- the hosts that aren't current
  pub none_at : (hc hd : Host S P) (H : ℕ → Host S P) (sent : List (Addressed P B)) (c d x : ℕ)
      (t : Told S) → Good m laws hc hd H sent c d t → x ≢ c → HoldsNone (H x).mode
  none_at hc hd H sent c d x t l nc =
      elim (same_or x d) [
        | inl e ↦
            subst (λ (h : Host S P). HoldsNone h.mode) (l.is_d ∙ sym (ap H e))
            (alone hc.mode hd.mode l.modes.meet)
        | inr nd ↦ (l.others x nc nd).0
      ]

  abbrev pub Behind : Mode S P → S → Mode S P → Outcome S P A B → Type 0
  Behind O g X o =
      (j : ℕ) → lim O ≡ suc j
      → Modes (Run j g) o.next (own_ok {B = B} (Run j g) X) (More (their_ok (Run j g) X) o.made)

  -- an event at a host that is behind, with no frame between it, as the partner, and the current
  -- host: as beside a host in Run
  behind_good : (hc hd : Host S P) (H : ℕ → Host S P) (sent : List (Addressed P B)) (c d : ℕ)
      (t : Told S) (x z p' : ℕ) (e : HostEvent P E B) (o : Outcome S P A B)
      → Good m laws hc hd H sent c d t → x ≢ c → move_of (H x).mode < lim hc.mode → (x ≡ d → z ≢ c)
      → Behind hc.mode t.guest (H x).mode o → TellsOther m e (H x).mode o
      → New (go_ok (reach H c hc.mode z)) o.made → GivenOk (reach H c hc.mode p') o.next
      → After m laws H sent t x z p' e o
  behind_good hc hd H sent c d t x z p' e o l nc lt far i tells go given =
      with_pred (move_of (H x).mode) (lim hc.mode) lt λ j is.
      let g = t.guest in
      let O = hc.mode in
      let X = (H x).mode in
      let X' = o.next in
      let h' : Host S P = record { mode = X'; partner = p' } in
      let w = i j is in
      let behind = apart_run j X' w.meet in
      let lt' : move_of X' < lim O = (let z = behind.1 in omega (arith, z, is)) in
      let le : move_of X ≤ move_of X' = below (move_of X) (move_of X') (λ k a. w.own (Go k) a) in
      let from : (f : Frame P B) → from_ok X f
      → from_ok X' f =
      from_up (Run j g) X X' (λ f a. w.their f (more_old (their_ok (Run j g) X) o.made f a)) in
      let at_d : (h : Host S P) → x ≡ d → h ≡ hd → move_of h.mode < lim O
      → move_of hd.mode < lim O =
      λ h q same a. subst (λ (v : Host S P). move_of v.mode < lim O) same a in
      let same_d : x ≡ d → H x ≡ hd = λ q. ap H q ∙ sym l.is_d in
      let lt_d : x ≡ d
      → move_of hd.mode < lim O =
      λ q. subst (λ (v : Host S P). move_of v.mode < lim O) (same_d q) lt in
      let le_d : x ≡ d
      → move_of hd.mode ≤ move_of X' =
      λ q. subst (λ (v : Host S P). move_of v.mode ≤ move_of X') (same_d q) le in
      let from_d : x ≡ d → (f : Frame P B) → from_ok hd.mode f
      → from_ok X' f =
      λ q. subst (λ (v : Host S P). (f : Frame P B) → from_ok v.mode f → from_ok X' f)
      (same_d q) from in
      let hd_at : (y : ℕ) → y ≡ d → H y ≡ hd = λ y q. ap H q ∙ sym l.is_d in
      sound m laws _ _ _ _ _ _ _
      (other_good m laws hc hd (put H x h' d) H sent c d t x z p' e o l nc refl (record {
        meet = put_all (λ y (h : Host S P). y ≡ d → Meet O h.mode) H x h'
            (λ q. meets_apart O hd.mode X' l.modes.meet (lt_d q) behind.0 lt')
            (λ y _ q. subst (λ (v : Host S P). Meet O v.mode)
            (sym (hd_at y q)) l.modes.meet) d refl;
        own = λ f h. put_all (λ y (v : Host S P). y ≡ d → own_ok O v.mode f) H x h'
            (λ q. own_up O hd.mode X' (le_d q) f (l.modes.own f h))
            (λ y _ q. subst (λ (v : Host S P). own_ok O v.mode f) (sym (hd_at y q))
            (l.modes.own f h)) d refl;
        their = λ f h. elim (made_down sent x z o.made d c f h) [
          | inl a ↦ put_all (λ y (v : Host S P). y ≡ d → their_ok O v.mode f) H x h'
              (λ q. from_their O X' f (from_d q f (their_from O hd.mode f (l.modes.their f a)))
              (their_go O hd.mode f (l.modes.their f a)))
              (λ y _ q. subst (λ (v : Host S P). their_ok O v.mode f) (sym (hd_at y q))
              (l.modes.their f a)) d refl
          | inr q ↦ absurd (far q.0 q.1)
        ];
        pages = put_all (λ y (v : Host S P). y ≡ d → Content m O v.mode (Made sent c d)) H x h'
            (λ q. content_apart m O hd.mode X' (Made sent c d) l.modes.meet (lt_d q) lt' l.pages)
            (λ y _ q. subst (λ (v : Host S P). Content m O v.mode (Made sent c d))
            (sym (hd_at y q)) l.pages) d refl;
        tells = tells;
        behind = λ _. (behind.0, lt');
        near = put_all (λ y (v : Host S P). y ≡ d → (move_of v.mode < lim O) ⊎
            (v.partner ≡ c)) H x h' (λ q. inl lt')
            (λ y _ q. subst (λ (v : Host S P). (move_of v.mode < lim O) ⊎ (v.partner ≡ c))
            (sym (hd_at y q)) l.near) d refl;
        rises = le;
        past = new_from (λ f. Pair c d x z ⊎ past_ok (lim O) f) o.made
            (λ f q. inr
            (subst (λ v. past_ok v f) (sym is)
            (their_past j g X' f behind.1 (ready_num X')
            (w.their f (more_new (their_ok (Run j g) X) o.made f q)))));
        go = go;
        given = given;
        from = λ f h. elim (more_cases (from_ok X) o.made f h) [
          | inl a ↦ from f a
          | inr q ↦
              their_from (Run j g) X' f (w.their f (more_new (their_ok (Run j g) X) o.made f q))
        ];
      }))

  -- an event at the partner, with a frame of the current host or a command, and a frame to the
  -- current host
  beside_good : (hc hd : Host S P) (H : ℕ → Host S P) (sent : List (Addressed P B)) (c d : ℕ)
      (t : Told S) (p' : ℕ) (e : HostEvent P E B) (o : Outcome S P A B) → Good m laws hc hd H sent c d t
      → Modes hc.mode o.next (own_ok hc.mode hd.mode) (More (their_ok hc.mode hd.mode) o.made)
      → Content m hc.mode o.next (Made sent c d)
      → TellsOther m e hd.mode o → (move_of o.next < lim hc.mode) ⊎ (p' ≡ c)
      → GivenOk (reach H c hc.mode p') o.next
      → After m laws H sent t d c p' e o
  beside_good hc hd H sent c d t p' e o l i pages tells near given =
      let O = hc.mode in
      let T = hd.mode in
      let X' = o.next in
      let h' : Host S P = record { mode = X'; partner = p' } in
      sound m laws _ _ _ _ _ _ _
      (other_good m laws hc hd h' H sent c d t d c p' e o l l.apart (sym (put_same H d h')) (record {
        meet = i.meet;
        own = λ f h. i.own f (l.modes.own f h);
        their = λ f h. elim (made_down sent d c o.made d c f h) [
          | inl a ↦ i.their f (more_old (their_ok O T) o.made f (l.modes.their f a))
          | inr q ↦ i.their f (more_new (their_ok O T) o.made f q.2)
        ];
        pages = pages;
        tells = subst (λ (h : Host S P). TellsOther m e h.mode o) l.is_d tells;
        behind = λ ne. absurd (ne refl);
        near = near;
        rises = subst (λ (h : Host S P). move_of h.mode ≤ move_of X') l.is_d
            (below (move_of T) (move_of X') (λ k a. i.own (Go k) a));
        past = new_from (λ f. Pair c d d c ⊎ past_ok (lim O) f) o.made
            (λ f q. inl (inr (refl, refl)));
        go = new_from (go_ok (reach H c O c)) o.made
            (λ f q. subst (λ v. go_ok v f) (sym (reach_here H c O))
            (their_go O X' f (i.their f (more_new (their_ok O T) o.made f q))));
        given = given;
        from = subst (λ (h : Host S P). (f : Frame P B) → More (from_ok h.mode) o.made f
            → from_ok X' f) l.is_d
            (λ f h. elim
            (more_cases (from_ok T) o.made f h) [
              | inl a ↦
                  from_up O T X' (λ f a. i.their f (more_old (their_ok O T) o.made f a)) f a
              | inr q ↦
                  their_from O X' f (i.their f (more_new (their_ok O T) o.made f q))
            ]);
      }))

  -- nothing happens
  idle_good : (hc hd : Host S P) (H : ℕ → Host S P) (sent : List (Addressed P B)) (c d : ℕ)
      (t : Told S) (x y : ℕ) (f : Frame P B) → Good m laws hc hd H sent c d t → x ≢ c
      → After m laws H sent t x y (H x).partner (Came y f) (ignores (H x).mode)
  idle_good hc hd H sent c d t x y f l nc =
      let h' = H x in
      let same : put H x (H x) d ≡ H d = put_all (λ w (h : Host S P). h ≡ H w) H x (H x) refl
      (λ w _. refl) d in
      sound m laws _ _ _ _ _ _ _
      (other_good m laws hc hd hd H sent c d t x y (H x).partner (Came y f) (ignores (H x).mode) l nc
      (l.is_d ∙ sym same) (record {
        meet = l.modes.meet;
        own = l.modes.own;
        their = l.modes.their;
        pages = l.pages;
        tells = record {
          guest = λ g. refl;
          paused = λ b. refl;
          held = refl;
          current =
              λ ts x. refl;
          targets = λ ts. refl;
        };
        behind = λ nd. l.others x nc nd;
        near = l.near;
        rises = omega arith;
        past = tt;
        go = tt;
        given = l.given x nc;
        from = λ f h. h;
      }))

  -- commands at other hosts
  pub obey_other : (v : ℕ) → (x count : ℕ) (k : Command E) (X : Mode S P) → HoldsNone X
      → obey_at m v x count k X ≡ obey m v k X
  obey_other v x count (Begin to q) (Run n g) h = absurd h
  obey_other v x count (Begin to q) (Empty n) h = refl
  obey_other v x count (Begin to q) (Offering n g r) h = refl
  obey_other v x count (Begin to q) (Copying n r) h = refl
  obey_other v x count (Begin to q) (Stopped n r) h = refl
  obey_other v x count (Begin to q) (Given n kept) h = refl
  obey_other v x count (Begin to q) (Staging n s) h = refl
  obey_other v x count (Begin to q) (Held n g) h = refl
  obey_other v x count (Board e) X h = refl
  obey_other v x count Copy X h = refl
  obey_other v x count Resend X h = refl
  obey_other v x count AbortMove X h = refl

  pub then_other : (v : ℕ) → (k : Command E) (X : Mode S P) (p : ℕ) → HoldsNone X
      → partner_then {P = P} {B = B} (Do k) (obey m v k X).reply p ≡ p
  then_other v (Begin to q) (Run n g) p h = absurd h
  then_other v (Begin to q) (Empty n) p h = refl
  then_other v (Begin to q) (Offering n g r) p h = refl
  then_other v (Begin to q) (Copying n r) p h = refl
  then_other v (Begin to q) (Stopped n r) p h = refl
  then_other v (Begin to q) (Given n kept) p h = refl
  then_other v (Begin to q) (Staging n s) p h = refl
  then_other v (Begin to q) (Held n g) p h = refl
  then_other v (Board e) X p h = refl
  then_other v Copy X p h = refl
  then_other v Resend X p h = refl
  then_other v AbortMove X p h = refl

  same_next : (v : ℕ) → (k : Command E) (X : Mode S P) → HoldsNone X → (obey m v k X).next ≡ X
  same_next v (Board e) (Empty n) h = refl
  same_next v (Board e) (Given n kept) h = refl
  same_next v (Board e) (Staging n s) h = refl
  same_next v (Board e) (Held n g) h = refl
  same_next v (Begin to q) (Empty n) h = refl
  same_next v (Begin to q) (Given n kept) h = refl
  same_next v (Begin to q) (Staging n s) h = refl
  same_next v (Begin to q) (Held n g) h = refl
  same_next v Copy (Empty n) h = refl
  same_next v Copy (Given n kept) h = refl
  same_next v Copy (Staging n s) h = refl
  same_next v Copy (Held n g) h = refl
  same_next v Resend (Empty n) h = refl
  same_next v Resend (Given n kept) h = refl
  same_next v Resend (Staging n s) h = refl
  same_next v Resend (Held n g) h = refl
  same_next v AbortMove (Empty n) h = refl
  same_next v AbortMove (Given n kept) h = refl
  same_next v AbortMove (Staging n s) h = refl
  same_next v AbortMove (Held n g) h = refl
  same_next v c (Run n g) h = absurd h
  same_next v c (Offering n g p) h = absurd h
  same_next v c (Copying n r) h = absurd h
  same_next v c (Stopped n l) h = absurd h

  go_obeyed : (v : ℕ) → (l : ℕ) (k : Command E) (X : Mode S P) → HoldsNone X → GivenOk l X
      → New (go_ok {P = P} {B = B} l) (obey m v k X).made
  go_obeyed v l (Board e) (Empty n) h q = tt
  go_obeyed v l (Board e) (Given n kept) h q = tt
  go_obeyed v l (Board e) (Staging n s) h q = tt
  go_obeyed v l (Board e) (Held n g) h q = tt
  go_obeyed v l (Begin to r) (Empty n) h q = tt
  go_obeyed v l (Begin to r) (Given n kept) h q = tt
  go_obeyed v l (Begin to r) (Staging n s) h q = tt
  go_obeyed v l (Begin to r) (Held n g) h q = tt
  go_obeyed v l Copy (Empty n) h q = tt
  go_obeyed v l Copy (Given n kept) h q = tt
  go_obeyed v l Copy (Staging n s) h q = tt
  go_obeyed v l Copy (Held n g) h q = tt
  go_obeyed v l Resend (Empty n) h q = tt
  go_obeyed v l Resend (Given n kept) h q = q
  go_obeyed v l Resend (Staging n s) h q = tt
  go_obeyed v l Resend (Held n g) h q = tt
  go_obeyed v l AbortMove (Empty n) h q = tt
  go_obeyed v l AbortMove (Given n kept) h q = tt
  go_obeyed v l AbortMove (Staging n s) h q = tt
  go_obeyed v l AbortMove (Held n g) h q = tt
  go_obeyed v l c (Run n g) h q = absurd h
  go_obeyed v l c (Offering n g p) h q = absurd h
  go_obeyed v l c (Copying n r) h q = absurd h
  go_obeyed v l c (Stopped n r) h q = absurd h

  pub other_do : (v : ℕ)
      → (hc hd : Host S P) (H : ℕ → Host S P) (sent : List (Addressed P B)) (c d : ℕ) (t : Told S)
      (x : ℕ) (k : Command E) → Good m laws hc hd H sent c d t → x ≢ c
      → After m laws H sent t x (H x).partner (H x).partner (Do k) (obey m v k (H x).mode)
  other_do v hc hd H sent c d t x k l nc =
      let X = (H x).mode in
      let p = (H x).partner in
      let o = obey m v k X in
      let none = none_at hc hd H sent c d x t l nc in
      let given = subst (λ w. GivenOk (reach H c hc.mode p) w) (sym (same_next v k X none))
      (l.given x nc) in
      let far : move_of X < lim hc.mode → (x ≡ d → p ≢ c)
      → After m laws H sent t x p p (Do k) o = λ lt q.
      behind_good hc hd H sent c d t x p p (Do k) o l nc lt q
      (λ j is. let g = t.guest in let run = run_apart j X none
      (omega (arith, is, lt)) in other_obeys m v k (Run j g) X (own_ok (Run j g) X)
      (their_ok (Run j g) X) (own_all m laws (Run j g) X run))
      (commanded_other m x v k (Run (move_of X) t.guest) X
      (run_apart (move_of X) X none (omega arith)))
      (go_obeyed v (reach H c hc.mode p) k X none (l.given x nc)) given in
      elim (same_or x d) [
        | inr nd ↦ far (l.others x nc nd).1 (λ e. absurd (nd e))
        | inl e ↦ elim (same_or p c) [
          | inr np ↦ far
              (elim l.near [
                | inl lt ↦
                    subst (λ (h : Host S P). move_of h.mode < lim hc.mode)
                    (l.is_d ∙ sym (ap H e)) lt
                | inr q ↦
                    absurd (np (ap (λ (h : Host S P). h.partner) (ap H e ∙ sym l.is_d) ∙ q))
              ])
              (λ _. np)
          | inl pc ↦
              let is : H x ≡ hd = ap H e ∙ sym l.is_d in
              let T = hd.mode in
              subst (λ w. After m laws H sent t w p p (Do k) o) (sym e)
              (subst (λ w. After m laws H sent t d w p (Do k) o) (sym pc)
              (subst (λ (h : Host S P). After m laws H sent t d c p (Do k) (obey m v k h.mode)) (sym is)
              (beside_good hc hd H sent c d t p (Do k) (obey m v k T) l
              (other_obeys m v k hc.mode T (own_ok hc.mode T) (their_ok hc.mode T)
              (own_all m laws hc.mode T l.modes.meet))
              (subst (λ w. Content m hc.mode w (Made sent c d))
              (sym (same_mode m laws v k hc.mode T l.modes.meet)) l.pages)
              (commanded_other m x v k hc.mode T l.modes.meet) (inr pc)
              (subst (λ (h : Host S P). GivenOk (reach H c hc.mode p)
              (obey m v k h.mode).next) is given))))
        ]
      ]

  -- frames that come to other hosts
  abbrev pub NoCommit : Reply A → Type 0
  NoCommit (Committed n) = ⊥
  NoCommit r = Unit {0}

  abbrev pub CameOk : (ℕ → ℕ) → (l p y : ℕ) → Frame P B → Outcome S P A B → Type 0
  CameOk L l p y f o =
      New (go_ok {P = P} {B = B} l) o.made × GivenOk
      (L (partner_then {E = E} (Came y f) o.reply p)) o.next × NoCommit o.reply

  equal_ok : (L : ℕ → ℕ) (l p y : ℕ) (f : Frame P B) (n k : ℕ) (o : Outcome S P A B) (X : Mode S P)
      → GivenOk (L p) X → CameOk L l p y f o → CameOk L l p y f (of_this_move m n k o X)
  equal_ok L l p y f n k o X q h =
      either (CameOk L l p y f) (n == k) o (ignores X) (λ _. h) (λ _. (tt, q, tt))

  above_ok : (L : ℕ → ℕ) (l p y limit s k a b : ℕ) (X : Mode S P) → GivenOk (L p) X
      → CameOk L l p y (Offer k a b) (offer_above m s limit k a b X)
  above_ok L l p y limit s k a b X q =
      either (CameOk L l p y (Offer k a b)) (nat_lt s k) (offered m limit k a b X) (ignores X)
      (λ _. either (CameOk L l p y (Offer k a b)) (nat_lt limit a)
      (sends (Declined limit) (Refuse k limit) X) (sends Accepted (Accept k) (Staging k _))
      (λ _. (tt, q, tt)) (λ _. (tt, tt, tt)))
      (λ _. (tt, q, tt))

  pub came_ok : (L : ℕ → ℕ) (l p y limit : ℕ) (f : Frame P B) (X : Mode S P) → HoldsNone X
      → GivenOk (L p) X → CameOk L l p y f (came m limit f X)
  came_ok L l p y limit (Offer k a b) (Empty n) h q = above_ok L l p y limit n k a b (Empty n) q
  came_ok L l p y limit (Offer k a b) (Given n kept) h q = above_ok L l p y limit n k a b (Given n kept) q
  came_ok L l p y limit (Offer k a b) (Held n g) h q = above_ok L l p y limit n k a b (Held n g) q
  came_ok L l p y limit (Offer k a b) (Staging n s) h q =
      either (CameOk L l p y (Offer k a b)) (n == k) (sends Accepted (Accept n) (Staging n s))
      (offer_above m n limit k a b (Staging n s)) (λ _. (tt, tt, tt))
      (λ _. above_ok L l p y limit n k a b (Staging n s) q)
  came_ok L l p y limit (Page k i j b) (Staging n s) h q =
      equal_ok L l p y (Page k i j b) n k _ (Staging n s) q
      (either (CameOk L l p y (Page k i j b)) (nat_lt i (length s.pages) && nat_lt (s.have i) j) _
      (ignores (Staging n s)) (λ _. (tt, tt, tt)) (λ _. (tt, tt, tt)))
  came_ok L l p y limit (RoundEnd k a b c d) (Staging n s) h q =
      equal_ok L l p y (RoundEnd k a b c d) n k _ (Staging n s) q (tt, tt, tt)
  came_ok L l p y limit (State k ns b) (Staging n s) h q =
      equal_ok L l p y (State k ns b) n k _ (Staging n s) q
      (state_cases m (CameOk L l p y (State k ns b)) n s s ns b (tt, tt, tt) (tt, tt, tt)
      (λ g _ _. (tt, tt, tt)))
  came_ok L l p y limit (Part k st i u x) (Staging n s) h q =
      equal_ok L l p y (Part k st i u x) n k _ (Staging n s) q
      (part_cases m (CameOk L l p y (Part k st i u x)) n s st i u x (tt, tt, tt) (tt, tt, tt)
      (λ _. (tt, tt, tt)) (λ _ ns. (tt, tt, tt)) (λ _ xs ns b g _ _ _ _. (tt, tt, tt)))
  came_ok L l p y limit (Part k st i u x) (Held n g) h q =
      equal_ok L l p y (Part k st i u x) n k _ (Held n g) q (tt, tt, tt)
  came_ok L l p y limit (State k ns b) (Held n g) h q =
      equal_ok L l p y (State k ns b) n k _ (Held n g) q (tt, tt, tt)
  came_ok L l p y limit (Go k) (Held n g) h q =
      equal_ok L l p y (Go k) n k _ (Held n g) q (tt, tt, tt)
  came_ok L l p y limit (Started k) (Given n kept) h q =
      equal_ok L l p y (Started k) n k _ (Given n kept) q (tt, tt, tt)
  came_ok L l p y limit (Abort k) (Staging n s) h q =
      equal_ok L l p y (Abort k) n k _ (Staging n s) q (tt, tt, tt)
  came_ok L l p y limit (Abort k) (Held n g) h q =
      equal_ok L l p y (Abort k) n k _ (Held n g) q (tt, tt, tt)
  came_ok L l p y limit (Accept k) (Offering n g r) h q = absurd h
  came_ok L l p y limit (Refuse k a) (Offering n g r) h q = absurd h
  came_ok L l p y limit (Lost k ps) (Stopped n r) h q = absurd h
  came_ok L l p y limit (Ready k) (Stopped n r) h q = absurd h
  came_ok L l p y limit (Go k) (Run n g) h q = absurd h
  came_ok L l p y limit f X h q = (tt, q, tt)

  -- after an offer from the current host
  abbrev pub NearOk : ℕ → (p c : ℕ) → Frame P B → Outcome S P A B → Type 0
  NearOk l p c f o = (move_of o.next < l) ⊎ (partner_then {E = E} (Came c f) o.reply p ≡ c)

  above_near : (l p c limit s k a b : ℕ) (X : Mode S P) → move_of X < l
      → NearOk l p c (Offer k a b) (offer_above m s limit k a b X)
  above_near l p c limit s k a b X lt =
      either (NearOk l p c (Offer k a b)) (nat_lt s k) (offered m limit k a b X) (ignores X)
      (λ _. either (NearOk l p c (Offer k a b)) (nat_lt limit a)
      (sends (Declined limit) (Refuse k limit) X) (sends Accepted (Accept k) (Staging k _))
      (λ _. inl lt) (λ _. inr refl))
      (λ _. inl lt)

  near_offer : (l p c limit k a b : ℕ) (X : Mode S P) → move_of X < l
      → NearOk l p c (Offer k a b) (came m limit (Offer k a b) X)
  near_offer l p c limit k a b (Empty n) lt = above_near l p c limit n k a b (Empty n) lt
  near_offer l p c limit k a b (Given n kept) lt = above_near l p c limit n k a b (Given n kept) lt
  near_offer l p c limit k a b (Held n g) lt = above_near l p c limit n k a b (Held n g) lt
  near_offer l p c limit k a b (Staging n s) lt =
      either (NearOk l p c (Offer k a b)) (n == k) (sends Accepted (Accept n) (Staging n s))
      (offer_above m n limit k a b (Staging n s)) (λ _. inr refl)
      (λ _. above_near l p c limit n k a b (Staging n s) lt)
  near_offer l p c limit k a b (Run n g) lt = inl lt
  near_offer l p c limit k a b (Offering n g r) lt = inl lt
  near_offer l p c limit k a b (Copying n r) lt = inl lt
  near_offer l p c limit k a b (Stopped n r) lt = inl lt

  near_came : (l p c limit : ℕ) (f : Frame P B) (X : Mode S P) → move_of X < l
      → is_offer_above (move_of X) f ≡ true → NearOk l p c f (came m limit f X)
  near_came l p c limit (Offer k a b) X lt h = near_offer l p c limit k a b X lt
  near_came l p c limit f X lt h = cc

  then_partner : (y p c : ℕ) (f : Frame P B) (r : Reply A) → y ≡ c → p ≡ c
      → partner_then {E = E} (Came y f) r p ≡ c
  then_partner y p c f Accepted e q = e
  then_partner y p c f r e q = q

  offer_behind : (l n : ℕ) (f : Frame P B) → past_ok l f → is_offer_above n f ≡ true → n < l
  offer_behind l n (Offer k a b) h q = let lt : n < k = ltb-true n k q in omega arith
  offer_behind l n f h q = cc

  heard_other : (hc hd : Host S P) (H : ℕ → Host S P) (sent : List (Addressed P B)) (c d : ℕ)
      (t : Told S) (x y limit : ℕ) (f : Frame P B) → Good m laws hc hd H sent c d t → x ≢ c
      → Made sent y x f → (y ≡ (H x).partner) ⊎ (is_offer_above (move_of (H x).mode) f ≡ true)
      → After m laws H sent t x y
      (partner_then {E = E} (Came y f) (came m limit f (H x).mode).reply (H x).partner)
      (Came y f) (came m limit f (H x).mode)
  heard_other hc hd H sent c d t x y limit f l nc h heard =
      let X = (H x).mode in
      let p = (H x).partner in
      let O = hc.mode in
      let o = came m limit f X in
      let p' = partner_then {E = E} (Came y f) o.reply p in
      let none = none_at hc hd H sent c d x t l nc in
      let ok = came_ok (reach H c O) (reach H c O y) p y limit f X none (l.given x nc) in
      let far : move_of X < lim O → past_ok (lim O) f → (x ≡ d → y ≢ c)
      → After m laws H sent t x y p' (Came y f) o = λ lt past q.
      behind_good hc hd H sent c d t x y p' (Came y f) o l nc lt q
      (λ j is. let g = t.guest in let run = run_apart j X none (omega (arith, is, lt)) in
      let mine : own_ok (Run j g) X f = past_own j g X f (subst (λ v. past_ok v f) is past)
      (subst (λ v. go_ok v f) (reach_there H c O x nc) (l.took y x f h)) in
      other_receives m limit f (Run j g) X (own_ok (Run j g) X) (their_ok (Run j g) X) mine
      (own_all m laws (Run j g) X run))
      (with_pred (move_of X) (lim O) lt
      (λ j is. let g = t.guest in let run = run_apart j X none (omega (arith, is, lt)) in
      let mine : own_ok (Run j g) X f = past_own j g X f (subst (λ v. past_ok v f) is past)
      (subst (λ v. go_ok v f) (reach_there H c O x nc) (l.took y x f h)) in
      received_other m y limit f (Run j g) X (own_ok (Run j g) X) (their_ok (Run j g) X) mine
      (own_all m laws (Run j g) X run)))
      ok.0 ok.1 in
      elim (same_or x d) [
        | inr nd ↦
            far (l.others x nc nd).1
            (elim (l.past y x f h) [
              | inl q ↦ absurd
                  (elim q [ inl v ↦ nd v.1 | inr v ↦ nc v.1 ])
              | inr q ↦ q
            ]) (λ e. absurd (nd e))
        | inl e ↦
            let is : H x ≡ hd = ap H e ∙ sym l.is_d in
            elim (same_or y c) [
              | inr ny ↦
                  let past : past_ok (lim O) f = elim
                  (l.past y x f h) [
                    | inl q ↦
                        absurd (elim q [ inl v ↦ ny v.0 | inr v ↦ nc v.1 ])
                    | inr q ↦ q
                  ] in
                  far (elim l.near [
                    | inl lt ↦ subst (λ (v : Host S P). move_of v.mode < lim O) (sym is) lt
                    | inr q ↦ elim heard [
                      | inl w ↦ absurd (ny (w ∙ ap (λ (v : Host S P). v.partner) is ∙ q))
                      | inr w ↦ offer_behind (lim O) (move_of X) f past w
                    ]
                  ]) past (λ _. ny)
              | inl yc ↦
                  let T = hd.mode in
                  let h' : Made sent c d f = subst (λ v. Made sent c v f) e
                  (subst (λ v. Made sent v x f) yc h) in
                  let near : (move_of (came m limit f T).next < lim O) ⊎
                  (partner_then {E = E} (Came c f) (came m limit f T).reply p ≡ c) =
                  elim heard [
                    | inl w ↦ inr (then_partner c p c f (came m limit f T).reply refl (sym w ∙ yc))
                    | inr w ↦ elim l.near [
                      | inl lt ↦
                          near_came (lim O) p c limit f T lt
                          (subst (λ (v : Host S P). is_offer_above (move_of v.mode) f ≡ true) is w)
                      | inr q ↦
                          inr (then_partner c p c f (came m limit f T).reply refl
                          (ap (λ (v : Host S P). v.partner) is ∙ q))
                    ]
                  ] in
                  let given : GivenOk
                  (reach H c O (partner_then {E = E} (Came c f) (came m limit f T).reply p))
                  (came m limit f T).next =
                  (came_ok (reach H c O) (reach H c O c) p c limit f T (alone O T l.modes.meet)
                  (subst (λ (v : Host S P). GivenOk (reach H c O p) v.mode) is
                  (l.given x nc))).1 in
                  let i = own_all m laws O T l.modes.meet in
                  subst (λ w. After m laws H sent t w y p' (Came y f) o) (sym e)
                  (subst (λ w. After m laws H sent t d w (partner_then {E = E} (Came w f) o.reply p)
                  (Came w f) o) (sym yc)
                  (subst (λ (v : Host S P). After m laws H sent t d c
                  (partner_then {E = E} (Came c f) (came m limit f v.mode).reply p) (Came c f)
                  (came m limit f v.mode)) (sym is)
                  (beside_good hc hd H sent c d t
                  (partner_then {E = E} (Came c f) (came m limit f T).reply p) (Came c f)
                  (came m limit f T) l
                  (other_receives m limit f O T (own_ok O T) (their_ok O T) (l.modes.own f h') i)
                  (other_pages_came m laws limit f O T (Made sent c d) (Made sent d c) h' l.modes l.pages
                  (held_valid m laws O t.guest l.guest l.valid))
                  (received_other m c limit f O T (own_ok O T) (their_ok O T) (l.modes.own f h') i)
                  near given)))
            ]
      ]

  pub other_came : (hc hd : Host S P) (H : ℕ → Host S P) (sent : List (Addressed P B)) (c d : ℕ)
      (t : Told S) (x y count limit : ℕ) (f : Frame P B) → Good m laws hc hd H sent c d t → x ≢ c
      → Made sent y x f
      → After m laws H sent t x y
      (partner_then {E = E} (Came y f) (came_at m x count limit y f (H x)).reply (H x).partner)
      (Came y f) (came_at m x count limit y f (H x))
  other_came hc hd H sent c d t x y count limit f l nc h =
      either (λ (o : Outcome S P A B). After m laws H sent t x y
      (partner_then {E = E} (Came y f) o.reply (H x).partner) (Came y f) o)
      (is_heard x count y f (H x)) (came m limit f (H x).mode) (ignores (H x).mode)
      (λ e. let both = and_both (is_there x count y)
      ((y == (H x).partner) || is_offer_above (move_of (H x).mode) f) e in
      heard_other hc hd H sent c d t x y limit f l nc h
      (elim (or_true (y == (H x).partner) (is_offer_above (move_of (H x).mode) f) both.1) [
        | inl q ↦
            inl (eqb-true y (H x).partner q)
        | inr q ↦ inr q
      ]))
      (λ _. idle_good hc hd H sent c d t x y f l nc)
