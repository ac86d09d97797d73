-- The invariant of a world: one host is current, and it and its partner are as if they were alone;
-- the others are behind, and so are all frames that are not between these two. What an event keeps
-- of it.
use Rattle.std.proofs.Common.{◌≡◌, ◌≢◌, ◌⊎◌, inl, inr, ⊎_elim, ℕ, suc, ◌<◌, ◌≤◌, ◌==◌, true, false, if◌then◌else◌, List, [], ◌∷◌, ◌++◌, Option, Some, None, refl, sym, ap, ◌∙◌, subst, arith}
use Rattle.rvm_protocol.specs.Commands.{Board, HostEvent, Do, Came}
use Rattle.rvm_protocol.specs.Frames.{Frame, Go, Abort, Addressed, posted}
use Rattle.rvm_protocol.specs.Guest.{Guest, IsGuest}
use Rattle.rvm_protocol.specs.Host.{Host}
use Rattle.rvm_protocol.specs.Modes.{Mode, Run, Outcome, move_of, guest_in}
use Rattle.rvm_protocol.specs.Pages.{put}
use Rattle.rvm_protocol.specs.Replies.{Reply, Committed, Answered}
use Rattle.rvm_protocol.specs.Told.{Told, reply_targets, reply_paused, reply_waits, reply_guest, told_reply}
use Rattle.rvm_protocol.specs.World.{Has, and_sent}
use Rattle.rvm_protocol.proofs.PairInvariant.{More, New, lim, go_lim, own_ok, their_ok, Meet, HoldsNone, Modes, Content}
use Rattle.rvm_protocol.proofs.Basics.{some_is, put_same, put_other, same_or}
use Rattle.rvm_protocol.proofs.Tellings.{onto, aims, Tells, TellsOther}
use Rattle.rvm_protocol.proofs.Behind.{is_run, from_ok, GivenOk, past_ok, go_ok, past_mono, go_mono, own_go, their_go, past_own, own_past, their_past, their_from, from_their, given_from, below, ready_num, run_apart, apart_run, given_mono, Turn}
use Rattle.rvm_protocol.proofs.PagesOfFrames.{content_iff}
use Rattle.rvm_protocol.specs.Shown.{is_paused, is_held, IsTarget}

pub has_old : {X : Type 0} (xs : List X) (y x : X) → Has xs x → Has (xs ++ y ∷ []) x
unfolding Has
has_old [] y x h = absurd h
has_old (z ∷ xs) y x (inl e) = inl e
has_old (z ∷ xs) y x (inr h) = inr (has_old xs y x h)

pub has_new : {X : Type 0} (xs : List X) (y x : X) → y ≡ x → Has (xs ++ y ∷ []) x
unfolding Has
has_new [] y x e = inl e
has_new (z ∷ xs) y x e = inr (has_new xs y x e)

pub has_either : {X : Type 0} (xs : List X) (y x : X) → Has (xs ++ y ∷ []) x → Has xs x ⊎ (y ≡ x)
unfolding Has
has_either [] y x (inl e) = inr e
has_either [] y x (inr h) = absurd h
has_either (z ∷ xs) y x (inl e) = inl (inl e)
has_either (z ∷ xs) y x (inr h) = ⊎_elim (λ a. inl (inr a)) (λ b. inr b) (has_either xs y x h)

-- f at x, after a value was put there, and elsewhere, unchanged
pub put_all : {V : Type 0} (Q : ℕ → V → Type 0) (f : ℕ → V) (x : ℕ) (v : V) → Q x v
    → ((y : ℕ) → y ≢ x → Q y (f y)) → (y : ℕ) → Q y (put f x v y)
put_all Q f x v here rest y =
    elim (same_or y x) [
      | inl e ↦
          subst (λ z. Q z (put f x v z)) (sym e) (subst (λ w. Q x w) (sym (put_same f x v)) here)
      | inr n ↦ subst (λ w. Q y w) (sym (put_other f x y v n)) (rest y n)
    ]

module _ {P B : Type 0} where
  abbrev pub Made : List (Addressed P B) → ℕ → ℕ → Frame P B → Type 0
  Made sent x y f = Has sent (record { from = x; to = y; frame = f })

  -- a frame from x to y is an old one or the new one
  pub made_down : (sent : List (Addressed P B)) (s z : ℕ) (made : Option (Frame P B)) (x y : ℕ)
      (f : Frame P B) → Made (and_sent sent (posted s z made)) x y f
      → Made sent x y f ⊎ ((s ≡ x) × (z ≡ y) × (made ≡ Some f))
  made_down sent s z None x y f h = inl h
  made_down sent s z (Some g) x y f h =
      ⊎_elim (λ a. inl a)
      (λ e. inr (
        ap (λ (a : Addressed P B). a.from) e,
        ap (λ (a : Addressed P B). a.to) e,
        ap
            (λ (a : Addressed P B). Some a.frame) e,
      ))
      (has_either sent (record { from = s; to = z; frame = g })
      (record { from = x; to = y; frame = f }) h)

  pub made_old : (sent : List (Addressed P B)) (s z : ℕ) (made : Option (Frame P B)) (x y : ℕ)
      (f : Frame P B) → Made sent x y f → Made (and_sent sent (posted s z made)) x y f
  made_old sent s z None x y f h = h
  made_old sent s z (Some g) x y f h = has_old sent _ _ h

  pub made_new : (sent : List (Addressed P B)) (s z : ℕ) (made : Option (Frame P B)) (f : Frame P B)
      → made ≡ Some f → Made (and_sent sent (posted s z made)) s z f
  made_new sent s z None f h = cc
  made_new sent s z (Some g) f h =
      has_new sent _ _
      (ap (λ (x : Frame P B). record { from = s; to = z; frame = x }) (some_is g f h))

  -- the frames of the pair after one more
  pub more_up : (sent : List (Addressed P B)) (s z : ℕ) (made : Option (Frame P B)) (f : Frame P B)
      → More (Made sent s z) made f → Made (and_sent sent (posted s z made)) s z f
  more_up sent s z None f h = h
  more_up sent s z (Some g) f (inl h) = has_old sent _ _ h
  more_up sent s z (Some g) f (inr e) = made_new sent s z (Some g) f (ap Some e)

  pub more_down : (sent : List (Addressed P B)) (s z : ℕ) (made : Option (Frame P B))
      (f : Frame P B) → Made (and_sent sent (posted s z made)) s z f → More (Made sent s z) made f
  more_down sent s z None f h = h
  more_down sent s z (Some g) f h =
      elim (made_down sent s z (Some g) s z f h) [ inl a ↦ inl a | inr e ↦ inr (some_is g f e.2) ]

pub more_old : {X : Type 0} (F : X → Type 0) (made : Option X) (f : X) → F f → More F made f
more_old F None f h = h
more_old F (Some g) f h = inl h

pub more_new : {X : Type 0} (F : X → Type 0) (made : Option X) (f : X) → made ≡ Some f
    → More F made f
more_new F None f h = cc
more_new F (Some g) f h = inr (some_is g f h)

pub new_is : {X : Type 0} (Q : X → Type 0) (made : Option X) (f : X) → New Q made → made ≡ Some f
    → Q f
new_is Q None f q h = cc
new_is Q (Some g) f q h = subst Q (some_is g f h) q

abbrev pub Pair : (c d x y : ℕ) → Type 0
Pair c d x y = ((x ≡ c) × (y ≡ d)) ⊎ ((x ≡ d) × (y ≡ c))

module _ {S P : Type 0} where
  -- moves below this were taken by host y, at most
  abbrev pub reach : (ℕ → Host S P) → ℕ → Mode S P → ℕ → ℕ
  reach H c O y = if y == c then go_lim O else move_of (H y).mode

  pub reach_here : (H : ℕ → Host S P) (c : ℕ) (O : Mode S P) → reach H c O c ≡ go_lim O
  reach_here H c O = put_same (λ y. move_of (H y).mode) c (go_lim O)

  pub reach_there : (H : ℕ → Host S P) (c : ℕ) (O : Mode S P) (y : ℕ) → y ≢ c
      → reach H c O y ≡ move_of (H y).mode
  reach_there H c O y n = put_other (λ z. move_of (H z).mode) c y (go_lim O) n

module _ {S P E A B : Type 0} (m : Guest S P E A B) (laws : IsGuest m) where
  -- c is current and hc its mode; d, with hd, is its partner, or any other host where the current
  -- one is in Run
  pub record Good (hc hd : Host S P) (H : ℕ → Host S P) (sent : List (Addressed P B)) (c d : ℕ)
      (t : Told S) : Type 0 where
    pub current : t.current ≡ c
    pub apart : d ≢ c
    pub is_c : hc ≡ H c
    pub is_d : hd ≡ H d
    pub partner : is_run hc.mode ≡ false → hc.partner ≡ d
    -- the two, as if they were alone
    pub modes : Modes hc.mode hd.mode (Made sent c d) (Made sent d c)
    pub pages : Content m hc.mode hd.mode (Made sent c d)
    -- what the replies told
    pub guest : guest_in hc.mode ≡ Some t.guest
    pub valid : m.valid t.guest ≡ true
    pub paused : t.paused ≡ is_paused hc.mode
    pub waits : (x : ℕ) → t.waiting x ≡ is_held (H x).mode
    pub target : IsTarget t.targets d hc.mode
    -- each other host is behind
    pub others : (x : ℕ) → x ≢ c → x ≢ d → HoldsNone (H x).mode × (move_of (H x).mode < lim hc.mode)
    pub near : (move_of hd.mode < lim hc.mode) ⊎ (hd.partner ≡ c)
    -- each frame that is not between the two is behind
    pub past : (x y : ℕ) (f : Frame P B) → Made sent x y f → Pair c d x y ⊎ past_ok (lim hc.mode) f
    -- a move that was given was taken
    pub took : (x y : ℕ) (f : Frame P B) → Made sent x y f → go_ok (reach H c hc.mode y) f
    pub given : (x : ℕ) → x ≢ c → GivenOk (reach H c hc.mode (H x).partner) (H x).mode
    -- move numbers in frames of the hosts that aren't current
    pub from : (x y : ℕ) (f : Frame P B) → x ≢ c → Made sent x y f → from_ok (H x).mode f

  -- while the current host is in Run any other host may be taken as the second
  pub retarget_run : (n : ℕ) (g : S) (p : ℕ) (hd : Host S P) (H : ℕ → Host S P)
      (sent : List (Addressed P B)) (c d d' : ℕ) (t : Told S)
      → Good (record { mode = Run n g; partner = p }) hd H sent c d t → d' ≢ c
      → Good (record { mode = Run n g; partner = p }) (H d') H sent c d' t
  retarget_run n g p hd H sent c d d' t l ne =
      let behind : (x : ℕ) → x ≢ c → HoldsNone (H x).mode × (move_of (H x).mode < suc n) = λ x nc.
      elim (same_or x d) [
        | inl e ↦
            subst (λ (h : Host S P). HoldsNone h.mode × (move_of h.mode < suc n))
            (l.is_d ∙ sym (ap H e)) (apart_run n hd.mode l.modes.meet)
        | inr nd ↦ l.others x nc nd
      ] in
      let lt_d : move_of hd.mode < suc n = (apart_run n hd.mode l.modes.meet).1 in
      let below_all : (x y : ℕ) (f : Frame P B) → Made sent x y f → past_ok (suc n) f = λ x y f h.
      elim (l.past x y f h) [
        | inl q ↦ elim q [
          | inl e ↦
              own_past n g hd.mode f lt_d
              (l.modes.own f
              (subst (λ z. Made sent c z f) e.1 (subst (λ z. Made sent z y f) e.0 h)))
          | inr e ↦
              their_past n g hd.mode f lt_d (ready_num hd.mode)
              (l.modes.their f
              (subst (λ z. Made sent d z f) e.1 (subst (λ z. Made sent z y f) e.0 h)))
        ]
        | inr q ↦ q
      ] in
      record {
        current = l.current;
        apart = ne;
        is_c = l.is_c;
        is_d = refl;
        partner = λ h. cc;
        modes = record {
          meet = run_apart n (H d').mode (behind d' ne).0 (behind d' ne).1;
          own = λ f h. past_own n g (H d').mode f (below_all c d' f h)
              (subst (λ z. go_ok z f) (reach_there H c (Run n g) d' ne) (l.took c d' f h));
          their = λ f h. from_their (Run n g) (H d').mode f (l.from d' c f ne h)
              (subst (λ z. go_ok z f) (reach_here H c (Run n g)) (l.took d' c f h));
        };
        pages = tt;
        guest = l.guest;
        valid = l.valid;
        paused = l.paused;
        waits = l.waits;
        target = tt;
        others = λ x nc nd. behind x nc;
        near = inl (behind d' ne).1;
        past = λ x y f h. inr (below_all x y f h);
        took = l.took;
        given = l.given;
        from = l.from;
      }

  still_valid : (e : HostEvent P E B) (r : Reply A) (g : S) → m.valid g ≡ true
      → m.valid (reply_guest m e r g) ≡ true
  still_valid (Do (Board e)) (Answered a) g v = laws.stays g e v
  still_valid e r g v = v

  pub own_all : (O T : Mode S P) → Meet O T → Modes O T (own_ok {B = B} O T) (their_ok {B = B} O T)
  own_all O T i = record { meet = i; own = λ f h. h; their = λ f h. h }

  -- an event at the current host, after which it is still current; a frame made is for d
  pub owner_good : (O : Mode S P) (p : ℕ) (hd : Host S P) (H : ℕ → Host S P)
      (sent : List (Addressed P B)) (c d : ℕ) (t : Told S) (e : HostEvent P E B) (r : Reply A)
      (made : Option (Frame P B)) (O' : Mode S P) (p' : ℕ)
      → Good (record { mode = O; partner = p }) hd H sent c d t
      → Modes O' hd.mode (More (own_ok O hd.mode) made) (their_ok O hd.mode)
      → Content m O' hd.mode (More (Made sent c d) made) → Tells m e O r O' → aims m e d
      → (is_run O' ≡ false → p' ≡ d)
      → Good (record { mode = O'; partner = p' }) hd (put H c (record { mode = O'; partner = p' }))
      (and_sent sent (posted c d made)) c d (told_reply m c e r t)
  owner_good O p hd H sent c d t e r made O' p' l i ok tells aim par =
      let h' : Host S P = record { mode = O'; partner = p' } in
      let T = hd.mode in
      let le : lim O ≤ lim O' = below (lim O) (lim O')
      (λ k lt. i.own (Abort k) (more_old (own_ok O T) made (Abort k) lt)) in
      let go : go_lim O ≤ go_lim O' = below (go_lim O) (go_lim O') (λ k lt. i.their (Go k) lt) in
      let up : (y : ℕ) → reach H c O y ≤ reach (put H c h') c O' y = λ y. put_up O O' h' H c go y in
      record {
        current = tells.current t.targets t.current ∙ l.current;
        apart = l.apart;
        is_c = sym (put_same H c h');
        is_d = l.is_d ∙ sym (put_other H c d h' l.apart);
        partner = par;
        modes = record {
          meet = i.meet;
          own = λ f h. elim (made_down sent c d made c d f h) [
            | inl a ↦ i.own f (more_old (own_ok O T) made f (l.modes.own f a))
            | inr z ↦ i.own f (more_new (own_ok O T) made f z.2)
          ];
          their = λ f h. elim (made_down sent c d made d c f h) [
            | inl a ↦ i.their f (l.modes.their f a)
            | inr z ↦ absurd (l.apart (sym z.0))
          ];
        };
        pages = content_iff m laws O' T (More (Made sent c d) made)
            (Made (and_sent sent (posted c d made)) c d) (more_up sent c d made)
            (more_down sent c d made) ok;
        guest = tells.guest ∙ ap (onto (reply_guest m e r)) l.guest;
        valid = still_valid e r t.guest l.valid;
        paused = ap (reply_paused r) l.paused ∙ sym tells.paused;
        waits = λ x. elim (same_or x c) [
          | inl q ↦
              subst (λ z. put t.waiting c (reply_waits r (t.waiting c)) z ≡ is_held
              (put H c h' z).mode) (sym q)
              (put_same t.waiting c (reply_waits r (t.waiting c))
              ∙ ap (reply_waits r)
              (l.waits c ∙ ap (λ (h : Host S P). is_held h.mode) (sym l.is_c)) ∙ sym tells.held
              ∙ ap (λ (h : Host S P). is_held h.mode) (sym (put_same H c h')))
          | inr n ↦
              put_other t.waiting c x (reply_waits r (t.waiting c)) n ∙ l.waits x
              ∙ ap (λ (h : Host S P). is_held h.mode) (sym (put_other H c x h' n))
        ];
        target = tells.target t.targets d aim l.target;
        others = λ x nc nd. subst (λ (h : Host S P). HoldsNone h.mode × (move_of h.mode < lim O'))
            (sym (put_other H c x h' nc))
            (let q = l.others x nc nd in (q.0, (let z = q.1 in omega (arith, z))));
        near = elim l.near [ inl z ↦ inl (omega arith) | inr z ↦ inr z ];
        past = λ x y f h. elim (made_down sent c d made x y f h) [
          | inl a ↦
              elim (l.past x y f a) [
                | inl q ↦ inl q
                | inr q ↦ inr
                    (past_mono (lim O) (lim O') le f q)
              ]
          | inr z ↦ inl (inl (sym z.0, sym z.1))
        ];
        took = λ x y f h. elim (made_down sent c d made x y f h) [
          | inl a ↦ go_mono (reach H c O y) (reach (put H c h') c O' y) (up y) f (l.took x y f a)
          | inr z ↦ subst (λ w. go_ok (reach (put H c h') c O' w) f) z.1
              (subst (λ w. go_ok w f)
              (sym (reach_there (put H c h') c O' d l.apart ∙ ap
              (λ (h : Host S P). move_of h.mode) (put_other H c d h' l.apart ∙ sym l.is_d)))
              (own_go O' T f (i.own f (more_new (own_ok O T) made f z.2))))
        ];
        given = λ x nc. subst (λ (h : Host S P). GivenOk (reach (put H c h') c O' h.partner) h.mode)
            (sym (put_other H c x h' nc))
            (given_mono _ _ (H x).mode (up (H x).partner) (l.given x nc));
        from = λ x y f nc h. subst (λ (q : Host S P). from_ok q.mode f)
            (sym (put_other H c x h' nc)) (elim (made_down sent c d made x y f h) [
              | inl a ↦ l.from x y f nc a
              | inr z ↦ absurd (nc (sym z.0))
            ]);
      }
    where
      put_up : (O O' : Mode S P) (h' : Host S P) (H : ℕ → Host S P) (c : ℕ) → go_lim O ≤ go_lim O'
          → (y : ℕ) → reach H c O y ≤ reach (put H c h') c O' y
      put_up O O' h' H c go y =
          elim (y == c) as
          (λ t. (if t then go_lim O else move_of (H y).mode) ≤
          (if t then go_lim O' else move_of (if t then h' else H y).mode)) [
            | true ↦
                go
            | false ↦ omega arith
          ]

  -- the source commits: its partner is current from now on
  pub commit_good : (O : Mode S P) (p : ℕ) (hd : Host S P) (H : ℕ → Host S P)
      (sent : List (Addressed P B)) (c d : ℕ) (t : Told S) (f : Frame P B) (n : ℕ)
      (made : Option (Frame P B)) (O' : Mode S P) (p' : ℕ)
      → Good (record { mode = O; partner = p }) hd H sent c d t
      → Turn O hd.mode O' → Modes hd.mode O' (their_ok O hd.mode) (More (own_ok O hd.mode) made)
      → Content m hd.mode O' (Made sent d c)
      → (guest_in hd.mode ≡ guest_in O) × (is_paused hd.mode ≡ is_paused O)
      → is_held O' ≡ is_held O → t.targets n ≡ d → IsTarget t.targets c hd.mode → hd.partner ≡ c
      → p' ≡ d
      → Good hd (record { mode = O'; partner = p' }) (put H c (record { mode = O'; partner = p' }))
      (and_sent sent (posted c d made)) d c (told_reply m c (Came d f) (Committed n) t)
  commit_good O p hd H sent c d t f n made O' p' l u i ok same held targets target back par =
      let h' : Host S P = record { mode = O'; partner = p' } in
      let T = hd.mode in
      let is : put H c h' d ≡ hd = put_other H c d h' l.apart ∙ sym l.is_d in
      let up : (y : ℕ) → reach H c O y ≤ reach (put H c h') d T y = λ y.
      elim (same_or y d) [
        | inl e ↦ subst (λ z. reach H c O z ≤ reach (put H c h') d T z) (sym e)
            (let a = reach_there H c O d l.apart
            ∙ ap (λ (h : Host S P). move_of h.mode) (sym l.is_d) in let b = reach_here
            (put H c h') d T in let z = u.more in omega (arith, a, b, z))
        | inr nd ↦ elim (same_or y c) [
          | inl e ↦ subst (λ z. reach H c O z ≤ reach (put H c h') d T z) (sym e)
              (let a = reach_here H c O in let b = reach_there (put H c h') d T c
              (λ q. l.apart (sym q))
              ∙ ap (λ (h : Host S P). move_of h.mode) (put_same H c h') in let z =
              u.reached in let w = u.left in omega (arith, a, b, z, w))
          | inr nc ↦
              let a = reach_there H c O y nc in let b = reach_there (put H c h') d T y nd
              ∙ ap (λ (h : Host S P). move_of h.mode) (put_other H c y h' nc) in omega (arith, a, b)
        ]
      ] in
      record {
        current = targets;
        apart = λ q. l.apart (sym q);
        is_c = sym is;
        is_d = sym (put_same H c h');
        partner = λ q. back;
        modes = record {
          meet = i.meet;
          own = λ g h. elim (made_down sent c d made d c g h) [
            | inl a ↦ i.own g (l.modes.their g a)
            | inr z ↦ absurd (l.apart (sym z.0))
          ];
          their = λ g h. elim (made_down sent c d made c d g h) [
            | inl a ↦ i.their g (more_old (own_ok O T) made g (l.modes.own g a))
            | inr z ↦ i.their g (more_new (own_ok O T) made g z.2)
          ];
        };
        pages = content_iff m laws T O' (Made sent d c) (Made (and_sent sent (posted c d made)) d c)
            (λ g h. made_old sent c d made d c g h)
            (λ g h. elim
            (made_down sent c d made d c g h) [
              | inl a ↦
                  a
              | inr z ↦ absurd (l.apart (sym z.0))
            ]) ok;
        guest = same.0 ∙ l.guest;
        valid = l.valid;
        paused = l.paused ∙ sym same.1;
        waits = λ x. elim (same_or x c) [
          | inl q ↦
              subst (λ z. put t.waiting c (t.waiting c) z ≡ is_held (put H c h' z).mode) (sym q)
              (put_same t.waiting c (t.waiting c) ∙ l.waits c
              ∙ ap (λ (h : Host S P). is_held h.mode) (sym l.is_c) ∙ sym held
              ∙ ap (λ (h : Host S P). is_held h.mode) (sym (put_same H c h')))
          | inr nc ↦
              put_other t.waiting c x (t.waiting c) nc ∙ l.waits x
              ∙ ap (λ (h : Host S P). is_held h.mode) (sym (put_other H c x h' nc))
        ];
        target = target;
        others = λ x nd nc. subst (λ (h : Host S P). HoldsNone h.mode × (move_of h.mode < lim T))
            (sym (put_other H c x h' nc))
            (let q = l.others x nc nd in
            (q.0, (let z = q.1 in let w = u.now in omega (arith, z, w))));
        near = inr par;
        past = λ x y g h. elim (made_down sent c d made x y g h) [
          | inl a ↦
              elim (l.past x y g a) [
                | inl q ↦ inl (elim q [
                  | inl a ↦ inr a
                  | inr a ↦
                      inl a
                ])
                | inr q ↦ inr (subst (λ z. past_ok z g) (sym u.now) q)
              ]
          | inr z ↦ inl (inr (sym z.0, sym z.1))
        ];
        took = λ x y g h. elim (made_down sent c d made x y g h) [
          | inl a ↦ go_mono (reach H c O y) (reach (put H c h') d T y) (up y) g (l.took x y g a)
          | inr z ↦
              subst (λ w. go_ok (reach (put H c h') d T w) g) z.1
              (subst (λ w. go_ok w g) (sym (reach_here (put H c h') d T))
              (their_go T O' g (i.their g (more_new (own_ok O T) made g z.2))))
        ];
        given = λ x nd. elim (same_or x c) [
          | inl q ↦
              subst (λ z. GivenOk (reach (put H c h') d T (put H c h' z).partner)
              (put H c h' z).mode) (sym q)
              (subst (λ (h : Host S P). GivenOk (reach (put H c h') d T h.partner) h.mode)
              (sym (put_same H c h'))
              (subst (λ z. GivenOk (reach (put H c h') d T z) O') (sym par)
              (subst (λ z. GivenOk z O') (sym (reach_here (put H c h') d T)) u.given)))
          | inr nc ↦
              subst (λ (h : Host S P). GivenOk (reach (put H c h') d T h.partner) h.mode)
              (sym (put_other H c x h' nc))
              (given_mono _ _ (H x).mode (up (H x).partner) (l.given x nc))
        ];
        from = λ x y g nd h. elim (same_or x c) [
          | inl q ↦
              subst (λ z. from_ok (put H c h' z).mode g) (sym q)
              (subst (λ (z : Host S P). from_ok z.mode g) (sym (put_same H c h'))
              (elim (made_down sent c d made x y g h) [
                | inl a ↦ elim (l.past x y g a) [
                  | inl w ↦ elim w [
                    | inl v ↦
                        their_from T O' g
                        (i.their g
                        (more_old (own_ok O T) made g
                        (l.modes.own g
                        (subst (λ z. Made sent c z g) v.1 (subst (λ z. Made sent z y g) v.0 a)))))
                    | inr v ↦ absurd (nd v.0)
                  ]
                  | inr w ↦ given_from (lim O) O' u.beside g w
                ]
                | inr z ↦ their_from T O' g (i.their g (more_new (own_ok O T) made g z.2))
              ]))
          | inr nc ↦
              subst (λ (z : Host S P). from_ok z.mode g) (sym (put_other H c x h' nc))
              (elim (made_down sent c d made x y g h) [
                | inl a ↦ l.from x y g nc a
                | inr z ↦ absurd (nc (sym z.0))
              ])
        ];
      }

  -- an event at another host x
  pub record Aside (hc hd : Host S P) (H : ℕ → Host S P) (sent : List (Addressed P B))
      (c d x z p' : ℕ) (e : HostEvent P E B) (o : Outcome S P A B) : Type 0 where
    pub meet : Meet hc.mode hd.mode
    pub own : (f : Frame P B) → Made sent c d f → own_ok hc.mode hd.mode f
    pub their : (f : Frame P B) → Made (and_sent sent (posted x z o.made)) d c f
        → their_ok hc.mode hd.mode f
    pub pages : Content m hc.mode hd.mode (Made sent c d)
    pub tells : TellsOther m e (H x).mode o
    pub behind : x ≢ d → HoldsNone o.next × (move_of o.next < lim hc.mode)
    pub near : (move_of hd.mode < lim hc.mode) ⊎ (hd.partner ≡ c)
    pub rises : move_of (H x).mode ≤ move_of o.next
    pub past : New (λ f. Pair c d x z ⊎ past_ok (lim hc.mode) f) o.made
    pub go : New (go_ok (reach H c hc.mode z)) o.made
    pub given : GivenOk (reach H c hc.mode p') o.next
    pub from : (f : Frame P B) → More (from_ok (H x).mode) o.made f → from_ok o.next f

  pub other_good : (hc hd hd' : Host S P) (H : ℕ → Host S P) (sent : List (Addressed P B)) (c d : ℕ)
      (t : Told S) (x z p' : ℕ) (e : HostEvent P E B) (o : Outcome S P A B)
      → Good hc hd H sent c d t → x ≢ c → hd' ≡ put H x (record { mode = o.next; partner = p' }) d
      → Aside hc hd' H sent c d x z p' e o
      → Good hc hd' (put H x (record { mode = o.next; partner = p' }))
      (and_sent sent (posted x z o.made)) c d (told_reply m x e o.reply t)
  other_good hc hd hd' H sent c d t x z p' e o l nc isd s =
      let h' : Host S P = record { mode = o.next; partner = p' } in
      let r = o.reply in
      let O = hc.mode in
      let up : (y : ℕ)
      → reach H c O y ≤ reach (put H x h') c O y = λ y. put_up O h' H c x s.rises y in
      record {
        current = s.tells.current t.targets t.current ∙ l.current;
        apart = l.apart;
        is_c = l.is_c ∙ sym (put_other H x c h' (λ q. nc (sym q)));
        is_d = isd;
        partner = l.partner;
        modes = record {
          meet = s.meet;
          own = λ f h. elim (made_down sent x z o.made c d f h) [
            | inl a ↦ s.own f a
            | inr q ↦ absurd (nc q.0)
          ];
          their = s.their;
        };
        pages = content_iff m laws O hd'.mode (Made sent c d)
            (Made (and_sent sent (posted x z o.made)) c d) (λ f h. made_old sent x z o.made c d f h)
            (λ f h. elim
            (made_down sent x z o.made c d f h) [ inl a ↦ a | inr q ↦ absurd (nc q.0) ]) s.pages;
        guest = l.guest ∙ ap Some (sym (s.tells.guest t.guest));
        valid = subst (λ w. m.valid w ≡ true) (sym (s.tells.guest t.guest)) l.valid;
        paused = s.tells.paused t.paused ∙ l.paused;
        waits = λ y. elim (same_or y x) [
          | inl q ↦
              subst (λ w. put t.waiting x (reply_waits r (t.waiting x)) w ≡ is_held
              (put H x h' w).mode) (sym q)
              (put_same t.waiting x (reply_waits r (t.waiting x)) ∙ ap (reply_waits r) (l.waits x)
              ∙ sym s.tells.held
              ∙ ap (λ (h : Host S P). is_held h.mode) (sym (put_same H x h')))
          | inr n ↦
              put_other t.waiting x y (reply_waits r (t.waiting x)) n ∙ l.waits y
              ∙ ap (λ (h : Host S P). is_held h.mode) (sym (put_other H x y h' n))
        ];
        target = same_target (reply_targets e r t.targets) t.targets d O
            (s.tells.targets t.targets) l.target;
        others = λ y yc yd. put_all (λ w (h : Host S P). w ≢ c → w ≢ d → HoldsNone h.mode ×
            (move_of h.mode < lim O)) H x h' (λ _ xd. s.behind xd)
            (λ w _ wc wd. l.others w wc wd) y yc yd;
        near = s.near;
        past = λ u y f h. elim (made_down sent x z o.made u y f h) [
          | inl a ↦ l.past u y f a
          | inr q ↦
              subst (λ w. Pair c d w y ⊎ past_ok (lim O) f) q.0
              (subst (λ w. Pair c d x w ⊎ past_ok (lim O) f) q.1
              (new_is (λ f. Pair c d x z ⊎ past_ok (lim O) f) o.made f s.past q.2))
        ];
        took = λ u y f h. elim (made_down sent x z o.made u y f h) [
          | inl a ↦ go_mono (reach H c O y) (reach (put H x h') c O y) (up y) f (l.took u y f a)
          | inr q ↦
              subst (λ w. go_ok (reach (put H x h') c O w) f) q.1
              (go_mono _ _ (up z) f (new_is (go_ok (reach H c O z)) o.made f s.go q.2))
        ];
        given = λ y yc. put_all (λ w (h : Host S P). w ≢ c → GivenOk
            (reach (put H x h') c O h.partner) h.mode) H x h'
            (λ _. given_mono _ _ o.next (up p') s.given)
            (λ w _ wc. given_mono _ _ (H w).mode (up (H w).partner) (l.given w wc)) y yc;
        from = λ u y f uc h. elim (made_down sent x z o.made u y f h) [
          | inl a ↦
              put_all (λ w (h : Host S P). Made sent w y f → w ≢ c → from_ok h.mode f) H x h'
              (λ b _. s.from f (more_old (from_ok (H x).mode) o.made f (l.from x y f nc b)))
              (λ w _ b wc. l.from w y f wc b) u a uc
          | inr q ↦
              subst (λ w. from_ok (put H x h' w).mode f) q.0
              (subst (λ (w : Host S P). from_ok w.mode f) (sym (put_same H x h'))
              (s.from f (more_new (from_ok (H x).mode) o.made f q.2)))
        ];
      }
    where
      put_up : (O : Mode S P) (h' : Host S P) (H : ℕ → Host S P) (c x : ℕ)
          → move_of (H x).mode ≤ move_of h'.mode → (y : ℕ)
          → reach H c O y ≤ reach (put H x h') c O y
      put_up O h' H c x le y =
          elim (y == c) as
          (λ t. (if t then go_lim O else move_of (H y).mode) ≤
          (if t then go_lim O else move_of (put H x h' y).mode)) [
            | true ↦ omega arith
            | false ↦
                put_all (λ w (h : Host S P). move_of (H w).mode ≤ move_of h.mode) H x h' le
                (λ w _. omega arith) y
          ]

      same_target : (ts ts' : ℕ → ℕ) (d : ℕ) (O : Mode S P) → ts ≡ ts' → IsTarget ts' d O
          → IsTarget ts d O
      same_target ts ts' d O q h = subst (λ w. IsTarget w d O) (sym q) h
