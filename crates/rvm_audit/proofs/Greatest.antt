-- No order goes further than where its hosts are stuck.
use Rattle.std.proofs.Common.{◌≡◌, ◌∙◌, ℕ, zero, suc, ◌<◌, ◌≤◌, ◌==◌, Bool, true, false, if◌then◌else◌, List, [], ◌∷◌, length, take, Some, refl, sym, ap, subst, arith, inl, inr}
use Rattle.std.specs.Prelude.{slice_get, ◌⊎◌}
use Rattle.std.proofs.Math.Seq.{take-length}
use Rattle.std.proofs.lemmas.Bool.{cases_lt, eq-eqb, eqb-true, ltb-true}
use Rattle.std.proofs.lemmas.Option.{same_Some}
use Rattle.rvm_frame.specs.declared.frame.Frame.{Frame}
use Rattle.rvm_recorder.specs.Entries.{PlainEntry}
use Rattle.rvm_message.specs.declared.event.HostEvent.TheVariants.{Came}
use Rattle.rvm_protocol.specs.Host.{is_there}
use Rattle.rvm_protocol.specs.Pages.{put}
use Rattle.rvm_core.specs.declared.event.Event.{Event}
use Rattle.rvm_core.specs.declared.event.Event.TheVariants.{At, Deliver}
use Rattle.rvm_audit.proofs.Gets.{get_take}
use Rattle.rvm_audit.specs.Hosts.{HasBytes, HostEntry, Hosts, IsRun, Makes, Openings, after, cons_if, entries_at, opened}
use Rattle.rvm_audit.specs.Orders.{IsClosed, IsDeadEnd, IsOrder, IsStuck, Journals, MadeBelow, cut}
use Rattle.rvm_audit.proofs.Steps.{and_first, get_back, made_step, own_entries, take_short, take_within}

abbrev MadeIn : ℕ → (List ℕ → Type 0) → List PlainEntry → Type 0
MadeIn p F xs =
    (k : ℕ) (n : PlainEntry) (bytes : List ℕ) → k < p → slice_get xs k ≡ Some n → n.frame ≡ Some bytes → F bytes

abbrev AllMade : ℕ → (List ℕ → Type 0) → Hosts → Type 0
AllMade y F w = (k : ℕ) (bytes : List ℕ) → slice_get w.made k ≡ Some (y, bytes) → F bytes

made_tail : (p : ℕ) (F : List ℕ → Type 0) (n : PlainEntry) (xs : List PlainEntry) → MadeIn (suc p) F (n ∷ xs)
    → MadeIn p F xs
made_tail p F n xs made = λ k m bytes lt at is. made (suc k) m bytes (omega arith) at is

-- a host has one entry less before it, if the entry is its own
made_next : (b : Bool) (p q : ℕ) (F : List ℕ → Type 0) (n : PlainEntry) (xs : List PlainEntry) → (b ≡ true → p ≡ suc q)
    → MadeIn p F (cons_if b n xs) → MadeIn (if b then q else p) F xs
made_next true p q F n xs is made = made_tail q F n xs (subst (λ r. MadeIn r F (n ∷ xs)) (is refl) made)
made_next false p q F n xs is made = made

count_next : (b : Bool) (p q : ℕ) (n : PlainEntry) (xs : List PlainEntry) → (b ≡ true → p ≡ suc q)
    → length xs ≤ (if b then q else p) → length (cons_if b n xs) ≤ p
count_next true p q n xs is le = let e = is refl in omega (arith, e, le)
count_next false p q n xs is le = le

module _ (o : Openings) (members : ℕ → Bool) where
  abbrev IsIn : ℕ → Type 0
  IsIn y = (y < o.count) × (members y ≡ true)

  -- a host's entries stop at p: there is no more, or a frame of bytes that one of these hosts does not make
  abbrev StuckBy : ℕ → ℕ → (ℕ → List ℕ → Type 0) → List PlainEntry → Type 0
  StuckBy x p F xs =
      (length xs ≤ p)
      ⊎ ((n : PlainEntry) × (from : ℕ) × (f : Frame) × (slice_get xs p ≡ Some n) × (n.event ≡ Came from f)
      × ((bytes : List ℕ) → is_there x o.count from ≡ true → HasBytes (o.host x).version from x f bytes
      → IsIn from × (F from bytes → ⊥)))

  stuck_tail : (x p : ℕ) (F : ℕ → List ℕ → Type 0) (n : PlainEntry) (xs : List PlainEntry)
      → StuckBy x (suc p) F (n ∷ xs) → StuckBy x p F xs
  stuck_tail x p F n xs (inl le) = inl (omega arith)
  stuck_tail x p F n xs (inr s) = inr s

  stuck_next : (b : Bool) (x p q : ℕ) (F : ℕ → List ℕ → Type 0) (n : PlainEntry) (xs : List PlainEntry)
      → (b ≡ true → p ≡ suc q) → StuckBy x p F (cons_if b n xs) → StuckBy x (if b then q else p) F xs
  stuck_next true x p q F n xs is s = stuck_tail x q F n xs (subst (λ r. StuckBy x r F (n ∷ xs)) (is refl) s)
  stuck_next false x p q F n xs is s = s

  record Bound (p : ℕ → ℕ) (F : ℕ → List ℕ → Type 0) (w : Hosts) (left : ℕ → List PlainEntry) : Type 0 where
    stuck : (y : ℕ) → IsIn y → StuckBy y (p y) F (left y)
    made : (y : ℕ) → IsIn y → AllMade y (F y) w
    makes : (y : ℕ) → IsIn y → MadeIn (p y) (F y) (left y)

  -- if the next entry cannot stand, no event makes it
  no_step : (w : Hosts) (e : Event) (x : ℕ) (n : PlainEntry) (xs : List PlainEntry) (F : ℕ → List ℕ → Type 0)
      → StuckBy x 0 F (n ∷ xs) → ((y : ℕ) → IsIn y → AllMade y (F y) w) → Makes o w e x n → ⊥
  no_step w e x n xs F (inl le) made m = omega arith
  no_step w (At h c) x n xs F (inr s) made m =
      let is : n ≡ s.0 = same_Some n s.0 s.3 in
      let came : n.event ≡ Came s.1 s.2 = ap (λ (y : PlainEntry). y.event) is ∙ s.4 in
      let does = m.event.1 in
      cc
  no_step w (Deliver k) x n xs F (inr s) made m =
      let is : n ≡ s.0 = same_Some n s.0 s.3 in
      let c = m.event in
      let came : Came c.from c.frame ≡ Came s.1 s.2 = sym c.event ∙ ap (λ (y : PlainEntry). y.event) is ∙ s.4 in
      let from_is : c.from ≡ s.1 = cc in
      let frame_is : c.frame ≡ s.2 = cc in
      let may =
      s.5 c.bytes (subst (λ y. is_there x o.count y ≡ true) from_is c.other)
      (subst (λ f. HasBytes (o.host x).version s.1 x f c.bytes) frame_is
      (subst (λ y. HasBytes (o.host x).version y x c.frame c.bytes) from_is c.same))
      in
      may.1 (made s.1 may.0 k c.bytes (c.stands ∙ ap (λ (y : ℕ). Some (y, c.bytes)) from_is))

  next_bound : (ss : List HostEntry) (w : Hosts) (x : ℕ) (n : PlainEntry) (p : ℕ → ℕ) (q : ℕ) (F : ℕ → List ℕ → Type 0)
      → ((y : ℕ) → IsIn y → (y == x) ≡ true → p y ≡ suc q) → Bound p F w (λ y. entries_at y ((x, n) ∷ ss))
      → Bound (put p x q) F (after o w x n) (λ y. entries_at y ss)
  next_bound ss w x n p q F fits d = record {
    stuck = λ y at. stuck_next (y == x) y (p y) q F n (entries_at y ss) (fits y at) (d.stuck y at);
    made = λ y at.
        made_step y x (F y) w.made n.frame (d.made y at)
        (λ bytes same is.
        let here : (y == x) ≡ true = eq-eqb y x (sym same) in
        let more = fits y at here in
        d.makes y at 0 n bytes (omega (arith, more))
        (ap (λ b. slice_get (cons_if b n (entries_at y ss)) 0) here) is);
    makes = λ y at. made_next (y == x) (p y) q (F y) n (entries_at y ss) (fits y at) (d.makes y at);
  }

  -- the rest of a run after one step
  abbrev Again : List HostEntry → Hosts → (ℕ → List ℕ → Type 0) → Type 0
  Again ss w F =
      (p : ℕ → ℕ) → Bound p F w (λ y. entries_at y ss) → (y : ℕ) → IsIn y → length (entries_at y ss) ≤ p y

  one_more : (e : Event) (ss : List HostEntry) (w : Hosts) (x : ℕ) (n : PlainEntry) (p : ℕ → ℕ) (F : ℕ → List ℕ → Type 0)
      → Makes o w e x n → Bound p F w (λ y. entries_at y ((x, n) ∷ ss)) → Again ss (after o w x n) F
      → (b : Bool) → members x ≡ b → (m : ℕ) → p x ≡ m
      → (y : ℕ) → IsIn y → length (entries_at y ((x, n) ∷ ss)) ≤ p y
  one_more e ss w x n p F makes d again false out m is y at =
      let fits : (z : ℕ) → IsIn z → (z == x) ≡ true → p z ≡ suc 0 =
      λ z there same. absurd (let z_is = ap members (eqb-true z x same) in let z_in = there.1 in cc)
      in
      count_next (y == x) (p y) 0 n (entries_at y ss) (fits y at)
      (again (put p x 0) (next_bound ss w x n p 0 F fits d) y at)
  one_more e ss w x n p F makes d again true here zero is y at =
      absurd (no_step w e x n (entries_at x ss) F
      (subst (λ xs. StuckBy x 0 F xs) (own_entries x n ss)
      (subst (λ m. StuckBy x m F (entries_at x ((x, n) ∷ ss))) is (d.stuck x (makes.there, here)))) d.made makes)
  one_more e ss w x n p F makes d again true here (suc q) is y at =
      let fits : (z : ℕ) → IsIn z → (z == x) ≡ true → p z ≡ suc q =
      λ z there same. ap p (eqb-true z x same) ∙ is
      in
      count_next (y == x) (p y) q n (entries_at y ss) (fits y at)
      (again (put p x q) (next_bound ss w x n p q F fits d) y at)

  bounded : (es : List Event) (ss : List HostEntry) (w : Hosts) (p : ℕ → ℕ) (F : ℕ → List ℕ → Type 0) → IsRun o w es ss
      → Bound p F w (λ y. entries_at y ss) → (y : ℕ) → IsIn y → length (entries_at y ss) ≤ p y
  bounded [] [] w p F r d y at = omega arith
  bounded [] (s ∷ ss) w p F r d y at = absurd r
  bounded (e ∷ es) [] w p F r d y at = absurd r
  bounded (e ∷ es) ((x, n) ∷ ss) w p F r d y at =
      one_more e ss w x n p F r.0 d (λ p' d'. bounded es ss (after o w x n) p' F r.1 d') (members x) refl (p x) refl y at

module _ (j : Journals) (places q : ℕ → ℕ) (members : ℕ → Bool) (closed : IsClosed j places members)
    (stuck : (x : ℕ) → x < j.openings.count → members x ≡ true → IsStuck j places x) where
  abbrev Below : ℕ → List ℕ → Type 0
  Below y bytes = MadeBelow (j.entries y) (places y) bytes

  there_below : (x count y : ℕ) → is_there x count y ≡ true → y < count
  there_below x count y is = ltb-true y count (and_first _ _ is)

  stuck_by : (x : ℕ) → x < j.openings.count → members x ≡ true → IsStuck j places x
      → StuckBy j.openings members x (places x) Below (take (q x) (j.entries x))
  stuck_by x lt here (inl is) = let r = take_short (q x) (j.entries x) in let s = r.1 in inl (omega (arith, is, s))
  stuck_by x lt here (inr c) = elim (cases_lt (places x) (q x)) [
    | inl before ↦ inr (
      c.entry,
      c.from,
      c.frame,
      get_take (j.entries x) (q x) (places x) before ∙ c.stands,
      c.came,
      λ bytes other has. (
        (there_below x j.openings.count c.from other, closed x c.from c.frame c.entry bytes lt here c.stands c.came other has),
        c.unmade bytes other has,
      ),
    )
    | inr le ↦ let r = take_short (q x) (j.entries x) in let s = r.0 in inl (omega (arith, le, s))
  ]

  part_bound : Bound j.openings members places Below (opened j.openings) (λ y. take (q y) (j.entries y))
  part_bound = record {
    stuck = λ y here. stuck_by y here.0 here.1 (stuck y here.0 here.1);
    made = λ y here k bytes is. absurd cc;
    makes = λ y here k n bytes lt is made.
        record { place = k; entry = n; below = lt; stands = get_back (q y) (j.entries y) k n is; made = made };
  }

  -- no run takes more entries of a host that is stuck
  pub furthest : (es : List Event) (ss : List HostEntry) → IsRun j.openings (opened j.openings) es ss
      → ((y : ℕ) → y < j.openings.count → entries_at y ss ≡ take (q y) (j.entries y))
      → (x : ℕ) → x < j.openings.count → members x ≡ true → length (take (q x) (j.entries x)) ≤ places x
  furthest es ss run are x lt here =
      let p = part_bound in
      subst (λ xs. length xs ≤ places x) (are x lt)
      (bounded j.openings members es ss (opened j.openings) places Below run
      (record {
        stuck = λ y here. subst (λ xs. StuckBy j.openings members y (places y) Below xs) (sym (are y here.0)) (p.stuck y here);
        made = p.made;
        makes = λ y here. subst (λ xs. MadeIn (places y) (Below y) xs) (sym (are y here.0)) (p.makes y here);
      }) x (lt, here))

-- all hosts wait for one another alone
pub all_closed : (j : Journals) (places : ℕ → ℕ) → IsClosed j places (λ y. true)
all_closed j places = λ x from f n bytes lt here is came other has. refl

pub greatest : (j : Journals) (places q : ℕ → ℕ) (members : ℕ → Bool) (es : List Event) → IsClosed j places members
    → ((x : ℕ) → x < j.openings.count → members x ≡ true → IsStuck j places x) → IsOrder (cut q j) es
    → (x : ℕ) → x < j.openings.count → members x ≡ true → q x ≤ length (j.entries x) → q x ≤ places x
greatest j places q members es closed stuck o x lt here le =
    let f = furthest j places q members closed stuck es o.sequence o.run o.entries x lt here in
    let l = take_within (q x) (j.entries x) le in
    omega (arith, f, l)

pub no_order : (j : Journals) (places : ℕ → ℕ) (es : List Event) → IsDeadEnd j places → IsOrder j es → ⊥
no_order j places es d o =
    let x = d.rest.0 in
    let q : ℕ → ℕ = λ y. length (j.entries y) in
    let f =
    furthest j places q (λ y. true) (all_closed j places) (λ y lt here. d.stuck y lt) es o.sequence o.run
    (λ y lt. o.entries y lt ∙ sym (take-length (j.entries y))) x d.rest.1 refl
    in
    let l = ap (λ (xs : List PlainEntry). length xs) (take-length (j.entries x)) in
    let r = d.rest.2 in
    omega (arith, f, l, r)

-- two dead ends that were reached are one
pub one_dead_end : (j : Journals) (places q : ℕ → ℕ) (es fs : List Event) → IsDeadEnd j places → IsDeadEnd j q
    → IsOrder (cut places j) es → IsOrder (cut q j) fs → (x : ℕ) → x < j.openings.count → places x ≡ q x
one_dead_end j places q es fs d e a b x lt =
    let all : ℕ → Bool = λ y. true in
    let p = greatest j q places all es (all_closed j q) (λ y y_lt y_in. e.stuck y y_lt) a x lt refl
    (d.within x lt) in
    let r = greatest j places q all fs (all_closed j places) (λ y y_lt y_in. d.stuck y y_lt) b x lt refl
    (e.within x lt) in
    omega (arith, p, r)
