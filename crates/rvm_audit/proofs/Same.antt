-- Runs of the same entries have the same accepted ones, in the same order.
use Rattle.std.proofs.Common.{◌≡◌, ◌≢◌, ◌∙◌, ℕ, suc, ◌<◌, ◌==◌, Bool, true, false, if◌then◌else◌, List, [], ◌∷◌, ◌++◌, Some, refl, sym, ap, subst, inl, inr}
use Rattle.std.specs.Prelude.{slice_get}
use Rattle.std.proofs.lemmas.Bool.{eqb-false, eqb-true}
use Rattle.rvm_recorder.specs.Entries.{PlainEntry}
use Rattle.rvm_recorder.specs.Replay.{IsAnswered, LawHost, outcome_at}
use Rattle.rvm_message.specs.declared.event.HostEvent.{HostEvent}
use Rattle.rvm_message.specs.declared.event.HostEvent.TheVariants.{Do, Came}
use Rattle.rvm_message.specs.Events.{event_of}
use Rattle.rvm_core.specs.declared.event.Event.{Event}
use Rattle.rvm_core.specs.declared.event.Event.TheVariants.{At, Deliver}
use Rattle.rvm_audit.proofs.Gets.{get_either, get_front}
use Rattle.rvm_audit.specs.Hosts.{CameMade, HostEntry, Hosts, IsEvent, IsRun, Made, Openings, after, cons_if, entries_at, made_more, outcome_in}
use Rattle.rvm_audit.specs.Worlds.{accepted_entries, is_accepted}
use Rattle.rvm_audit.proofs.Steps.{cons_append, put_other, own_entries}

-- LISTS

get_behind : {X : Type 0} (xs ys : List X) (k : ℕ) (s : X) → slice_get ys k ≡ Some s
    → (i : ℕ) × (slice_get (xs ++ ys) i ≡ Some s)
get_behind [] ys k s at = (k, at)
get_behind (x ∷ xs) ys k s at = let r = get_behind xs ys k s at in (suc r.0, r.1)

-- whatever was made there was made here
abbrev MadeToo : List Made → List Made → Type 0
MadeToo ms ns = (k : ℕ) (m : Made) → slice_get ms k ≡ Some m → (i : ℕ) × (slice_get ns i ≡ Some m)

more : (ms ns : List Made) → MadeToo ms (ms ++ ns)
more ms ns k m at = (k, get_front ms ns k m at)

more_both : (ms ns xs : List Made) → MadeToo ms ns → MadeToo (ms ++ xs) (ns ++ xs)
more_both ms ns xs too k m at = elim (get_either ms xs k m at) [
  | inl here ↦ let i = too k m here in (i.0, get_front ns xs i.0 m i.1)
  | inr there ↦ get_behind ns xs there.0 m there.1
]

more_swapped : (ms xs ys : List Made) → MadeToo ((ms ++ xs) ++ ys) ((ms ++ ys) ++ xs)
more_swapped ms xs ys k m at = elim (get_either (ms ++ xs) ys k m at) [
  | inl here ↦ elim (get_either ms xs k m here) [
    | inl first ↦ (k, get_front (ms ++ ys) xs k m (get_front ms ys k m first))
    | inr there ↦ get_behind (ms ++ ys) xs there.0 m there.1
  ]
  | inr there ↦
      (let i = get_behind ms ys there.0 m there.1 in (i.0, get_front (ms ++ ys) xs i.0 m i.1))
]

swap : {X : Type 0} (p q : Bool) (x y : X) (xs : List X) → (p ≡ true → q ≡ true → ⊥)
    → cons_if p x (cons_if q y xs) ≡ cons_if q y (cons_if p x xs)
swap true true x y xs nay = absurd (nay refl refl)
swap true false x y xs nay = refl
swap false q x y xs nay = refl

swap_if : (p q : Bool) (a b h : LawHost) → (p ≡ true → q ≡ true → ⊥)
    → (if p then b else (if q then a else h)) ≡ (if q then a else (if p then b else h))
swap_if true true a b h nay = absurd (nay refl refl)
swap_if true false a b h nay = refl
swap_if false true a b h nay = refl
swap_if false false a b h nay = refl

none_first : (b : Bool) (n : PlainEntry) (es : List PlainEntry) → cons_if b n es ≡ [] → (b ≡ false) × (es ≡ [])
none_first true n es is = absurd cc
none_first false n es is = (refl, is)

cancel : (b : Bool) (n : PlainEntry) (xs ys : List PlainEntry) → cons_if b n xs ≡ cons_if b n ys → xs ≡ ys
cancel true n xs ys is = cc
cancel false n xs ys is = is

-- the first entry of a host in a sequence
record Found (x : ℕ) (n : PlainEntry) (ss : List HostEntry) : Type 0 where
  pre : List HostEntry
  post : List HostEntry
  is : ss ≡ pre ++ (x, n) ∷ post
  none : entries_at x pre ≡ []

found_next : (x y : ℕ) (n m : PlainEntry) (es : List PlainEntry) (ss : List HostEntry)
    → (entries_at x ss ≡ n ∷ es → Found x n ss) → (b : Bool) → (x == y) ≡ b
    → cons_if b m (entries_at x ss) ≡ n ∷ es → Found x n ((y, m) ∷ ss)
found_next x y n m es ss rest true here is =
    let e : m ≡ n = cc in
    let x_is = eqb-true x y here in
    record { pre = []; post = ss; is = λ i. (sym x_is i, e i) ∷ ss; none = refl }
found_next x y n m es ss rest false here is =
    let r = rest is in
    record {
      pre = (y, m) ∷ r.pre;
      post = r.post;
      is = ap (λ (ts : List HostEntry). (y, m) ∷ ts) r.is;
      none = ap (λ b. cons_if b m (entries_at x r.pre)) here ∙ r.none;
    }

find : (x : ℕ) (n : PlainEntry) (es : List PlainEntry) (ss : List HostEntry) → entries_at x ss ≡ n ∷ es → Found x n ss
find x n es [] is = absurd cc
find x n es ((y, m) ∷ ss) is = found_next x y n m es ss (λ h. find x n es ss h) (x == y) refl is

-- RUNS WITHOUT PLACES

module _ (o : Openings) where
  -- an entry that can be made
  pub record CanStep (w : Hosts) (x : ℕ) (n : PlainEntry) : Type 0 where
    pub there : x < o.count
    pub came : CameMade o w.made x n.event
    pub answer : IsAnswered (o.host x).version (outcome_in o w x n.event) n

  abbrev pub CanRun : Hosts → List HostEntry → Type 0
  CanRun w [] = Unit {0}
  CanRun w (s ∷ ss) = CanStep w s.0 s.1 × CanRun (after o w s.0 s.1) ss

  made_by : (w : Hosts) (e : Event) (x : ℕ) (u v : HostEvent) → u ≡ v → IsEvent o w e x u → CameMade o w.made x v
  made_by w e x u (Do c) is makes = tt
  made_by w (At h c) x u (Came from f) is makes = absurd (let d = makes.1 in cc)
  made_by w (Deliver k) x u (Came from f) is makes =
      let same : Came makes.from makes.frame ≡ Came from f = sym makes.event ∙ is in
      let from_is : makes.from ≡ from = cc in
      let frame_is : makes.frame ≡ f = cc in
      subst (λ z. CameMade o w.made x (Came z f)) from_is
      (subst (λ z. CameMade o w.made x (Came makes.from z)) frame_is
      (record { place = k; bytes = makes.bytes; other = makes.other; stands = makes.stands; same = makes.same }))

  pub can_run : (es : List Event) (ss : List HostEntry) (w : Hosts) → IsRun o w es ss → CanRun w ss
  can_run [] [] w r = tt
  can_run [] (s ∷ ss) w r = absurd r
  can_run (e ∷ es) [] w r = absurd r
  can_run (e ∷ es) ((x, n) ∷ ss) w r = (
    record {
      there = r.0.there;
      came = made_by w e x n.event n.event refl r.0.event;
      answer = r.0.answer;
    },
    can_run es ss (after o w x n) r.1,
  )

  still_made : (x : ℕ) (v : HostEvent) (ms ns : List Made) → MadeToo ms ns → CameMade o ms x v → CameMade o ns x v
  still_made x (Do c) ms ns too is = tt
  still_made x (Came from f) ms ns too is =
      let i = too is.place (from, is.bytes) is.stands in
      record { place = i.0; bytes = is.bytes; other = is.other; stands = i.1; same = is.same }

  -- an entry that can stand can stand ever after, while its host makes none
  still : (w v : Hosts) (x : ℕ) (n : PlainEntry) → v.host x ≡ w.host x → MadeToo w.made v.made → CanStep w x n
      → CanStep v x n
  still w v x n same too can = record {
    there = can.there;
    came = still_made x n.event w.made v.made too can.came;
    answer = subst (λ (h : LawHost). IsAnswered (o.host x).version (outcome_at (o.host x) h (event_of n.event)) n)
        (sym same) can.answer;
  }

  record IsLike (v w : Hosts) : Type 0 where
    hosts : (z : ℕ) → v.host z ≡ w.host z
    made : MadeToo v.made w.made

  like_after : (v w : Hosts) → IsLike v w → (x : ℕ) (n : PlainEntry) → IsLike (after o v x n) (after o w x n)
  like_after v w l x n = record {
    hosts = λ z i.
        if z == x then (outcome_at (o.host x) (l.hosts x i) (event_of n.event)).next else l.hosts z i;
    made = more_both v.made w.made (made_more x n.frame) l.made;
  }

  run_on : (ss : List HostEntry) (v w : Hosts) → IsLike v w → CanRun v ss → CanRun w ss
  run_on [] v w l r = tt
  run_on ((x, n) ∷ ss) v w l r = (
    still v w x n (sym (l.hosts x)) l.made r.0,
    run_on ss (after o v x n) (after o w x n) (like_after v w l x n) r.1,
  )

  beside : (w : Hosts) (x y : ℕ) (m : PlainEntry) → x ≢ y → (after o w y m).host x ≡ w.host x
  beside w x y m ne = put_other w.host y x (outcome_in o w y m.event).next ne

  -- two entries of different hosts, one way and the other
  diamond : (w : Hosts) (x y : ℕ) (n m : PlainEntry) → x ≢ y
      → IsLike (after o (after o w y m) x n) (after o (after o w x n) y m)
  diamond w x y n m ne =
      let a : LawHost = (outcome_in o w y m.event).next in
      let b : LawHost = (outcome_in o w x n.event).next in
      record {
        hosts = λ z.
            (λ i.
            if z == x then (outcome_at (o.host x) (beside w x y m ne i) (event_of n.event)).next
            else (if z == y then a else w.host z))
            ∙ swap_if (z == x) (z == y) a b (w.host z)
            (λ p q. ne (sym (eqb-true z x p) ∙ eqb-true z y q))
            ∙ (λ i.
            if z == y
            then (outcome_at (o.host y) (sym (beside w y x n (λ is. ne (sym is))) i) (event_of m.event)).next
            else (if z == x then b else w.host z));
        made = more_swapped w.made (made_more y m.frame) (made_more x n.frame);
      }

  -- ONE GUEST

  module _ (Good : Hosts → Type 0)
      (goes : (w : Hosts) (x : ℕ) (n : PlainEntry) → Good w → CanStep w x n → Good (after o w x n))
      (one : (w : Hosts) (x y : ℕ) (n m : PlainEntry) → Good w → x ≢ y → CanStep w x n → CanStep w y m
      → is_accepted n ≡ true → is_accepted m ≡ true → ⊥) where
    -- an entry that can be made now, made first
    record Front (w : Hosts) (pre : List HostEntry) (x : ℕ) (n : PlainEntry) (post : List HostEntry) : Type 0 where
      can : CanRun (after o w x n) (pre ++ post)
      accepted : accepted_entries (pre ++ (x, n) ∷ post) ≡ accepted_entries ((x, n) ∷ (pre ++ post))
      entries : (z : ℕ) → entries_at z (pre ++ (x, n) ∷ post) ≡ entries_at z ((x, n) ∷ (pre ++ post))

    to_front : (pre : List HostEntry) (w : Hosts) (x : ℕ) (n : PlainEntry) (post : List HostEntry) → Good w
        → entries_at x pre ≡ [] → CanStep w x n → CanRun w (pre ++ (x, n) ∷ post) → Front w pre x n post
    to_front [] w x n post good none can run = record { can = run.1; accepted = refl; entries = λ z. refl }
    to_front ((y, m) ∷ pre) w x n post good none can run =
        let split = none_first (x == y) m (entries_at x pre) none in
        let ne : x ≢ y = eqb-false x y split.0 in
        let rest =
        to_front pre (after o w y m) x n post (goes w y m good run.0) split.1
        (still w (after o w y m) x n (beside w x y m ne) (more w.made (made_more y m.frame)) can) run.1
        in
        record {
          can = (
            still w (after o w x n) y m (beside w y x n (λ is. ne (sym is))) (more w.made (made_more x n.frame)) run.0,
            run_on (pre ++ post) (after o (after o w y m) x n) (after o (after o w x n) y m) (diamond w x y n m ne)
                rest.can,
          );
          accepted =
              ap (cons_if (is_accepted m) (y, m)) rest.accepted
              ∙ swap (is_accepted m) (is_accepted n) (y, m) (x, n) (accepted_entries (pre ++ post))
              (λ second first. one w x y n m good ne can run.0 first second);
          entries = λ z.
              ap (cons_if (z == y) m) (rest.entries z)
              ∙ swap (z == y) (z == x) m n (entries_at z (pre ++ post))
              (λ q p. ne (sym (eqb-true z x p) ∙ eqb-true z y q));
        }

    pub same_accepted : (ss ts : List HostEntry) (w : Hosts) → Good w → CanRun w ss → CanRun w ts
        → ((z : ℕ) → z < o.count → entries_at z ss ≡ entries_at z ts) → accepted_entries ss ≡ accepted_entries ts
    same_accepted [] [] w good r t same = refl
    same_accepted [] ((y, m) ∷ ts) w good r t same =
        absurd (let e = same y t.0.there ∙ own_entries y m ts in cc)
    same_accepted ((x, n) ∷ ss) ts w good r t same =
        let f = find x n (entries_at x ss) ts (sym (same x r.0.there) ∙ own_entries x n ss) in
        let front = to_front f.pre w x n f.post good f.none r.0 (subst (CanRun w) f.is t) in
        ap (cons_if (is_accepted n) (x, n))
        (same_accepted ss (f.pre ++ f.post) (after o w x n) (goes w x n good r.0) r.1 front.can
        (λ z lt. cancel (z == x) n _ _ (same z lt ∙ ap (entries_at z) f.is ∙ front.entries z)))
        ∙ sym (ap accepted_entries f.is ∙ front.accepted)

    -- a run that has the beginnings of the other's entries
    pub begins_alike : (ss ts : List HostEntry) (w : Hosts) → Good w → CanRun w ss → CanRun w ts
        → ((z : ℕ) → z < o.count → (rest : List PlainEntry) × (entries_at z ts ≡ entries_at z ss ++ rest))
        → (rest : List HostEntry) × (accepted_entries ts ≡ accepted_entries ss ++ rest)
    begins_alike [] ts w good r t same = (accepted_entries ts, refl)
    begins_alike ((x, n) ∷ ss) ts w good r t same =
        let p = same x r.0.there in
        let f = find x n (entries_at x ss ++ p.0) ts (p.1 ∙ ap (λ es. es ++ p.0) (own_entries x n ss)) in
        let front = to_front f.pre w x n f.post good f.none r.0 (subst (CanRun w) f.is t) in
        let rest =
        begins_alike ss (f.pre ++ f.post) (after o w x n) (goes w x n good r.0) r.1 front.can
        (λ z lt.
        let q = same z lt in (
          q.0,
          cancel (z == x) n _ _
              (sym (ap (entries_at z) f.is ∙ front.entries z) ∙ q.1 ∙ sym (cons_append (z == x) n (entries_at z ss) q.0)),
        ))
        in (
          rest.0,
          ap accepted_entries f.is ∙ front.accepted ∙ ap (cons_if (is_accepted n) (x, n)) rest.1
              ∙ cons_append (is_accepted n) (x, n) (accepted_entries ss) rest.0,
        )
