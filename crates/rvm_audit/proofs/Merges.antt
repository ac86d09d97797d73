-- One more entry joins the order.
use Rattle.std.proofs.Common.{◌≡◌, ◌∙◌, ℕ, zero, suc, ◌+◌, ◌<◌, ◌==◌, Bool, true, false, if◌then◌else◌, List, [], ◌∷◌, ◌++◌, Option, length, length-append, take, drop, append_assoc, Some, None, refl, sym, ap, subst, arith, inl, inr}
use Rattle.std.specs.Prelude.{slice_get, is_some, bytes_eq, ◌⊎◌}
use Rattle.std.proofs.Math.Seq.{take-length}
use Rattle.std.proofs.lemmas.Bool.{eqb-true, ltb-true}
use Rattle.std.proofs.lemmas.Option.{slice_get_within, same_Some, some_pair_parts}
use Rattle.std.proofs.lemmas.Slice.Eq.{bytes_eq-Decides}
use Rattle.rvm_host.specs.Hosts.{PlainHost, host_of}
use Rattle.rvm_recorder.specs.Entries.{PlainEntry}
use Rattle.rvm_recorder.specs.Replay.{IsAnswered, IsReplay, IsReplayFrom, LawHost, outcome_at, replay_from}
use Rattle.rvm_message.specs.declared.event.HostEvent.{HostEvent}
use Rattle.rvm_message.specs.declared.event.HostEvent.TheVariants.{Do, Came}
use Rattle.rvm_message.specs.Events.{event_of}
use Rattle.rvm_protocol.specs.Host.{is_there}
use Rattle.rvm_protocol.specs.Pages.{put}
use Rattle.rvm_core.specs.declared.event.Event.{Event}
use Rattle.rvm_core.specs.declared.event.Event.TheVariants.{At, Deliver}
use Rattle.rvm_audit.specs.Hosts.{HasBytes, HostEntry, Hosts, IsEvent, IsRun, Made, Makes, Openings, after, after_all, cons_if, entries_at, made_more, opened, outcome_in}
use Rattle.rvm_audit.specs.Orders.{CameUnmade, IsStuck, Journals, cut}
use Rattle.rvm_audit.proofs.Gets.{drop_end, drop_get, get_end, get_front, get_last, get_nothing, get_take}
use Rattle.rvm_audit.proofs.Runs.{ends_of, host_after}
use Rattle.rvm_audit.proofs.Steps.{and_first, cons_append, done_next, within_next}
use Rattle.rvm_audit.specs.Merged.{IsIndex, Merged}
use Rattle.rvm_audit.specs.Merging.{Becomes, IsUnmade, IsWaiting, Places, counted, key_of, noted}
use Rattle.rvm_audit.specs.Rule.{AllLowest, AllTurns, CannotStand, IsEnd, IsLowestAt, IsMerge, IsTurn}

-- THE PLACES

-- a key that has a place had it, or is the key of the new frame
noted_some : (o : Option ℕ) (b : Bool) (count k : ℕ)
    → (if is_some o then o else (if b then Some count else None)) ≡ Some k
    → (o ≡ Some k) ⊎ ((o ≡ None) × (b ≡ true) × (k ≡ count))
noted_some (Some n) b count k is = inl is
noted_some None true count k is = inr (refl, refl, sym (same_Some count k is))
noted_some None false count k is = absurd cc

noted_none : (o : Option ℕ) (b : Bool) (count : ℕ)
    → (if is_some o then o else (if b then Some count else None)) ≡ None → (o ≡ None) × (b ≡ false)
noted_none (Some n) b count is = absurd cc
noted_none None true count is = absurd cc
noted_none None false count is = (refl, refl)

parts : (x y : ℕ) (xs ys : List ℕ) → ◌≡◌ {A = List ℕ} (x ∷ xs) (y ∷ ys) → (x ≡ y) × (xs ≡ ys)
parts x y xs ys is = (cc, cc)

same_key : (x y : ℕ) (new bytes : List ℕ) → bytes_eq (x ∷ new) (y ∷ bytes) ≡ true → (x ≡ y) × (new ≡ bytes)
same_key x y new bytes is = parts x y new bytes ((bytes_eq-Decides (x ∷ new) (y ∷ bytes)).0 is)

other_key : (x y : ℕ) (new bytes : List ℕ) → bytes_eq (x ∷ new) (y ∷ bytes) ≡ false → x ≡ y → new ≡ bytes → ⊥
other_key x y new bytes is same_x same_bytes =
    let yes = (bytes_eq-Decides (x ∷ new) (y ∷ bytes)).1 (λ i. same_x i ∷ same_bytes i) in cc

module _ (x : ℕ) (new : List ℕ) (made : List Made) (count : ℕ) (p q : Places) (count_is : length made ≡ count)
    (index : IsIndex made p) (own : (key : List ℕ) → q key ≡ noted (Some (x ∷ new)) count p key) where
  abbrev all_made : List Made
  all_made = made ++ (x, new) ∷ []

  found_more : (y : ℕ) (bytes : List ℕ) (k : ℕ) → q (y ∷ bytes) ≡ Some k → slice_get all_made k ≡ Some (y, bytes)
  found_more y bytes k is =
      elim (noted_some (p (y ∷ bytes)) (bytes_eq (x ∷ new) (y ∷ bytes)) count k (sym (own (y ∷ bytes)) ∙ is)) [
        | inl had ↦ get_front made ((x, new) ∷ []) k (y, bytes) (index.found y bytes k had)
        | inr got ↦
            (let same = same_key x y new bytes got.1 in
            ap (slice_get all_made) (got.2 ∙ sym count_is) ∙ get_end made (x, new)
            ∙ (λ i. Some (same.0 i, same.1 i)))
      ]

  lowest_more : (y : ℕ) (bytes : List ℕ) (k j : ℕ) → q (y ∷ bytes) ≡ Some k → j < k
      → slice_get all_made j ≡ Some (y, bytes) → ⊥
  lowest_more y bytes k j is lt at =
      elim (noted_some (p (y ∷ bytes)) (bytes_eq (x ∷ new) (y ∷ bytes)) count k (sym (own (y ∷ bytes)) ∙ is)) [
        | inl had ↦ elim (get_last made (x, new) j (y, bytes) at) [
          | inl here ↦ index.lowest y bytes k j had lt here
          | inr last ↦
              (let within = slice_get_within made k (y, bytes) (index.found y bytes k had) in
              let place = last.1 in omega (arith, within, place, lt))
        ]
        | inr got ↦ elim (get_last made (x, new) j (y, bytes) at) [
          | inl here ↦ index.all y bytes j got.0 here
          | inr last ↦ let place = last.1 in let k_is = got.2 in omega (arith, place, k_is, count_is, lt)
        ]
      ]

  all_more : (y : ℕ) (bytes : List ℕ) (j : ℕ) → q (y ∷ bytes) ≡ None → slice_get all_made j ≡ Some (y, bytes) → ⊥
  all_more y bytes j is at =
      let none = noted_none (p (y ∷ bytes)) (bytes_eq (x ∷ new) (y ∷ bytes)) count (sym (own (y ∷ bytes)) ∙ is) in
      elim (get_last made (x, new) j (y, bytes) at) [
        | inl here ↦ index.all y bytes j none.0 here
        | inr last ↦
            let e = some_pair_parts x y new bytes (ap Some last.0) in other_key x y new bytes none.1 e.0 e.1
      ]

-- the places after one more entry, which may have made a frame
index_next : (x : ℕ) (frame : Option (List ℕ)) (made : List Made) (count : ℕ) (p q : Places) → length made ≡ count
    → IsIndex made p → ((key : List ℕ) → q key ≡ noted (key_of x frame) count p key)
    → IsIndex (made ++ made_more x frame) q
index_next x None made count p q is index own = record {
  found = λ y bytes k got. get_front made [] k (y, bytes) (index.found y bytes k (sym (own (y ∷ bytes)) ∙ got));
  lowest = λ y bytes k j got lt at.
      index.lowest y bytes k j (sym (own (y ∷ bytes)) ∙ got) lt (get_nothing made j (y, bytes) at);
  all = λ y bytes j none at.
      index.all y bytes j (sym (own (y ∷ bytes)) ∙ none) (get_nothing made j (y, bytes) at);
}
index_next x (Some new) made count p q is index own = record {
  found = found_more x new made count p q is index own;
  lowest = lowest_more x new made count p q is index own;
  all = all_more x new made count p q is index own;
}

-- the number of frames after one more entry
more_length : (x : ℕ) (frame : Option (List ℕ)) (made : List Made) (count : ℕ) → length made ≡ count
    → length (made ++ made_more x frame) ≡ counted frame count
more_length x None made count is = let l = length-append made (made_more x None) in omega (arith, l, is)
more_length x (Some bytes) made count is = let l = length-append made (made_more x (Some bytes)) in omega (arith, l, is)

-- ENTRIES

one_append : (b : Bool) (n : PlainEntry) (rest : List PlainEntry) → cons_if b n [] ++ rest ≡ cons_if b n rest
one_append true n rest = refl
one_append false n rest = refl

entries_snoc : (y : ℕ) (ss : List HostEntry) (x : ℕ) (n : PlainEntry)
    → entries_at y (ss ++ (x, n) ∷ []) ≡ entries_at y ss ++ cons_if (y == x) n []
entries_snoc y [] x n = refl
entries_snoc y ((z, k) ∷ ss) x n =
    ap (cons_if (y == z) k) (entries_snoc y ss x n) ∙ cons_append (y == z) k (entries_at y ss) (cons_if (y == x) n [])

behind : (y : ℕ) (ss : List HostEntry) (x : ℕ) (n : PlainEntry) (rest left : List PlainEntry)
    → left ≡ cons_if (y == x) n rest
    → entries_at y (ss ++ (x, n) ∷ []) ++ rest ≡ entries_at y ss ++ left
behind y ss x n rest left is =
    ap (λ es. es ++ rest) (entries_snoc y ss x n) ∙ append_assoc (entries_at y ss) (cons_if (y == x) n []) rest
    ∙ ap (λ es. entries_at y ss ++ es) (one_append (y == x) n rest ∙ sym is)

-- what is left of a host after one of its entries
left_next : (b : Bool) (i k : ℕ) (n : PlainEntry) (xs : List PlainEntry) → (b ≡ true → (slice_get xs i ≡ Some n) × (k ≡ suc i))
    → drop i xs ≡ cons_if b n (drop (if b then k else i) xs)
left_next true i k n xs is = drop_get xs i n (is refl).0 ∙ ap (λ m. n ∷ drop m xs) (sym (is refl).1)
left_next false i k n xs is = refl

replay_at : (o : PlainHost) (h : LawHost) (xs : List PlainEntry) → IsReplayFrom o h xs → (i : ℕ) (n : PlainEntry)
    → slice_get xs i ≡ Some n → IsAnswered o.version (outcome_at o (replay_from o h (take i xs)) (event_of n.event)) n
replay_at o h [] all i n at = cc
replay_at o h (x ∷ xs) all zero n at =
    let e : x ≡ n = cc in subst (λ y. IsAnswered o.version (outcome_at o h (event_of y.event)) y) e all.0
replay_at o h (x ∷ xs) all (suc i) n at = replay_at o (outcome_at o h (event_of x.event)).next xs all.1 i n at

-- RUNS

module _ (o : Openings) where
  run_snoc : (w : Hosts) (es : List Event) (ss : List HostEntry) (e : Event) (x : ℕ) (n : PlainEntry) → IsRun o w es ss
      → Makes o (after_all o w ss) e x n → IsRun o w (es ++ e ∷ []) (ss ++ (x, n) ∷ [])
  run_snoc w [] [] e x n r m = (m, tt)
  run_snoc w [] (s ∷ ss) e x n r m = absurd r
  run_snoc w (d ∷ es) [] e x n r m = absurd r
  run_snoc w (d ∷ es) (s ∷ ss) e x n r m = (r.0, run_snoc (after o w s.0 s.1) es ss e x n r.1 m)

  lowest_snoc : (w : Hosts) (es : List Event) (ss : List HostEntry) (e : Event) (x : ℕ) (n : PlainEntry) → IsRun o w es ss
      → AllLowest o w es ss → IsLowestAt (after_all o w ss) e → AllLowest o w (es ++ e ∷ []) (ss ++ (x, n) ∷ [])
  lowest_snoc w [] [] e x n r l m = (m, tt)
  lowest_snoc w [] (s ∷ ss) e x n r l m = absurd r
  lowest_snoc w (d ∷ es) [] e x n r l m = absurd r
  lowest_snoc w (d ∷ es) (s ∷ ss) e x n r l m = (l.0, lowest_snoc (after o w s.0 s.1) es ss e x n r.1 l.1 m)

  after_snoc : (w : Hosts) (ss : List HostEntry) (x : ℕ) (n : PlainEntry)
      → after_all o w (ss ++ (x, n) ∷ []) ≡ after o (after_all o w ss) x n
  after_snoc w [] x n = refl
  after_snoc w (s ∷ ss) x n = after_snoc (after o w s.0 s.1) ss x n

  turns_snoc : (w : Hosts) (ss : List HostEntry) (x : ℕ) (n : PlainEntry) (rest left : ℕ → List PlainEntry)
      → ((y : ℕ) → left y ≡ cons_if (y == x) n (rest y))
      → AllTurns o w ss left → IsTurn o (after_all o w ss) x left → AllTurns o w (ss ++ (x, n) ∷ []) rest
  turns_snoc w [] x n rest left is all turn = (
    λ y lt. subst (CannotStand o w y) (is y ∙ sym (one_append (y == x) n (rest y))) (turn y lt),
    tt,
  )
  turns_snoc w (s ∷ ss) x n rest left is all turn = (
    λ y lt. subst (CannotStand o w y) (sym (behind y (s ∷ ss) x n (rest y) (left y) (is y))) (all.0 y lt),
    turns_snoc (after o w s.0 s.1) ss x n rest left is all.1 turn,
  )

  -- an event that can stand makes its entry
  becomes_makes : (w : Hosts) (x : ℕ) (n : PlainEntry) (v : HostEvent) (places : Places) (e : Event) → x < o.count
      → n.event ≡ v → IsAnswered (o.host x).version (outcome_in o w x n.event) n → IsIndex w.made places
      → Becomes (o.host x).version o.count x v places e → Makes o w e x n × IsLowestAt w e
  becomes_makes w x n (Do c) places e lt v is index can =
      subst (λ d. Makes o w d x n × IsLowestAt w d) (sym can)
      (record { there = lt; event = (refl, v); answer = is }, tt)
  becomes_makes w x n (Came from f) places e lt v is index can =
      let k = can.0 in
      let placed = can.2 in
      let there = index.found from placed.bytes k placed.there in
      subst (λ d. Makes o w d x n × IsLowestAt w d) (sym can.1) (
        record {
          there = lt;
          event = record {
            from = from;
            frame = f;
            bytes = placed.bytes;
            event = v;
            other = placed.other;
            stands = there;
            same = placed.same;
          };
          answer = is;
        },
        λ j lt same. index.lowest from placed.bytes k j placed.there lt (same ∙ there),
      )

  -- a frame that cannot stand is no event of the world
  no_event : (w : Hosts) (y : ℕ) (places : Places) (v : HostEvent) (e : Event) → IsIndex w.made places
      → IsUnmade (o.host y).version o.count y v places → IsEvent o w e y v → ⊥
  no_event w y places (Do c) e index un is = un
  no_event w y places (Came from f) (At h c) index un is = let d = is.1 in cc
  no_event w y places (Came from f) (Deliver k) index un is =
      let same : Came from f ≡ Came is.from is.frame = is.event in
      let from_is : is.from ≡ from = cc in
      let frame_is : is.frame ≡ f = cc in
      index.all from is.bytes k
      (un is.bytes (subst (λ z. is_there y o.count z ≡ true) from_is is.other)
      (subst (λ g. HasBytes (o.host y).version from y g is.bytes) frame_is
      (subst (λ z. HasBytes (o.host y).version z y is.frame is.bytes) from_is is.same)))
      (is.stands ∙ ap (λ (z : ℕ). Some (z, is.bytes)) from_is)

  cannot_stand : (w : Hosts) (y : ℕ) (xs : List PlainEntry) (i : ℕ) (places : Places) → IsIndex w.made places
      → IsWaiting (o.host y).version o.count y xs i places → CannotStand o w y (drop i xs)
  cannot_stand w y xs i places index (inl le) = subst (CannotStand o w y) (sym (drop_end xs i le)) tt
  cannot_stand w y xs i places index (inr n) =
      subst (CannotStand o w y) (sym (drop_get xs i n.0 n.1)) (λ e is. no_event w y places n.0.event e index n.2 is)

  made_stays : (w : Hosts) (ss : List HostEntry) (i : ℕ) (s : Made) → slice_get w.made i ≡ Some s
      → slice_get (after_all o w ss).made i ≡ Some s
  made_stays w [] i s at = at
  made_stays w ((x, n) ∷ ss) i s at =
      made_stays (after o w x n) ss i s (get_front w.made (made_more x n.frame) i s at)

  made_new : (w : Hosts) (y : ℕ) (frame : Option (List ℕ)) (bytes : List ℕ) → frame ≡ Some bytes
      → slice_get (w.made ++ made_more y frame) (length w.made) ≡ Some (y, bytes)
  made_new w y frame bytes is =
      subst (λ o. slice_get (w.made ++ made_more y o) (length w.made) ≡ Some (y, bytes)) (sym is)
      (get_end w.made (y, bytes))

  -- each frame that a host's entries made is there
  abbrev IsMade : ℕ → Hosts → List HostEntry → List ℕ → Type 0
  IsMade y w ss bytes = (i : ℕ) × (slice_get (after_all o w ss).made i ≡ Some (y, bytes))

  made_here : (y x : ℕ) (w : Hosts) (m : PlainEntry) (ss : List HostEntry) (bytes : List ℕ)
      → ((k : ℕ) (n : PlainEntry) → slice_get (entries_at y ss) k ≡ Some n → n.frame ≡ Some bytes
      → IsMade y (after o w x m) ss bytes)
      → (b : Bool) → (b ≡ true → y ≡ x) → (k : ℕ) (n : PlainEntry)
      → slice_get (cons_if b m (entries_at y ss)) k ≡ Some n → n.frame ≡ Some bytes → IsMade y (after o w x m) ss bytes
  made_here y x w m ss bytes rest true same zero n at is =
      let e : m ≡ n = cc in (
        length w.made,
        made_stays (after o w x m) ss (length w.made) (y, bytes)
            (subst (λ z. slice_get (w.made ++ made_more z m.frame) (length w.made) ≡ Some (y, bytes)) (same refl)
            (made_new w y m.frame bytes (ap (λ (n : PlainEntry). n.frame) e ∙ is))),
      )
  made_here y x w m ss bytes rest true same (suc k) n at is = rest k n at is
  made_here y x w m ss bytes rest false same k n at is = rest k n at is

  made_all : (y : ℕ) (ss : List HostEntry) (w : Hosts) (k : ℕ) (n : PlainEntry) (bytes : List ℕ)
      → slice_get (entries_at y ss) k ≡ Some n → n.frame ≡ Some bytes → IsMade y w ss bytes
  made_all y [] w k n bytes at is = cc
  made_all y ((x, m) ∷ ss) w k n bytes at is =
      made_here y x w m ss bytes (λ k n at is. made_all y ss (after o w x m) k n bytes at is) (y == x) (eqb-true y x)
      k n at is

-- ONE MORE

module _ (j : Journals) (at : ℕ → ℕ) (es : List Event) (p : Places) (count : ℕ) (m : Merged j at es p count) where
  abbrev o : Openings
  o = j.openings

  abbrev v : Hosts
  v = after_all o (opened o) m.sequence

  pub take_one : (x : ℕ) → x < o.count → IsReplay (o.host x) (j.entries x)
      → ((y : ℕ) → y < x → IsWaiting (o.host y).version o.count y (j.entries y) (at y) p)
      → (n : PlainEntry) → slice_get (j.entries x) (at x) ≡ Some n → (e : Event)
      → Becomes (o.host x).version o.count x n.event p e → (p' : Places)
      → ((key : List ℕ) → p' key ≡ noted (key_of x n.frame) count p key)
      → Merged j (put at x (at x + 1)) (es ++ e ∷ []) p' (counted n.frame count)
  take_one x lt all waits n here e can p' own =
      let host : v.host x ≡ replay_from (o.host x) (host_of (o.host x)) (take (at x) (j.entries x)) =
      host_after o x (opened o) m.sequence ∙ ap (replay_from (o.host x) (host_of (o.host x))) (m.entries x lt)
      in
      let is : IsAnswered (o.host x).version (outcome_in o v x n.event) n =
      subst (λ h. IsAnswered (o.host x).version (outcome_at (o.host x) h (event_of n.event)) n) (sym host)
      (replay_at (o.host x) (host_of (o.host x)) (j.entries x) all (at x) n here)
      in
      let makes = becomes_makes o v x n n.event p e lt refl is m.index can in
      let made_is : (after_all o (opened o) (m.sequence ++ (x, n) ∷ [])).made ≡ v.made ++ made_more x n.frame =
      ap (λ (u : Hosts). u.made) (after_snoc o (opened o) m.sequence x n)
      in
      let next : (y : ℕ) → (y == x) ≡ true → (slice_get (j.entries y) (at y) ≡ Some n) × (at x + 1 ≡ suc (at y)) =
      λ y same.
      let e = eqb-true y x same in (
        subst (λ z. slice_get (j.entries z) (at z) ≡ Some n) (sym e) here,
        (let q = ap at e in omega (arith, q)),
      )
      in
      record {
        within = λ y y_lt. within_next (y == x) (at y) (at x + 1) n (j.entries y) (next y) (m.within y y_lt);
        sequence = m.sequence ++ (x, n) ∷ [];
        run = run_snoc o (opened o) es m.sequence e x n m.run makes.0;
        lowest = lowest_snoc o (opened o) es m.sequence e x n m.run m.lowest makes.1;
        turns = turns_snoc o (opened o) m.sequence x n (λ y. drop (put at x (at x + 1) y) (j.entries y))
            (λ y. drop (at y) (j.entries y))
            (λ y. left_next (y == x) (at y) (at x + 1) n (j.entries y) (next y)) m.turns
            (λ y y_lt. cannot_stand o v y (j.entries y) (at y) p m.index (waits y y_lt));
        entries = λ y y_lt.
            entries_snoc y m.sequence x n ∙ ap (λ xs. xs ++ cons_if (y == x) n []) (m.entries y y_lt)
            ∙ done_next (y == x) (at y) (at x + 1) n (j.entries y) (next y);
        index = subst (λ made. IsIndex made p') (sym made_is)
            (index_next x n.frame v.made count p p' m.count_is m.index own);
        count_is = ap length made_is ∙ more_length x n.frame v.made count m.count_is;
      }

  -- a host that waits is stuck
  unmade : (x : ℕ) (n : PlainEntry) → slice_get (j.entries x) (at x) ≡ Some n → (u : HostEvent) → n.event ≡ u
      → IsUnmade (o.host x).version o.count x u p → CameUnmade j at x
  unmade x n here (Do c) is never = absurd never
  unmade x n here (Came from f) is never = record {
    entry = n;
    from = from;
    frame = f;
    stands = here;
    came = is;
    unmade = λ bytes other same b.
        (let there =
        ap (λ xs. slice_get xs b.place) (m.entries from (ltb-true from o.count (and_first _ _ other)))
        ∙ get_take (j.entries from) (at from) b.place b.below ∙ b.stands
        in
        let s = made_all o from m.sequence (opened o) b.place b.entry bytes there b.made in
        m.index.all from bytes s.0 (never bytes other same) s.1);
  }

  waits : (x : ℕ) → x < o.count → IsWaiting (o.host x).version o.count x (j.entries x) (at x) p → IsStuck j at x
  waits x lt (inl le) = let w = m.within x lt in inl (omega (arith, le, w))
  waits x lt (inr n) = inr (unmade x n.0 n.1 n.0.event refl n.2)

  -- if all was taken, the events are the order of the rule
  whole : ((x : ℕ) → x < o.count → at x ≡ length (j.entries x)) → IsMerge j es
  whole ended =
      let same : (x : ℕ) → x < o.count → entries_at x m.sequence ≡ j.entries x =
      λ x lt. m.entries x lt ∙ ap (λ k. take k (j.entries x)) (ended x lt) ∙ take-length (j.entries x)
      in
      record {
        order = record { sequence = m.sequence; run = m.run; entries = same; ends = ends_of j m.sequence same };
        lowest = m.lowest;
        turns = ended_turns es m.sequence (opened o) m.run m.turns;
      }
    where
      ended_turns : (ds : List Event) (ss : List HostEntry) (w : Hosts) → IsRun o w ds ss
          → AllTurns o w ss (λ y. drop (at y) (j.entries y)) → AllTurns o w ss (λ y. [])
      ended_turns ds [] w r all = tt
      ended_turns [] (s ∷ ss) w r all = absurd r
      ended_turns (d ∷ ds) (s ∷ ss) w r all = (
        λ y lt. subst (λ xs. CannotStand o w y (entries_at y (s ∷ ss) ++ xs))
            (drop_end (j.entries y) (at y)
            (let x_lt = r.0.there in let e = ended y (omega (arith, x_lt, lt)) in omega (arith, e))) (all.0 y lt),
        ended_turns ds ss (after o w s.0 s.1) r.1 all.1,
      )

  -- no host goes on
  pub ended : ((x : ℕ) → x < o.count → IsWaiting (o.host x).version o.count x (j.entries x) (at x) p) → IsEnd j at es
  ended all = record {
    within = m.within;
    order =
        record { sequence = m.sequence; run = m.run; entries = m.entries; ends = ends_of (cut at j) m.sequence m.entries };
    merge = whole;
    stuck = λ x lt. waits x lt (all x lt);
  }

-- nothing is in the order
pub nothing : (j : Journals) (p : Places) → ((key : List ℕ) → p key ≡ None) → Merged j (λ x. 0) [] p 0
nothing j p none = record {
  within = λ x lt. omega arith;
  sequence = [];
  run = tt;
  lowest = tt;
  turns = tt;
  entries = λ x lt. refl;
  index = record {
    found = λ y bytes k is. absurd (let n = none (y ∷ bytes) in cc);
    lowest = λ y bytes k j is lt at. absurd (let n = none (y ∷ bytes) in cc);
    all = λ y bytes j is at. absurd cc;
  };
  count_is = refl;
}
