-- Journals that contradict one another have no explanation.
use Rattle.std.proofs.Common.{◌≡◌, ◌∙◌, ℕ, zero, suc, ◌+◌, ◌<◌, ◌≤◌, ◌==◌, Bool, true, false, List, [], ◌∷◌, ◌++◌, Option, length, length-append, append-nil, take, drop, Some, None, refl, sym, ap, subst, arith, inl, inr}
use Rattle.std.specs.Prelude.{slice_get}
use Rattle.std.proofs.Math.Seq.{take-length}
use Rattle.std.proofs.lemmas.Bool.{cases_lt, eqb-true, ltb-true}
use Rattle.std.proofs.lemmas.Option.{same_Some, slice_get_within, some_pair_parts}
use Rattle.rvm_recorder.specs.Entries.{PlainEntry}
use Rattle.rvm_message.specs.declared.event.HostEvent.TheVariants.{Came}
use Rattle.rvm_protocol.specs.Host.{is_there}
use Rattle.rvm_audit.specs.Hosts.{HasBytes, HostEntry, Made, cons_if, entries_at, made_more}
use Rattle.rvm_audit.specs.Orders.{CameUnmade, IsStuck, Journals}
use Rattle.rvm_audit.specs.Cuts.{Contradicts, IsContradiction, IsExplained, IsExplanation, all_made}
use Rattle.rvm_audit.proofs.Gets.{get_end, get_front, take_get}
use Rattle.rvm_audit.proofs.Steps.{and_first, cons_append, own_entries}

-- THE FRAMES OF A SEQUENCE

pub get_behind : {X : Type 0} (xs ys : List X) (i : ℕ) (s : X) → slice_get ys i ≡ Some s
    → slice_get (xs ++ ys) (length xs + i) ≡ Some s
get_behind [] ys i s at = let same : 0 + i ≡ i = omega arith in ap (slice_get ys) same ∙ at
get_behind (x ∷ xs) ys i s at =
    let same : suc (length xs) + i ≡ suc (length xs + i) = omega arith in
    ap (slice_get (x ∷ (xs ++ ys))) same ∙ get_behind xs ys i s at

-- the frame of an entry of host y is among those of the sequence
abbrev pub IsAmong : (y : ℕ) → List HostEntry → List ℕ → Type 0
IsAmong y ss bytes = (i : ℕ) × (slice_get (all_made ss) i ≡ Some (y, bytes))

among_more : (y : ℕ) (s : HostEntry) (ss : List HostEntry) (bytes : List ℕ) → IsAmong y ss bytes
    → IsAmong y (s ∷ ss) bytes
among_more y s ss bytes m = (
  length (made_more s.0 s.1.frame) + m.0,
  get_behind (made_more s.0 s.1.frame) (all_made ss) m.0 (y, bytes) m.1,
)

among_first : (y x : ℕ) (frame : Option (List ℕ)) (rest : List Made) (bytes : List ℕ) → y ≡ x → frame ≡ Some bytes
    → slice_get (made_more x frame ++ rest) 0 ≡ Some (y, bytes)
among_first y x frame rest bytes same is =
    subst (λ o. slice_get (made_more x o ++ rest) 0 ≡ Some (y, bytes)) (sym is) (ap (λ (z : ℕ). Some (z, bytes))
    (sym same))

made_next : (y x : ℕ) (m : PlainEntry) (ss : List HostEntry) (n : PlainEntry) (bytes : List ℕ)
    → ((k : ℕ) → slice_get (entries_at y ss) k ≡ Some n → IsAmong y ss bytes) → n.frame ≡ Some bytes
    → (b : Bool) → (b ≡ true → y ≡ x) → (k : ℕ) → slice_get (cons_if b m (entries_at y ss)) k ≡ Some n
    → IsAmong y ((x, m) ∷ ss) bytes
made_next y x m ss n bytes rest is true same zero at = (
  0,
  among_first y x m.frame (all_made ss) bytes (same refl) (ap (λ (e : PlainEntry). e.frame) (same_Some m n at)
      ∙ is),
)
made_next y x m ss n bytes rest is true same (suc k) at = among_more y (x, m) ss bytes (rest k at)
made_next y x m ss n bytes rest is false same k at = among_more y (x, m) ss bytes (rest k at)

pub made_among : (y : ℕ) (ss : List HostEntry) (k : ℕ) (n : PlainEntry) (bytes : List ℕ)
    → slice_get (entries_at y ss) k ≡ Some n → n.frame ≡ Some bytes → IsAmong y ss bytes
made_among y [] k n bytes at is = cc
made_among y ((x, m) ∷ ss) k n bytes at is =
    made_next y x m ss n bytes (λ i there. made_among y ss i n bytes there is) is (y == x) (eqb-true y x) k at

-- an entry of host y in a sequence made these bytes
pub record HasMade (y : ℕ) (ss : List HostEntry) (bytes : List ℕ) : Type 0 where
  pub place : ℕ
  pub entry : PlainEntry
  pub stands : slice_get (entries_at y ss) place ≡ Some entry
  pub made : entry.frame ≡ Some bytes

made_further : (y : ℕ) (s : HostEntry) (ss : List HostEntry) (bytes : List ℕ) → HasMade y ss bytes
    → HasMade y (s ∷ ss) bytes
made_further y s ss bytes m =
    let found = by (y == s.0) in
    record { place = found.0; entry = m.entry; stands = found.1; made = m.made }
  where
    by : (b : Bool) → (place : ℕ) × (slice_get (cons_if b s.1 (entries_at y ss)) place ≡ Some m.entry)
    by true = (suc m.place, m.stands)
    by false = (m.place, m.stands)

among_next : (y x : ℕ) (m : PlainEntry) (ss : List HostEntry) (bytes : List ℕ)
    → ((i : ℕ) → slice_get (all_made ss) i ≡ Some (y, bytes) → HasMade y ss bytes) → (o : Option (List ℕ)) → m.frame ≡ o
    → (i : ℕ) → slice_get (made_more x o ++ all_made ss) i ≡ Some (y, bytes) → HasMade y ((x, m) ∷ ss) bytes
among_next y x m ss bytes rest None is i at = made_further y (x, m) ss bytes (rest i at)
among_next y x m ss bytes rest (Some new) is zero at =
    let same = some_pair_parts x y new bytes at in
    record {
      place = 0;
      entry = m;
      stands =
          subst (λ z. slice_get (entries_at z ((x, m) ∷ ss)) 0 ≡ Some m) same.0 (ap (λ xs. slice_get xs 0)
          (own_entries x m ss));
      made = is ∙ ap (λ (b : List ℕ). Some b) same.1;
    }
among_next y x m ss bytes rest (Some new) is (suc i) at = made_further y (x, m) ss bytes (rest i at)

pub among_made : (y : ℕ) (ss : List HostEntry) (i : ℕ) (bytes : List ℕ) → slice_get (all_made ss) i ≡ Some (y, bytes)
    → HasMade y ss bytes
among_made y [] i bytes at = cc
among_made y ((x, m) ∷ ss) i bytes at =
    among_next y x m ss bytes (λ k there. among_made y ss k bytes there) m.frame refl i at

-- THE ENTRIES OF A SEQUENCE

pub entries_append : (y : ℕ) (ss ts : List HostEntry) → entries_at y (ss ++ ts) ≡ entries_at y ss ++ entries_at y ts
entries_append y [] ts = refl
entries_append y (s ∷ ss) ts =
    ap (cons_if (y == s.0) s.1) (entries_append y ss ts)
    ∙ cons_append (y == s.0) s.1 (entries_at y ss) (entries_at y ts)

take_drop : {X : Type 0} (k : ℕ) (xs : List X) → take k xs ++ drop k xs ≡ xs
take_drop zero [] = refl
take_drop zero (x ∷ xs) = refl
take_drop (suc k) [] = refl
take_drop (suc k) (x ∷ xs) = ap (λ ys. x ∷ ys) (take_drop k xs)

there_is : {X : Type 0} (xs : List X) (k : ℕ) → k < length xs → (x : X) × (slice_get xs k ≡ Some x)
there_is [] k lt = absurd (omega (arith, lt))
there_is (x ∷ xs) zero lt = (x, refl)
there_is (x ∷ xs) (suc k) lt = there_is xs k (omega (arith, lt))

module _ (j : Journals) (is_cut : ℕ → Bool) (places : ℕ → ℕ) (members : ℕ
    → Bool) (c : Contradicts j is_cut places members)
    (ss : List HostEntry) (e : IsExplanation j is_cut ss) where
  abbrev done : ℕ → ℕ → List PlainEntry
  done k y = entries_at y (take k ss)

  -- what stands before is the beginning of a journal
  done_is : (k y : ℕ) → y < j.openings.count → done k y ++ entries_at y (drop k ss) ≡ j.entries y
  done_is k y lt = sym (entries_append y (take k ss) (drop k ss)) ∙ ap (entries_at y) (take_drop k ss) ∙ e.entries y lt

  of_journal : (k y i : ℕ) (n : PlainEntry) → y < j.openings.count → slice_get (done k y) i ≡ Some n
      → slice_get (j.entries y) i ≡ Some n
  of_journal k y i n lt at =
      ap (λ xs. slice_get xs i) (sym (done_is k y lt)) ∙ get_front (done k y) (entries_at y (drop k ss)) i n at

  abbrev AllWithin : ℕ → Type 0
  AllWithin k = (y : ℕ) → y < j.openings.count → members y ≡ true → length (done k y) ≤ places y

  -- the next entry of a host that is stuck has no explanation
  no_next : (k x : ℕ) (n : PlainEntry) → AllWithin k → x < j.openings.count → members x ≡ true
      → slice_get (j.entries x) (places x) ≡ Some n → (u : CameUnmade j places x)
      → IsExplained j is_cut (take k ss) x n.event → ⊥
  no_next k x n within lt here at u why = by (subst (IsExplained j is_cut (take k ss) x) event why) where
    same : n ≡ u.entry
    same = same_Some n u.entry (sym at ∙ u.stands)

    event : n.event ≡ Came u.from u.frame
    event = ap (λ (m : PlainEntry). m.event) same ∙ u.came

    is_in : (bytes : List ℕ) → is_there x j.openings.count u.from ≡ true
        → HasBytes (j.openings.host x).version u.from x u.frame bytes
        → (u.from < j.openings.count) × (members u.from ≡ true)
    is_in bytes other has = (
      ltb-true u.from j.openings.count (and_first _ _ other),
      c.closed x u.from u.frame u.entry bytes lt here u.stands u.came other has,
    )

    by : IsExplained j is_cut (take k ss) x (Came u.from u.frame) → ⊥
    by (inl w) =
        let m = is_in w.bytes w.other w.same in
        let h = among_made u.from (take k ss) w.place w.bytes w.stands in
        let i = slice_get_within (done k u.from) h.place h.entry h.stands in
        let l = within u.from m.0 m.1 in
        u.unmade w.bytes w.other w.same
        (record {
          place = h.place;
          entry = h.entry;
          below = omega (arith, i, l);
          stands = of_journal k u.from h.place h.entry m.0 h.stands;
          made = h.made;
        })
    by (inr o) =
        let m = is_in o.bytes o.other o.same in
        let l = within u.from m.0 m.1 in
        let all = ap (λ (xs : List PlainEntry). length xs) o.ended in
        let more = c.more u.from m.0 m.1 o.was_cut in
        omega (arith, l, all, more)

  -- no entry of such a host comes after its place
  next_within : (k : ℕ) (s : HostEntry) → slice_get ss k ≡ Some s → AllWithin k → AllWithin (suc k)
  next_within k s at within y lt here = by (y == s.0) (eqb-true y s.0) refl where
    more : done (suc k) y ≡ done k y ++ cons_if (y == s.0) s.1 []
    more = ap (entries_at y) (take_get ss k s at) ∙ entries_append y (take k ss) (s ∷ [])

    by : (b : Bool) → (b ≡ true → y ≡ s.0) → (y == s.0) ≡ b → length (done (suc k) y) ≤ places y
    by false same is =
        let l = ap (λ (xs : List PlainEntry). length xs) (more ∙ ap (λ b. done k y ++ cons_if b s.1 []) is
        ∙ append-nil (done k y)) in
        let w = within y lt here in
        omega (arith, l, w)
    by true same is =
        let longer : done (suc k) y ≡ done k y ++ s.1 ∷ [] = more ∙ ap (λ b. done k y ++ cons_if b s.1 []) is in
        let l = ap (λ (xs : List PlainEntry). length xs) longer ∙ length-append (done k y) (s.1 ∷ []) in
        let w = within y lt here in
        elim (cases_lt (length (done k y)) (places y)) [
          | inl before ↦ omega (arith, l, before)
          | inr full ↦
              (let place : length (done k y) ≡ places y = omega (arith, full, w) in
              let here_is : slice_get (j.entries y) (places y) ≡ Some s.1 =
              subst (λ i. slice_get (j.entries y) i ≡ Some s.1) place
              (of_journal (suc k) y (length (done k y)) s.1 lt
              (ap (λ xs. slice_get xs (length (done k y))) longer ∙ get_end (done k y) s.1))
              in
              absurd (stuck_here here_is (c.stuck y lt here)))
        ]
      where
        stuck_here : slice_get (j.entries y) (places y) ≡ Some s.1 → IsStuck j places y → ⊥
        stuck_here here_is (inl ended) = let l = slice_get_within (j.entries y) (places y) s.1 here_is in omega
            (arith, l, ended)
        stuck_here here_is (inr u) =
            no_next k y s.1 within lt here here_is u
            (subst (λ z. IsExplained j is_cut (take k ss) z s.1.event) (sym (same refl)) (e.all.explained k s at))

  all_within : (k : ℕ) → k ≤ length ss → AllWithin k
  all_within zero le = λ y lt here. first ss y where
    first : (ts : List HostEntry) (y : ℕ) → length (entries_at y (take 0 ts)) ≤ places y
    first [] y = omega arith
    first (t ∷ ts) y = omega arith
  all_within (suc k) le =
      let s = there_is ss k (omega (arith, le)) in next_within k s.0 s.1 (all_within k (omega (arith, le)))

  pub no_explanation : ⊥
  no_explanation =
      let x = c.rest.0 in
      let lt = c.rest.1 in
      let l = all_within (length ss) (omega arith) x lt c.rest.2 in
      let all = ap (λ (xs : List PlainEntry). length xs) (ap (entries_at x) (take-length ss) ∙ e.entries x lt) in
      let more = c.rest.3 in
      omega (arith, l, all, more)

pub unexplained : (j : Journals) (is_cut : ℕ → Bool) (sequence : List HostEntry) → IsContradiction j is_cut
    → IsExplanation j is_cut sequence → ⊥
unexplained j is_cut sequence c e = no_explanation j is_cut c.places c.members c.contradicts sequence e
