-- An order of journals that complete others explains those: what is kept of it is their explanation.
use Rattle.std.proofs.Common.{◌≡◌, ◌∙◌, ℕ, zero, suc, ◌<◌, ◌==◌, Bool, true, false, if◌then◌else◌, List, [], ◌∷◌, ◌++◌, length, append-nil, append_assoc, take, Some, refl, sym, ap, subst, arith, inl, inr}
use Rattle.std.specs.Prelude.{slice_get, ◌⊎◌}
use Rattle.std.proofs.lemmas.Bool.{cases_Bool, eqb-true, ltb-true}
use Rattle.rvm_recorder.specs.Entries.{PlainEntry}
use Rattle.rvm_message.specs.declared.event.HostEvent.{HostEvent}
use Rattle.rvm_message.specs.declared.event.HostEvent.TheVariants.{Do, Came}
use Rattle.rvm_protocol.specs.Pages.{put}
use Rattle.rvm_core.specs.declared.event.Event.{Event}
use Rattle.rvm_core.specs.declared.event.Event.TheVariants.{At, Deliver}
use Rattle.rvm_audit.specs.Hosts.{HostEntry, Hosts, IsEvent, IsRun, Makes, Openings, after, cons_if, entries_at, made_more, opened}
use Rattle.rvm_audit.specs.Orders.{IsOrder, Journals}
use Rattle.rvm_audit.specs.Cuts.{AllExplained, Completes, Contradicts, IsExplained, IsExplanation, all_made}
use Rattle.rvm_audit.proofs.Gets.{get_end, get_front}
use Rattle.rvm_audit.proofs.Steps.{and_first, made_step, own_entries}
use Rattle.rvm_audit.proofs.Explanations.{IsAmong, entries_append, no_explanation}
use Rattle.rvm_audit.proofs.Passages.{all_snoc, made_append}

take_none : {X : Type 0} (xs : List X) → take 0 xs ≡ []
take_none [] = refl
take_none (x ∷ xs) = refl

-- one entry of a host more is kept, if it is its own
kept_next : (b : Bool) (i q : ℕ) (n : PlainEntry) (before xs rest : List PlainEntry) → (b ≡ true → i ≡ suc q)
    → before ++ take i (cons_if b n xs) ≡ rest → (before ++ cons_if b n []) ++ take (if b then q else i) xs ≡ rest
kept_next true i q n before xs rest is so =
    append_assoc before (n ∷ []) (take q xs) ∙ ap (λ k. before ++ take k (n ∷ xs)) (sym (is refl)) ∙ so
kept_next false i q n before xs rest is so = ap (λ ys. ys ++ take i xs) (append-nil before) ∙ so

-- an entry that is not kept leaves the others
left_out : (b : Bool) (i : ℕ) (n : PlainEntry) (before xs rest : List PlainEntry) → (b ≡ true → i ≡ 0)
    → before ++ take i (cons_if b n xs) ≡ rest → before ++ take i xs ≡ rest
left_out true i n before xs rest is so =
    ap (λ k. before ++ take k xs) (is refl) ∙ ap (λ ys. before ++ ys) (take_none xs)
    ∙ ap (λ k. before ++ take k (n ∷ xs)) (sym (is refl)) ∙ so
left_out false i n before xs rest is so = so

whole_next : (b : Bool) (i q : ℕ) (n : PlainEntry) (xs : List PlainEntry) → (b ≡ true → i ≡ suc q)
    → i ≡ length (cons_if b n xs)
    → (if b then q else i) ≡ length xs
whole_next true i q n xs is so = let e = is refl in omega (arith, e, so)
whole_next false i q n xs is so = so

none_next : (b : Bool) (i q : ℕ) → (b ≡ true → i ≡ suc q) → i ≡ 0 → (if b then q else i) ≡ 0
none_next true i q is so = let e = is refl in absurd (omega (arith, e, so))
none_next false i q is so = so

module _ (j : Journals) (is_cut : ℕ → Bool) where
  -- the entry that made a frame is kept, or the journal of its host was cut and nothing of it is left
  abbrev IsKept : (left : ℕ → ℕ) → List HostEntry → (y : ℕ) → List ℕ → Type 0
  IsKept left kept y bytes = IsAmong y kept bytes ⊎ ((left y ≡ 0) × (is_cut y ≡ true))

  -- these entries were kept, and this many are left of each journal
  record Keeps (w : Hosts) (left : ℕ → ℕ) (kept ss : List HostEntry) : Type 0 where
    entries : (y : ℕ) → y < j.openings.count → entries_at y kept ++ take (left y) (entries_at y ss) ≡ j.entries y
    whole : (y : ℕ) → y < j.openings.count → is_cut y ≡ false → left y ≡ length (entries_at y ss)
    all : AllExplained j is_cut kept
    made : (y k : ℕ) (bytes : List ℕ) → y < j.openings.count → slice_get w.made k ≡ Some (y, bytes)
        → IsKept left kept y bytes

  module _ (w : Hosts) (left : ℕ → ℕ) (kept : List HostEntry) (x : ℕ) (n : PlainEntry) (ss : List HostEntry)
      (keeps : Keeps w left kept ((x, n) ∷ ss)) where
    own : (y : ℕ) → (q : ℕ) → left x ≡ q → (y == x) ≡ true → left y ≡ q
    own y q is same = ap left (eqb-true y x same) ∙ is

    -- the entry is not kept: nothing is left of its host's journal
    leave_out : left x ≡ 0 → x < j.openings.count → Keeps (after j.openings w x n) left kept ss
    leave_out none lt = record {
      entries = λ y y_lt. left_out (y == x) (left y) n (entries_at y kept) (entries_at y ss) (j.entries y)
          (own y 0 none) (keeps.entries y y_lt);
      whole = λ y y_lt not_cut. by y (y == x) refl (keeps.whole y y_lt not_cut);
      all = keeps.all;
      made = λ y k bytes y_lt at.
          made_step y x (IsKept left kept y) w.made n.frame (λ i b there. keeps.made y i b y_lt there)
          (λ b same frame. inr (subst (λ z. (left z ≡ 0) × (is_cut z ≡ true)) same (none, cut))) k bytes at;
    }
      where
        cut : is_cut x ≡ true
        cut = elim (cases_Bool (is_cut x)) [
          | inl yes_so ↦ yes_so
          | inr no_so ↦
              (let all = keeps.whole x lt no_so in
              let more = ap (λ (xs : List PlainEntry). length xs) (own_entries x n ss) in
              absurd (omega (arith, all, more, none)))
        ]

        by : (y : ℕ) (b : Bool) → (y == x) ≡ b → left y ≡ length (cons_if (y == x) n (entries_at y ss))
            → left y ≡ length (entries_at y ss)
        by y true is all =
            let some = ap (λ b. length (cons_if b n (entries_at y ss))) is in
            let z = own y 0 none is in
            absurd (omega (arith, all, some, z))
        by y false is all = all ∙ ap (λ b. length (cons_if b n (entries_at y ss))) is

    -- its event is explained by what was kept
    explained : (e : Event) (v : HostEvent) → n.event ≡ v → IsEvent j.openings w e x v → IsExplained j is_cut kept x v
    explained e (Do c) v is = tt
    explained (At h c) (Came from frame) v is = let d = is.1 in absurd cc
    explained (Deliver k) (Came from frame) v is =
        let same : Came from frame ≡ Came is.from is.frame = is.event in
        let from_is : is.from ≡ from = cc in
        let frame_is : is.frame ≡ frame = cc in
        subst (λ y. IsExplained j is_cut kept x (Came y frame)) from_is
        (subst (λ f. IsExplained j is_cut kept x (Came is.from f)) frame_is
        (by (keeps.made is.from k is.bytes lt is.stands)))
      where
        lt : is.from < j.openings.count
        lt = ltb-true is.from j.openings.count (and_first _ _ is.other)

        by : IsKept left kept is.from is.bytes → IsExplained j is_cut kept x (Came is.from is.frame)
        by (inl m) = inl (record { place = m.0; bytes = is.bytes; other = is.other; stands = m.1; same = is.same })
        by (inr o) = inr (record {
          bytes = is.bytes;
          other = is.other;
          same = is.same;
          was_cut = o.1;
          ended =
              sym (append-nil (entries_at is.from kept))
              ∙ ap (λ xs. entries_at is.from kept ++ xs) (sym (ap (λ k. take k (entries_at is.from ((x, n) ∷ ss))) o.0
              ∙ take_none (entries_at is.from ((x, n) ∷ ss))))
              ∙ keeps.entries is.from lt;
        })

    keep : (q : ℕ) → left x ≡ suc q → (e : Event) → Makes j.openings w e x n
        → Keeps (after j.openings w x n) (put left x q) (kept ++ (x, n) ∷ []) ss
    keep q more e makes = record {
      entries = λ y y_lt.
          ap (λ xs. xs ++ take (put left x q y) (entries_at y ss)) (entries_append y kept ((x, n) ∷ []))
          ∙ kept_next (y == x) (left y) q n (entries_at y kept) (entries_at y ss) (j.entries y) (own y (suc q) more)
          (keeps.entries y y_lt);
      whole = λ y y_lt not_cut. whole_next (y == x) (left y) q n (entries_at y ss) (own y (suc q) more)
          (keeps.whole y y_lt not_cut);
      all = all_snoc j is_cut kept x n makes.there (explained e n.event refl makes.event) keeps.all;
      made = λ y k bytes y_lt at.
          made_step y x (IsKept (put left x q) (kept ++ (x, n) ∷ []) y) w.made n.frame
          (λ i b there. still y b (keeps.made y i b y_lt there))
          (λ b same frame. inl (subst (λ z. IsAmong z (kept ++ (x, n) ∷ []) b) same (new b frame))) k bytes at;
    }
      where
        all_are : all_made (kept ++ (x, n) ∷ []) ≡ all_made kept ++ made_more x n.frame
        all_are = made_append kept x n

        still : (y : ℕ) (b : List ℕ) → IsKept left kept y b → IsKept (put left x q) (kept ++ (x, n) ∷ []) y b
        still y b (inl m) = inl (
          m.0,
          ap (λ ms. slice_get ms m.0) all_are ∙ get_front (all_made kept) (made_more x n.frame) m.0 (y, b) m.1,
        )
        still y b (inr o) = inr (none_next (y == x) (left y) q (own y (suc q) more) o.0, o.1)

        new : (b : List ℕ) → n.frame ≡ Some b → IsAmong x (kept ++ (x, n) ∷ []) b
        new b is = (
          length (all_made kept),
          ap (λ ms. slice_get ms (length (all_made kept))) (all_are ∙ ap (λ o. all_made kept ++ made_more x o) is)
              ∙ get_end (all_made kept) (x, b),
        )

  abbrev Explanation : Type 0
  Explanation = (sequence : List HostEntry) × IsExplanation j is_cut sequence

  one_kept : (e : Event) (w : Hosts) (left : ℕ
      → ℕ) (kept : List HostEntry) (x : ℕ) (n : PlainEntry) (ss : List HostEntry)
      → Makes j.openings w e x n → Keeps w left kept ((x, n) ∷ ss)
      → ((left' : ℕ → ℕ) (kept' : List HostEntry) → Keeps (after j.openings w x n) left' kept' ss → Explanation)
      → (m : ℕ) → left x ≡ m → Explanation
  one_kept e w left kept x n ss makes keeps again zero is = again left kept
      (leave_out w left kept x n ss keeps is makes.there)
  one_kept e w left kept x n ss makes keeps again (suc q) is =
      again (put left x q) (kept ++ (x, n) ∷ []) (keep w left kept x n ss keeps q is e makes)

  all_kept : (es : List Event) (ss : List HostEntry) (w : Hosts) (left : ℕ → ℕ) (kept : List HostEntry)
      → IsRun j.openings w es ss → Keeps w left kept ss → Explanation
  all_kept [] [] w left kept r keeps = (
    kept,
    record {
      entries = λ y lt.
          sym (append-nil (entries_at y kept)) ∙ ap (λ xs. entries_at y kept ++ xs) (sym (nothing (left y)))
          ∙ keeps.entries y lt;
      all = keeps.all;
    },
  )
    where
      nothing : (k : ℕ) → ◌≡◌ {A = List PlainEntry} (take k []) []
      nothing zero = refl
      nothing (suc k) = refl
  all_kept [] (s ∷ ss) w left kept r keeps = absurd r
  all_kept (e ∷ es) [] w left kept r keeps = absurd r
  all_kept (e ∷ es) ((x, n) ∷ ss) w left kept r keeps =
      one_kept e w left kept x n ss r.0 keeps (λ l k d. all_kept es ss (after j.openings w x n) l k r.1 d) (left x) refl

take_first : {X : Type 0} (xs ys : List X) → take (length xs) (xs ++ ys) ≡ xs
take_first [] ys = take_none ys
take_first (x ∷ xs) ys = ap (λ zs. x ∷ zs) (take_first xs ys)

-- an order of journals that complete these explains them
pub completion_explains : (j k : Journals) (is_cut : ℕ → Bool) (es : List Event) → Completes j is_cut k → IsOrder k es
    → (sequence : List HostEntry) × IsExplanation j is_cut sequence
completion_explains j k is_cut es c o =
    all_kept j is_cut es o.sequence (opened j.openings) (λ y. length (j.entries y)) []
    (subst (λ (p : Openings). IsRun p (opened p) es o.sequence) c.openings o.run)
    (record {
      entries = λ y lt.
          ap (take (length (j.entries y))) (entries y lt ∙ (c.goes_on y lt).1)
          ∙ take_first (j.entries y) (c.goes_on y lt).0;
      whole = λ y lt not_cut. ap (λ (xs : List PlainEntry). length xs) (sym (entries y lt ∙ c.ends y lt not_cut));
      all = record { there = λ i s at. absurd cc; explained = λ i s at. absurd cc };
      made = λ y i bytes lt at. absurd cc;
    })
  where
    entries : (y : ℕ) → y < j.openings.count → entries_at y o.sequence ≡ k.entries y
    entries y lt = o.entries y (subst (λ (p : Openings). y < p.count) (sym c.openings) lt)

-- journals that contradict one another have no order, however they went on
pub contradicted : (j k : Journals) (is_cut : ℕ → Bool) (places : ℕ → ℕ) (members : ℕ → Bool) (es : List Event)
    → Contradicts j is_cut places members → Completes j is_cut k → IsOrder k es → ⊥
contradicted j k is_cut places members es contradicts c o =
    let e = completion_explains j k is_cut es c o in no_explanation j is_cut places members contradicts e.0 e.1
