-- How going through journals goes on, and where it ends.
use Rattle.std.proofs.Common.{◌≡◌, ◌∙◌, ℕ, zero, suc, ◌+◌, ◌<◌, ◌≤◌, ◌==◌, not, Bool, true, false, if◌then◌else◌, List, [], ◌∷◌, ◌++◌, Option, length, append-nil, take, Some, None, refl, sym, ap, subst, arith, inl, inr}
use Rattle.std.specs.Prelude.{slice_get, is_some, bytes_eq, ◌⊎◌}
use Rattle.std.proofs.Math.Seq.{take-length}
use Rattle.std.proofs.lemmas.Bool.{eqb-true, ltb-true}
use Rattle.std.proofs.lemmas.Option.{same_Some, slice_get_within, some_pair_parts}
use Rattle.std.proofs.lemmas.Slice.Eq.{bytes_eq-Decides}
use Rattle.rvm_frame.specs.declared.frame.Frame.{Frame}
use Rattle.rvm_recorder.specs.Entries.{PlainEntry}
use Rattle.rvm_message.specs.declared.event.HostEvent.{HostEvent}
use Rattle.rvm_message.specs.declared.event.HostEvent.TheVariants.{Do, Came}
use Rattle.rvm_protocol.specs.Host.{is_there}
use Rattle.rvm_protocol.specs.Pages.{put}
use Rattle.rvm_audit.specs.Hosts.{HasBytes, HostEntry, Made, cons_if, made_more}
use Rattle.rvm_audit.specs.Orders.{CameUnmade, IsClosed, IsStuck, Journals}
use Rattle.rvm_audit.specs.Merging.{Places, key_of, noted}
use Rattle.rvm_audit.specs.Cuts.{AllExplained, IsContradiction, IsExplained, all_made}
use Rattle.rvm_audit.specs.Passing.{AreKnown, HasPassed, IsBlocked, IsPassage, MayNotPass, MayPass}
use Rattle.rvm_audit.proofs.Gets.{get_end, get_front, get_last, get_nothing, get_take}
use Rattle.rvm_audit.proofs.Steps.{and_first, done_next, within_next}
use Rattle.rvm_audit.proofs.Explanations.{entries_append, made_among}

-- THE FRAMES THAT ARE KNOWN

is_noted : (o : Option ℕ) (b : Bool) (place : ℕ)
    → is_some (if is_some o then o else (if b then Some place else None)) ≡ true
    → (is_some o ≡ true) ⊎ (b ≡ true)
is_noted (Some n) b place is = inl refl
is_noted None true place is = inr refl
is_noted None false place is = absurd cc

not_noted : (o : Option ℕ) (b : Bool) (place : ℕ)
    → is_some (if is_some o then o else (if b then Some place else None)) ≡ false
    → (is_some o ≡ false) × (b ≡ false)
not_noted (Some n) b place is = absurd cc
not_noted None true place is = absurd cc
not_noted None false place is = (refl, refl)

parts : (x y : ℕ) (xs ys : List ℕ) → ◌≡◌ {A = List ℕ} (x ∷ xs) (y ∷ ys) → (x ≡ y) × (xs ≡ ys)
parts x y xs ys is = (cc, cc)

known_next : (x : ℕ) (frame : Option (List ℕ)) (place : ℕ) (made : List Made) (p q : Places) → AreKnown made p
    → ((key : List ℕ) → q key ≡ noted (key_of x frame) place p key) → AreKnown (made ++ made_more x frame) q
known_next x None place made p q known own = record {
  found = λ y bytes is.
      (let f = known.found y bytes (ap (λ (o : Option ℕ). is_some o) (sym (own (y ∷ bytes))) ∙ is) in
      (f.0, get_front made [] f.0 (y, bytes) f.1));
  all = λ y bytes k is at.
      known.all y bytes k (ap (λ (o : Option ℕ). is_some o) (sym (own (y ∷ bytes)))
      ∙ is) (get_nothing made k (y, bytes) at);
}
known_next x (Some new) place made p q known own = record {
  found = λ y bytes is.
      elim (is_noted (p (y ∷ bytes)) (bytes_eq (x ∷ new) (y ∷ bytes)) place
      (ap (λ (o : Option ℕ). is_some o) (sym (own (y ∷ bytes))) ∙ is)) [
        | inl had ↦
            (let f = known.found y bytes had in (f.0, get_front made ((x, new) ∷ []) f.0 (y, bytes) f.1))
        | inr got ↦
            (let same = parts x y new bytes ((bytes_eq-Decides (x ∷ new) (y ∷ bytes)).0 got) in
            (length made, get_end made (x, new) ∙ (λ i. Some (same.0 i, same.1 i))))
      ];
  all = λ y bytes k is at.
      (let none =
      not_noted (p (y ∷ bytes)) (bytes_eq (x ∷ new) (y ∷ bytes)) place
      (ap (λ (o : Option ℕ). is_some o) (sym (own (y ∷ bytes))) ∙ is)
      in
      elim (get_last made (x, new) k (y, bytes) at) [
        | inl here ↦ known.all y bytes k none.0 here
        | inr last ↦
            (let e = some_pair_parts x y new bytes (ap Some last.0) in
            let yes = (bytes_eq-Decides (x ∷ new) (y ∷ bytes)).1 (λ i. e.0 i ∷ e.1 i) in
            absurd (let off = none.1 in cc))
      ]);
}

-- ONE ENTRY MORE

pub made_append : (ss : List HostEntry) (x : ℕ) (n : PlainEntry)
    → all_made (ss ++ (x, n) ∷ []) ≡ all_made ss ++ made_more x n.frame
made_append [] x n = append-nil (made_more x n.frame)
made_append (s ∷ ss) x n =
    ap (λ ms. made_more s.0 s.1.frame ++ ms) (made_append ss x n)
    ∙ sym (assoc (made_more s.0 s.1.frame) (all_made ss) (made_more x n.frame))
  where
    assoc : (xs ys zs : List Made) → (xs ++ ys) ++ zs ≡ xs ++ (ys ++ zs)
    assoc [] ys zs = refl
    assoc (m ∷ xs) ys zs = ap (λ ms. m ∷ ms) (assoc xs ys zs)

take_front : {X : Type 0} (k : ℕ) (xs ys : List X) → k ≤ length xs → take k (xs ++ ys) ≡ take k xs
take_front zero [] [] le = refl
take_front zero [] (y ∷ ys) le = refl
take_front zero (x ∷ xs) ys le = refl
take_front (suc k) [] ys le = absurd (omega (arith, le))
take_front (suc k) (x ∷ xs) ys le = ap (λ zs. x ∷ zs) (take_front k xs ys (omega (arith, le)))

ended_next : (b : Bool) (i k : ℕ) (n : PlainEntry) (xs : List PlainEntry) → (b ≡ true → slice_get xs i ≡ Some n)
    → i ≡ length xs → (if b then k else i) ≡ length xs
ended_next true i k n xs is ended = let l = slice_get_within xs i n (is refl) in absurd (omega (arith, l, ended))
ended_next false i k n xs is ended = ended

-- one more entry that is explained by those before it
pub all_snoc : (j : Journals) (is_cut : ℕ → Bool) (ss : List HostEntry) (x : ℕ) (n : PlainEntry) → x < j.openings.count
    → IsExplained j is_cut ss x n.event → AllExplained j is_cut ss → AllExplained j is_cut (ss ++ (x, n) ∷ [])
all_snoc j is_cut ss x n lt so all = record {
  there = λ k s is. elim (get_last ss (x, n) k s is) [
    | inl here ↦ all.there k s here
    | inr last ↦ subst (λ (t : HostEntry). t.0 < j.openings.count) last.0 lt
  ];
  explained = λ k s is. elim (get_last ss (x, n) k s is) [
    | inl here ↦
        (let l = slice_get_within ss k s here in
        subst (λ ts. IsExplained j is_cut ts s.0 s.1.event) (sym (take_front k ss ((x, n) ∷ []) (omega (arith, l))))
        (all.explained k s here))
    | inr last ↦
        (let k_is = last.1 in
        let before : take k (ss ++ (x, n) ∷ []) ≡ ss =
        take_front k ss ((x, n) ∷ []) (omega (arith, k_is)) ∙ ap (λ i. take i ss) k_is ∙ take-length ss
        in
        subst (λ ts. IsExplained j is_cut ts s.0 s.1.event) (sym before)
        (subst (λ (t : HostEntry). IsExplained j is_cut ss t.0 t.1.event) last.0 so))
  ];
}

module _ (j : Journals) (is_cut : ℕ → Bool) (at : ℕ → ℕ) (made : Places) (spent : ℕ → Bool)
    (m : IsPassage j is_cut at made spent) where
  -- what may be passed is explained
  explained : (x : ℕ) (e : HostEvent) → MayPass (j.openings.host x).version j.openings.count x made spent e
      → IsExplained j is_cut m.sequence x e
  explained x (Do c) may = tt
  explained x (Came from frame) may = by may.may where
    lt : from < j.openings.count
    lt = ltb-true from j.openings.count (and_first _ _ may.other)

    by : ((spent from ≡ true) ⊎ (is_some (made (from ∷ may.bytes)) ≡ true))
        → IsExplained j is_cut m.sequence x (Came from frame)
    by (inl is) =
        let e = m.ended from lt is in
        inr (record {
          bytes = may.bytes;
          other = may.other;
          same = may.same;
          was_cut = e.0;
          ended = m.entries from lt ∙ ap (λ k. take k (j.entries from)) e.1 ∙ take-length (j.entries from);
        })
    by (inr is) =
        let f = m.known.found from may.bytes is in
        inl (record { place = f.0; bytes = may.bytes; other = may.other; stands = f.1; same = may.same })

  pub pass_one : (x : ℕ) → x < j.openings.count → (n : PlainEntry) → slice_get (j.entries x) (at x) ≡ Some n
      → MayPass (j.openings.host x).version j.openings.count x made spent n.event → (place : ℕ) (made' : Places)
      → ((key : List ℕ) → made' key ≡ noted (key_of x n.frame) place made key)
      → IsPassage j is_cut (put at x (at x + 1)) made' spent
  pass_one x lt n here may place made' own =
      let next : (y : ℕ) → (y == x) ≡ true → (slice_get (j.entries y) (at y) ≡ Some n) × (at x + 1 ≡ suc (at y)) =
      λ y same.
      let e = eqb-true y x same in (
        subst (λ z. slice_get (j.entries z) (at z) ≡ Some n) (sym e) here,
        (let q = ap at e in omega (arith, q)),
      )
      in
      record {
        within = λ y y_lt. within_next (y == x) (at y) (at x + 1) n (j.entries y) (next y) (m.within y y_lt);
        sequence = m.sequence ++ (x, n) ∷ [];
        entries = λ y y_lt.
            entries_append y m.sequence ((x, n) ∷ []) ∙ ap (λ xs. xs ++ cons_if (y == x) n []) (m.entries y y_lt)
            ∙ done_next (y == x) (at y) (at x + 1) n (j.entries y) (next y);
        all = all_snoc j is_cut m.sequence x n lt (explained x n.event may) m.all;
        known = subst (λ ms. AreKnown ms made') (sym (made_append m.sequence x n))
            (known_next x n.frame place (all_made m.sequence) made made' m.known own);
        ended = λ y y_lt is.
            (let e = m.ended y y_lt is in
            (e.0, ended_next (y == x) (at y) (at x + 1) n (j.entries y) (λ same. (next y same).0) e.1));
      }

  -- a host whose journal was cut and is at its end is spent
  pub spend : (x : ℕ) → is_cut x ≡ true → at x ≡ length (j.entries x) → (spent' : ℕ → Bool)
      → ((y : ℕ) → spent' y ≡ true → (spent y ≡ true) ⊎ (y ≡ x)) → IsPassage j is_cut at made spent'
  spend x cut ended spent' own = record {
    within = m.within;
    sequence = m.sequence;
    entries = m.entries;
    all = m.all;
    known = m.known;
    ended = λ y y_lt is. elim (own y is) [
      | inl was ↦ m.ended y y_lt was
      | inr same ↦ subst (λ z. (is_cut z ≡ true) × (at z ≡ length (j.entries z))) (sym same) (cut, ended)
    ];
  }

  -- THE END

  module _ (blocked : (x : ℕ) → x < j.openings.count
      → IsBlocked (j.openings.host x).version j.openings.count x made spent (is_cut x) (j.entries x) (at x)) where
    abbrev members : ℕ → Bool
    members x = not (spent x)

    not_spent : (x : ℕ) → members x ≡ true → spent x ≡ true → ⊥
    not_spent x here is = let off = ap not is in cc

    unmade : (x : ℕ) (n : PlainEntry) → slice_get (j.entries x) (at x) ≡ Some n → (e : HostEvent) → n.event ≡ e
        → MayNotPass (j.openings.host x).version j.openings.count x made spent e → CameUnmade j at x
    unmade x n here (Do c) is never = absurd never
    unmade x n here (Came from frame) is never = record {
      entry = n;
      from = from;
      frame = frame;
      stands = here;
      came = is;
      unmade = λ bytes other same b.
          (let there =
          ap (λ xs. slice_get xs b.place) (m.entries from (ltb-true from j.openings.count (and_first _ _ other)))
          ∙ get_take (j.entries from) (at from) b.place b.below ∙ b.stands
          in
          let s = made_among from m.sequence b.place b.entry bytes there b.made in
          m.known.all from bytes s.0 (never bytes other same).1 s.1);
    }

    stuck : (x : ℕ) → x < j.openings.count → IsStuck j at x
    stuck x lt = by (blocked x lt) where
      by : IsBlocked (j.openings.host x).version j.openings.count x made spent (is_cut x) (j.entries x) (at x)
          → IsStuck j at x
      by (inl e) = let w = m.within x lt in let le = e.0 in inl (omega (arith, w, le))
      by (inr n) = inr (unmade x n.0 n.1 n.0.event refl n.2)

    waits_for : (x from : ℕ) (frame : Frame) (bytes : List ℕ) (e : HostEvent)
        → MayNotPass (j.openings.host x).version j.openings.count x made spent e → e ≡ Came from frame
        → is_there x j.openings.count from ≡ true → HasBytes (j.openings.host x).version from x frame bytes
        → members from ≡ true
    waits_for x from frame bytes e never is other has =
        let n = subst (MayNotPass (j.openings.host x).version j.openings.count x made spent) is never in
        ap not (n bytes other has).0

    closed : IsClosed j at members
    closed x from frame n bytes lt here there came other has = by (blocked x lt) where
      by : IsBlocked (j.openings.host x).version j.openings.count x made spent (is_cut x) (j.entries x) (at x)
          → members from ≡ true
      by (inl e) = let l = slice_get_within (j.entries x) (at x) n there in let le = e.0 in absurd (omega
          (arith, l, le))
      by (inr b) =
          let same = same_Some b.0 n (sym b.1 ∙ there) in
          waits_for x from frame bytes b.0.event b.2 (ap (λ (p : PlainEntry). p.event) same ∙ came) other has

    more : (x : ℕ) → x < j.openings.count → members x ≡ true → is_cut x ≡ true → at x < length (j.entries x)
    more x lt here cut = by (blocked x lt) where
      by : IsBlocked (j.openings.host x).version j.openings.count x made spent (is_cut x) (j.entries x) (at x)
          → at x < length (j.entries x)
      by (inl e) = absurd (not_spent x here (e.1 cut))
      by (inr b) = slice_get_within (j.entries x) (at x) b.0 b.1

    contradiction : (x : ℕ) → x < j.openings.count → at x < length (j.entries x) → IsContradiction j is_cut
    contradiction x lt less = record {
      places = at;
      members = members;
      contradicts = record {
        within = m.within;
        closed = closed;
        stuck = λ y y_lt here. stuck y y_lt;
        more = more;
        rest = (x, lt, not_ended (spent x) refl, less);
      };
    }
      where
        not_ended : (b : Bool) → spent x ≡ b → not b ≡ true
        not_ended true is = let e = (m.ended x lt is).1 in absurd (omega (arith, e, less))
        not_ended false is = refl

    pub passed : HasPassed j is_cut at
    passed = record {
      within = m.within;
      sequence = m.sequence;
      entries = m.entries;
      all = m.all;
      stuck = stuck;
      explained = λ all. (
        m.sequence,
        record {
          entries = λ x lt.
              (let le = all x lt in
              let w = m.within x lt in
              let full : at x ≡ length (j.entries x) = omega (arith, le, w) in
              m.entries x lt ∙ ap (λ k. take k (j.entries x)) full ∙ take-length (j.entries x));
          all = m.all;
        },
      );
      contradiction = contradiction;
    }

-- nothing was passed
pub nothing_passed : (j : Journals) (is_cut : ℕ → Bool) (made : Places) (spent : ℕ → Bool)
    → ((key : List ℕ) → made key ≡ None) → ((x : ℕ) → spent x ≡ false) → IsPassage j is_cut (λ x. 0) made spent
nothing_passed j is_cut made spent none not_one = record {
  within = λ x lt. omega arith;
  sequence = [];
  entries = λ x lt. none_taken (j.entries x);
  all = record { there = λ k s is. absurd cc; explained = λ k s is. absurd cc };
  known = record {
    found = λ x bytes is. absurd (let n = none (x ∷ bytes) in cc);
    all = λ x bytes k is at. absurd cc;
  };
  ended = λ x lt is. absurd (let n = not_one x in cc);
}
  where
    none_taken : (xs : List PlainEntry) → [] ≡ take 0 xs
    none_taken [] = refl
    none_taken (n ∷ xs) = refl
