-- A stream is read frame by frame: what is left of it makes what all of it makes.
use Rattle.std.proofs.Common.{◌≡◌, ℕ, zero, suc, ◌<◌, ◌≤◌, List, [], ◌∷◌, ◌++◌, length, take, drop, Option, Some, None, Ok, Err, refl, sym, ap, ◌∙◌, subst, arith, inl, inr}
use Rattle.std.proofs.lemmas.Bool.{cases_lt}
use Rattle.std.proofs.lemmas.List.{take-append-drop}
use Rattle.rvm_frame.specs.declared.fault.ReadFault.{ReadFault}
use Rattle.rvm_frame.specs.Grammar.{Received, spelling}
use Rattle.rvm_frame.specs.Kinds.{version_after}
use Rattle.rvm_frame.specs.Reader.{Gathered}
use Rattle.rvm_frame.specs.Stream.{Splits}
use Rattle.rvm_frame.specs.Verdict.{Decides, Verdict, verdict}
use Rattle.rvm_frame.proofs.Streams.{one_reading}
use Rattle.rvm_frame.proofs.Verdicts.{no_prefix_at, nothing_begins, verdict_again, whole_or_past}
use Rattle.rvm_command.specs.Streams.{GoesOn, Hears, Reads, after_all}

take_front : (n : ℕ) (xs ys : List ℕ) → n ≤ length xs → take n (xs ++ ys) ++ drop n xs ≡ xs
take_front zero xs ys le = refl
take_front (suc n) [] ys le = absurd (omega (arith, le))
take_front (suc n) (x ∷ xs) ys le = ap (λ z. x ∷ z) (take_front n xs ys (omega (arith, le)))

take_whole : (xs ys : List ℕ) → take (length xs) (xs ++ ys) ≡ xs
take_whole [] ys = refl
take_whole (x ∷ xs) ys = ap (λ z. x ∷ z) (take_whole xs ys)

take_none : (n : ℕ) → take {A = ℕ} n [] ≡ []
take_none zero = refl
take_none (suc n) = refl

none_is_no_fault : {e : ReadFault} → ◌≡◌ {A = Verdict} (Ok None) (Err e) → ⊥
none_is_no_fault h = cc

frame_is_not_none : {x : Received} → ◌≡◌ {A = Verdict} (Ok (Some x)) (Ok None) → ⊥
frame_is_not_none h = cc

-- refused bytes are no frames
pub refused_is_none : (v : Option ℕ) (left : List ℕ) (n : ℕ) (fault : ReadFault) (xs : List Received)
    → Decides v [] left n (Err fault) → Splits v left xs [] → ⊥
refused_is_none v left n fault [] d s =
    none_is_no_fault (sym (ap (verdict v) (ap (take n) s.0 ∙ take_none n)) ∙ d.decided)
refused_is_none v left n fault (x ∷ xs) d s =
    let behind = s.2.0 in
    elim (cases_lt (length (spelling x)) n) [
      | inl lt ↦
          frame_is_not_none (sym (verdict_again v x s.0 s.1)
          ∙ ap (verdict v) (sym (ap (take (length (spelling x))) s.2.1 ∙ take_whole (spelling x) behind))
          ∙ d.undecided (length (spelling x)) lt)
      | inr le ↦
          nothing_begins v (take n left) (drop n (spelling x)) x fault d.decided s.0 s.1
          (ap (λ z. take n z ++ drop n (spelling x)) s.2.1 ∙ take_front n (spelling x) behind le)
    ]

-- bytes that end inside a frame are no frames
pub unfinished_is_none : (v : Option ℕ) (left : List ℕ) (xs : List Received) → verdict v left ≡ Ok None → 0 < length left
    → Splits v left xs [] → ⊥
unfinished_is_none v left [] h some s = let e = ap length s.0 in omega (arith, some, e)
unfinished_is_none v left (x ∷ xs) h some s = whole_or_past v x s.2.0 s.0 s.1 (ap (verdict v) (sym s.2.1) ∙ h)

no_empty_spelling : (x : Received) → spelling x ≡ [] → ⊥
no_empty_spelling x e = cc

module _ {H G : Type 0} (hears : Received → H → H) (result : H → Option G) where
  abbrev Made : Option ℕ → List ℕ → H → G → Type 0
  Made version bytes h g = Reads hears result version bytes h g

  pub refused : (v : Option ℕ) (left : List ℕ) (n : ℕ) (fault : ReadFault) (h : H) (g : G)
      → Decides v [] left n (Err fault) → Made v left h g → ⊥
  refused v left n fault h g d r = refused_is_none v left n fault r.frames d r.split

  pub unfinished : (v : Option ℕ) (left : List ℕ) (h : H) (g : G) → verdict v left ≡ Ok None → 0 < length left
      → Made v left h g → ⊥
  unfinished v left h g waits some r = unfinished_is_none v left r.frames waits some r.split

  -- the bytes after a frame
  behind_is : (v : Option ℕ) (left : List ℕ) (h : H) (n : ℕ) (reader : Gathered) (next : H)
      (s : Hears hears result v left h n reader next) → left ≡ spelling s.frame ++ drop n left
  behind_is v left h n reader next s =
      sym (take-append-drop n left) ∙ ap (λ z. z ++ drop n left) s.spells.2

  one_more : (v : Option ℕ) (left : List ℕ) (h : H) (n : ℕ) (reader : Gathered) (next : H) (g : G)
      → Hears hears result v left h n reader next → Made reader.version (drop n left) next g → Made v left h g
  unfolding after_all
  one_more v left h n reader next g s r =
      record {
        frames = s.frame ∷ r.frames;
        split = (
          s.spells.0,
          s.spells.1,
          (
            drop n left,
            behind_is v left h n reader next s,
            subst (λ (w : Gathered). Splits w.version (drop n left) r.frames []) s.reader_is r.split,
          ),
        );
        made = subst (λ w. result (after_all hears result r.frames w) ≡ Some g) s.next_is r.made;
      }

  one_less : (v : Option ℕ) (left : List ℕ) (h : H) (n : ℕ) (reader : Gathered) (next : H) (g : G)
      (xs : List Received) → Hears hears result v left h n reader next → Splits v left xs []
      → result (after_all hears result xs h) ≡ Some g → Made reader.version (drop n left) next g
  unfolding after_all
  one_less v left h n reader next g [] s split made =
      absurd (no_empty_spelling s.frame (sym s.spells.2 ∙ ap (take n) split.0 ∙ take_none n))
  one_less v left h n reader next g (y ∷ ys) s split made =
      let same = no_prefix_at v s.frame y (drop n left) split.2.0 s.spells.0 split.0 s.spells.1 split.1
      (sym (behind_is v left h n reader next s) ∙ split.2.1) in
      record {
        frames = ys;
        split =
            subst (λ (w : Gathered). Splits w.version (drop n left) ys []) (sym s.reader_is)
            (subst (λ (z : Received). Splits (version_after v z.1) (drop n left) ys []) (sym same.0)
            (subst (λ b. Splits (version_after v y.1) b ys []) (sym same.1) split.2.2));
        made =
            subst (λ w. result (after_all hears result ys w) ≡ Some g) (sym s.next_is)
            (subst (λ (z : Received). result (after_all hears result ys (hears z h)) ≡ Some g) (sym same.0) made);
      }

  -- one more frame was heard
  pub goes_on : (start : H) (bytes : List ℕ) (v : Option ℕ) (left : List ℕ) (h : H) (n : ℕ) (reader : Gathered)
      (next : H) → GoesOn hears result start bytes v left h → Hears hears result v left h n reader next
      → GoesOn hears result start bytes reader.version (drop n left) next
  goes_on start bytes v left h n reader next on s =
      record {
        sound = λ g r. on.sound g (one_more v left h n reader next g s r);
        whole = λ g r.
            let all = on.whole g r in one_less v left h n reader next g all.frames s all.split all.made;
      }

  -- at the start all bytes are left
  pub starts : (start : H) (bytes : List ℕ) → GoesOn hears result start bytes None bytes start
  starts start bytes = record { sound = λ g r. r; whole = λ g r. r }

  -- once no byte is left, what was made is made
  pub ended : (start : H) (bytes : List ℕ) (v : Option ℕ) (left : List ℕ) (h : H) (g : G)
      → GoesOn hears result start bytes v left h → left ≡ [] → result h ≡ Some g → Made None bytes start g
  unfolding after_all
  ended start bytes v left h g on none made =
      on.sound g (record { frames = []; split = (none, refl); made = made })

  nothing_left : (v : Option ℕ) (left : List ℕ) (h : H) (g : G) (xs : List Received) → left ≡ []
      → Splits v left xs [] → result (after_all hears result xs h) ≡ Some g → result h ≡ Some g
  unfolding after_all
  nothing_left v left h g [] none split made = made
  nothing_left v left h g (y ∷ ys) none split made =
      absurd (no_empty_spelling y (no_front (spelling y) split.2.0 (sym split.2.1 ∙ none)))
    where
      no_front : (xs ys : List ℕ) → xs ++ ys ≡ [] → xs ≡ []
      no_front [] ys e = refl
      no_front (x ∷ xs) ys e = absurd (cc)

  -- once no byte is left, nothing else is made
  pub ended_so : (start : H) (bytes : List ℕ) (v : Option ℕ) (left : List ℕ) (h : H) (g : G)
      → GoesOn hears result start bytes v left h → left ≡ [] → Made None bytes start g → result h ≡ Some g
  ended_so start bytes v left h g on none r =
      let all = on.whole g r in nothing_left v left h g all.frames none all.split all.made

  -- at most one is read
  pub one_is_read : (v : Option ℕ) (bytes : List ℕ) (h : H) (a b : G) → Made v bytes h a → Made v bytes h b → a ≡ b
  one_is_read v bytes h a b r s =
      let same = one_reading v bytes r.frames s.frames [] [] r.split s.split in
      some_is a b (sym r.made ∙ ap (λ xs. result (after_all hears result xs h)) same.0 ∙ s.made)
    where
      some_is : {X : Type 0} (x y : X) → Some x ≡ Some y → x ≡ y
      some_is x y e = cc

  -- a frame has bytes
  pub some_heard : (v : Option ℕ) (left : List ℕ) (h : H) (n : ℕ) (reader : Gathered) (next : H)
      → Hears hears result v left h n reader next → (0 < n) × (n ≤ length left)
  some_heard v left h zero reader next s = absurd (no_empty_spelling s.frame (sym s.spells.2))
  some_heard v left h (suc n) reader next s = (omega arith, s.within)
