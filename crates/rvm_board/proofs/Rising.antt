-- Rising lists: where an address belongs, and a list with one more or one less.
use Rattle.std.proofs.Common.{◌≡◌, ℕ, ◌+◌, ◌<◌, ◌≤◌, List, [], ◌∷◌, ◌++◌, length, refl, ap, sym, ◌∙◌, arith, Bool, true, false, not, cond, ◌≢◌, suc}
use Rattle.std.specs.Prelude.{nat_lt, filter, count_by, ◌==◌, ◌||◌}
use Rattle.std.specs.List.{insert, remove}
use Rattle.std.proofs.lemmas.Bool.{eqb-true}
use Rattle.std.proofs.lemmas.List.Sums.{sum_by-cons}
use Rattle.rvm_board.specs.Guest.{AreAbove, AreRising, is_in, with, without}

-- the addresses below one, above one, and others than one
abbrev below : ℕ → List ℕ → List ℕ
below a bs = filter (λ b. nat_lt b a) bs

abbrev above : ℕ → List ℕ → List ℕ
above a bs = filter (λ b. nat_lt a b) bs

abbrev count_below : ℕ → List ℕ → ℕ
count_below a bs = count_by (λ b. nat_lt b a) bs

one_more : (t : Bool) (n : ℕ) → cond t 1 0 + n ≡ cond t (suc n) n
one_more true n = omega arith
one_more false n = omega arith

count_cons : (a b : ℕ) (bs : List ℕ) → count_below a (b ∷ bs) ≡ cond (nat_lt b a) (suc (count_below a bs)) (count_below a bs)
count_cons a b bs = sum_by-cons (λ c. cond (nat_lt c a) 1 0) b bs ∙ one_more (nat_lt b a) (count_below a bs)

lt_false : (a b : ℕ) → a ≤ b → nat_lt b a ≡ false
lt_false a b h = grind (arith, h)

lt_true : (a b : ℕ) → a < b → nat_lt a b ≡ true
lt_true a b h = grind (arith, h)

lt_is : (a b : ℕ) → nat_lt a b ≡ true → a < b
lt_is a b h = grind (arith, h)

above_less : (a b : ℕ) (bs : List ℕ) → a < b → AreAbove b bs → AreAbove a bs
above_less a b [] less h = tt
above_less a b (c ∷ bs) less h = (omega (arith, less, h.0), above_less a b bs less h.1)

none_below : (a : ℕ) (bs : List ℕ) → AreAbove a bs → count_below a bs ≡ 0
none_below a [] h = refl
none_below a (b ∷ bs) h = count_cons a b bs ∙ rw (lt_false a b (omega (arith, h.0))) (none_below a bs h.1)

none_kept : (a : ℕ) (bs : List ℕ) → AreAbove a bs → below a bs ≡ []
none_kept a [] h = refl
none_kept a (b ∷ bs) h = rw (lt_false a b (omega (arith, h.0))) (none_kept a bs h.1)

all_kept : (a : ℕ) (bs : List ℕ) → AreAbove a bs → above a bs ≡ bs
all_kept a [] h = refl
all_kept a (b ∷ bs) h = rw (lt_true a b h.0) (ap (λ cs. b ∷ cs) (all_kept a bs h.1))

not_equal : (a b : ℕ) → a < b → (b == a) ≡ false
not_equal a b h = grind (arith, h)

all_others : (a : ℕ) (bs : List ℕ) → AreAbove a bs → without a bs ≡ bs
all_others a [] h = refl
all_others a (b ∷ bs) h = rw (not_equal a b h.0) (ap (λ cs. b ∷ cs) (all_others a bs h.1))

-- an address that is not the head: below it or above it
insert_head : (a b : ℕ) (bs : List ℕ) (t s e : Bool) → nat_lt b a ≡ t → nat_lt a b ≡ s → (b == a) ≡ e → e ≡ false
    → AreAbove b bs → insert bs (count_below a bs) a ≡ with a bs
    → insert (b ∷ bs) (cond t (suc (count_below a bs)) (count_below a bs)) a ≡ cond t (b ∷ below a bs) (below a bs) ++ (a ∷ cond s (b ∷ above a bs) (above a bs))
insert_head a b bs true true e p q r new h more = absurd (omega (arith, lt_is b a p, lt_is a b q))
insert_head a b bs true false e p q r new h more = ap (λ cs. b ∷ cs) more
insert_head a b bs false true e p q r new h more =
    let over : AreAbove a bs = above_less a b bs (lt_is a b q) h in
    rw (none_below a bs over) (rw (none_kept a bs over) (rw (all_kept a bs over) refl))
insert_head a b bs false false e p q r new h more = absurd (grind (arith, p, q, r, new))

or_false : (e o : Bool) → (e || o) ≡ false → (e ≡ false) × (o ≡ false)
or_false false o h = (refl, h)
or_false true o h = absurd cc

-- an address that is not in a rising list, put after those that are below it
pub inserted : (a : ℕ) (bs : List ℕ) → AreRising bs → is_in a bs ≡ false → insert bs (count_below a bs) a ≡ with a bs
inserted a [] rising new = refl
inserted a (b ∷ bs) rising new =
    let apart = or_false (b == a) (is_in a bs) new in
    rw (count_cons a b bs) (insert_head a b bs (nat_lt b a) (nat_lt a b) (b == a) refl refl refl apart.0 rising.0 (inserted a bs rising.1 apart.1))

above_filtered : (p : ℕ → Bool) (a b : ℕ) (t : Bool) (cs : List ℕ) → a < b → AreAbove a cs → AreAbove a (cond t (b ∷ cs) cs)
above_filtered p a b true cs less h = (less, h)
above_filtered p a b false cs less h = h

above_filter : (p : ℕ → Bool) (a : ℕ) (bs : List ℕ) → AreAbove a bs → AreAbove a (filter p bs)
above_filter p a [] h = tt
above_filter p a (b ∷ bs) h = above_filtered p a b (p b) (filter p bs) h.0 (above_filter p a bs h.1)

rising_filtered : (b : ℕ) (t : Bool) (cs : List ℕ) → AreAbove b cs → AreRising cs → AreRising (cond t (b ∷ cs) cs)
rising_filtered b true cs over rising = (over, rising)
rising_filtered b false cs over rising = rising

rising_filter : (p : ℕ → Bool) (bs : List ℕ) → AreRising bs → AreRising (filter p bs)
rising_filter p [] rising = tt
rising_filter p (b ∷ bs) rising =
    rising_filtered b (p b) (filter p bs) (above_filter p b bs rising.0) (rising_filter p bs rising.1)

above_joined : (a : ℕ) (xs ys : List ℕ) → AreAbove a xs → AreAbove a ys → AreAbove a (xs ++ ys)
above_joined a [] ys h k = k
above_joined a (x ∷ xs) ys h k = (h.0, above_joined a xs ys h.1 k)

only_above : (a b : ℕ) (t : Bool) (cs : List ℕ) → nat_lt a b ≡ t → AreAbove a cs → AreAbove a (cond t (b ∷ cs) cs)
only_above a b true cs e h = (lt_is a b e, h)
only_above a b false cs e h = h

above_above : (a : ℕ) (bs : List ℕ) → AreAbove a (above a bs)
above_above a [] = tt
above_above a (b ∷ bs) = only_above a b (nat_lt a b) (above a bs) refl (above_above a bs)

-- those below an address, then that address and those above it
rising_joined : (a b : ℕ) (t : Bool) (cs zs : List ℕ) → nat_lt b a ≡ t → AreAbove b cs → AreAbove a zs → AreRising (cs ++ (a ∷ zs))
    → AreRising (cond t (b ∷ cs) cs ++ (a ∷ zs))
rising_joined a b true cs zs e over h rising =
    let less : b < a = lt_is b a e in
    (above_joined b cs (a ∷ zs) over (less, above_less b a zs less h), rising)
rising_joined a b false cs zs e over h rising = rising

rising_before : (a : ℕ) (bs zs : List ℕ) → AreRising bs → AreAbove a zs → AreRising zs → AreRising (below a bs ++ (a ∷ zs))
rising_before a [] zs rising over more = (over, more)
rising_before a (b ∷ bs) zs rising over more =
    rising_joined a b (nat_lt b a) (below a bs) zs refl (above_filter (λ c. nat_lt c a) b bs rising.0) over
    (rising_before a bs zs rising.1 over more)

pub rising_with : (a : ℕ) (bs : List ℕ) → AreRising bs → AreRising (with a bs)
rising_with a bs rising =
    rising_before a bs (above a bs) rising (above_above a bs) (rising_filter (λ b. nat_lt a b) bs rising)

pub rising_without : (a : ℕ) (bs : List ℕ) → AreRising bs → AreRising (without a bs)
rising_without a bs rising = rising_filter (λ b. not (b == a)) bs rising

-- none of those above it is an address
not_in : (a : ℕ) (bs : List ℕ) → AreAbove a bs → is_in a bs ≡ true → ⊥
not_in a [] h there = cc
not_in a (b ∷ bs) h there = not_in a bs h.1 (rw (not_equal a b h.0) at there)

other : (b a : ℕ) → (b == a) ≡ false → b ≢ a
other b a h = grind (arith, h)

lt_not : (b a : ℕ) → nat_lt b a ≡ false → a ≤ b
lt_not b a h = grind (arith, h)

-- an address that is the head, or after it
remove_head : (a b : ℕ) (bs : List ℕ) (t e : Bool) → nat_lt b a ≡ t → (b == a) ≡ e → (e || is_in a bs) ≡ true
    → AreAbove b bs → (is_in a bs ≡ true → remove bs (count_below a bs) ≡ without a bs)
    → remove (b ∷ bs) (cond t (suc (count_below a bs)) (count_below a bs)) ≡ cond (not e) (b ∷ without a bs) (without a bs)
remove_head a b bs true true p q there h more = absurd (grind (arith, lt_is b a p, q))
remove_head a b bs true false p q there h more = ap (λ cs. b ∷ cs) (more there)
remove_head a b bs false true p q there h more =
    let over : AreAbove a bs = rw (sym (eqb-true b a q)) h in
    rw (none_below a bs over) (sym (all_others a bs over))
remove_head a b bs false false p q there h more = absurd (not_in a bs (above_less a b bs (omega (arith, lt_not b a p, other b a q)) h) there)

-- an address of a rising list, taken out from after those that are below it
pub removed : (a : ℕ) (bs : List ℕ) → AreRising bs → is_in a bs ≡ true → remove bs (count_below a bs) ≡ without a bs
removed a [] rising there = absurd cc
removed a (b ∷ bs) rising there =
    rw (count_cons a b bs) (remove_head a b bs (nat_lt b a) (b == a) refl refl there rising.0 (removed a bs rising.1))

pub not_there : (a : ℕ) (bs : List ℕ) → is_in a bs ≡ false → without a bs ≡ bs
not_there a [] gone = refl
not_there a (b ∷ bs) gone =
    let apart = or_false (b == a) (is_in a bs) gone in
    rw apart.0 (ap (λ cs. b ∷ cs) (not_there a bs apart.1))

place_head : (a b : ℕ) (bs : List ℕ) (t e : Bool) → nat_lt b a ≡ t → (b == a) ≡ e → (e || is_in a bs) ≡ true
    → AreAbove b bs → (is_in a bs ≡ true → count_below a bs < length bs) → cond t (suc (count_below a bs)) (count_below a bs) < suc (length bs)
place_head a b bs true true p q there h more = absurd (omega (arith, lt_is b a p, eqb-true b a q))
place_head a b bs true false p q there h more = omega (arith, more there)
place_head a b bs false true p q there h more =
    let over : AreAbove a bs = rw (sym (eqb-true b a q)) h in omega (arith, none_below a bs over)
place_head a b bs false false p q there h more = omega (arith, more there)

-- an address that is in a list is in one of its places
pub place_below : (a : ℕ) (bs : List ℕ) → AreRising bs → is_in a bs ≡ true → count_below a bs < length bs
place_below a [] rising there = absurd cc
place_below a (b ∷ bs) rising there =
    rw (count_cons a b bs) (place_head a b bs (nat_lt b a) (b == a) refl refl there rising.0 (place_below a bs rising.1))
