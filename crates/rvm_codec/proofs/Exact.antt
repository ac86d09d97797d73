-- For each way to put codecs together: what is read was written and fits, and what fits is read back.
use Rattle.std.proofs.Common.{◌≡◌, ℕ, zero, suc, ◌^◌, ◌<◌, ◌≤◌, Bool, true, false, ◌&&◌, cond, eqb, ltb, take, drop, List, [], ◌∷◌, ◌++◌, length, Option, Some, None, refl, sym, ap, subst, ◌∙◌, append_assoc, append-nil, arith, length-append, length-take, take-append-drop}
use Rattle.std.specs.Prelude.{nat_lt, ◌==◌}
use Rattle.std.specs.List.{flat_map, list_all}
use Rattle.std.proofs.lemmas.Bool.{eqb-true, ltb-false, le-ltb}
use Rattle.std.proofs.lemmas.Bool.Decides.{nat_tests}
use Rattle.std.proofs.lemmas.List.{take_at, drop_at, nil_from_length}
use Rattle.byteorder.specs.Endian.{little_bytes}
use Rattle.rvm_codec.specs.Numbers.{number_at, within}
use Rattle.rvm_codec.specs.Codec.{◌>>=◌, Codec, nothing, any, number, bytes_at, raw, both, only, as_type, read_each, times, then_each, counted_each, counted_bytes, flag, flag_byte, option_of, option_parts, optional}
use Rattle.rvm_codec.specs.Format.{Format, alone, with_rest, only_if}
use Rattle.rvm_codec.specs.Exact.{IsBytes, Takes, IsExact, IsExactFormat}
use Rattle.rvm_codec.proofs.Steps.{IsBytes-drop, Takes-then, Takes-all, bind_some, some_is, tested, let_through, both_are, and_so, same_number}
use Rattle.rvm_codec.proofs.Numbers.{number_takes, number_again}

lt_is : (a b : ℕ) → nat_lt a b ≡ true → a < b
lt_is a b h = grind (arith, nat_tests)

is_lt : (a b : ℕ) → a < b → nat_lt a b ≡ true
is_lt a b h = grind (arith, nat_tests)

-- a number in a range is below any limit above it
pub within_below : (limit low high : ℕ) → high < limit → (n : ℕ) → within low high n ≡ true → n < limit
within_below limit low high lt n h = grind (arith, nat_tests)

-- ---- fields

pub nothing_exact : IsExact nothing
nothing_exact = record {
  takes = λ bytes x fits e. subst (λ (y : Unit {0} × List ℕ). Takes bytes [] y.1 × (true ≡ true)) (some_is (tt, bytes) x e) (record { parts = refl; rest_fits = fits }, refl);
  again = λ a rest h. refl;
}

pub any_exact : (size : ℕ) → IsExact (any size)
any_exact size = record {
  takes = λ bytes x fits e. let t = number_takes size bytes x.0 x.1 fits e in (t.0, is_lt x.0 (256 ^ size) t.1);
  again = λ n rest h. number_again size n rest (lt_is n (256 ^ size) h);
}

pub number_exact : (size : ℕ) (test : ℕ → Bool) → ((n : ℕ) → test n ≡ true → n < 256 ^ size) → IsExact (number size test)
number_exact size test below = record {
  takes = λ bytes x fits e.
      let a = bind_some (number_at size bytes) (λ n. cond (test n.0) (Some n) None) x e in
      let t = tested (test a.0.0) a.0 x a.2 in
      let taken = number_takes size bytes a.0.0 a.0.1 fits a.1 in
      subst (λ (y : ℕ × List ℕ). Takes bytes (little_bytes size y.0) y.1 × (test y.0 ≡ true)) t.1 (taken.0, t.0);
  again = λ n rest h. rw (number_again size n rest (below n h), h) refl;
}

-- a number in a range that this many bytes can hold
pub within_exact : (size low high : ℕ) → high < 256 ^ size → IsExact (number size (within low high))
within_exact size low high lt = number_exact size (within low high) (within_below (256 ^ size) low high lt)

bytes_take : (count : ℕ) (bytes : List ℕ) (x : List ℕ × List ℕ) → IsBytes bytes → bytes_at count bytes ≡ Some x → Takes bytes x.0 x.1 × (length x.0 ≡ count)
bytes_take count bytes x fits e =
    let u = let_through (ltb (length bytes) count) (take count bytes, drop count bytes) x e in
    let long : count ≤ length bytes = ltb-false _ _ u.0 in
    let len : length (take count bytes) ≡ count = omega (arith, length-take count bytes) in
    let t : Takes bytes (take count bytes) (drop count bytes) = record { parts = sym (take-append-drop count bytes); rest_fits = IsBytes-drop count bytes fits } in
    subst (λ (y : List ℕ × List ℕ). Takes bytes y.0 y.1 × (length y.0 ≡ count)) u.1 (t, len)

bytes_again : (count : ℕ) (xs rest : List ℕ) → length xs ≡ count → bytes_at count (xs ++ rest) ≡ Some (xs, rest)
bytes_again count xs rest e =
    let long : ltb (length (xs ++ rest)) count ≡ false = le-ltb _ _ (omega (arith, length-append xs rest)) in
    rw (long, take_at xs rest count e, drop_at xs rest count e) refl

pub raw_exact : (count : ℕ) → IsExact (raw count)
raw_exact count = record {
  takes = λ bytes x fits e. let t = bytes_take count bytes x fits e in (t.0, same_number _ _ t.1);
  again = λ xs rest h. bytes_again count xs rest (eqb-true _ _ h);
}

-- ---- one after the other

pub both_exact : {A B : Type 0} (c : Codec A) (d : Codec B) → IsExact c → IsExact d → IsExact (both c d)
both_exact {A} {B} c d ec ed = record {
  takes = λ bytes x fits e.
      let a = bind_some (c.read bytes) (λ x. d.read x.1 >>= λ y. Some ((x.0, y.0), y.1)) x e in
      let b = bind_some (d.read a.0.1) (λ y. Some ((a.0.0, y.0), y.1)) x a.2 in
      let t0 = ec.takes bytes a.0 fits a.1 in
      let t1 = ed.takes a.0.1 b.0 t0.0.rest_fits b.1 in
      let made : (A × B) × List ℕ = ((a.0.0, b.0.0), b.0.1) in
      subst (λ (y : (A × B) × List ℕ). Takes bytes ((both c d).write y.0) y.1 × ((both c d).fits y.0 ≡ true)) (some_is made x b.2)
      (Takes-then bytes (c.write a.0.0) a.0.1 (d.write b.0.0) b.0.1 t0.0 t1.0, and_so (c.fits a.0.0) (d.fits b.0.0) t0.1 t1.1);
  again = λ x rest h.
      let f = both_are (c.fits x.0) (d.fits x.1) h in
      ap (both c d).read (append_assoc (c.write x.0) (d.write x.1) rest) ∙ rw (ec.again x.0 (d.write x.1 ++ rest) f.0, ed.again x.1 rest f.1) refl;
}

pub only_exact : {A : Type 0} (c : Codec A) (test : A → Bool) → IsExact c → IsExact (only c test)
only_exact {A} c test ec = record {
  takes = λ bytes x fits e.
      let a = bind_some (c.read bytes) (λ x. cond (test x.0) (Some x) None) x e in
      let t = tested (test a.0.0) a.0 x a.2 in
      let taken = ec.takes bytes a.0 fits a.1 in
      subst (λ (y : A × List ℕ). Takes bytes (c.write y.0) y.1 × ((only c test).fits y.0 ≡ true)) t.1 (taken.0, and_so (c.fits a.0.0) (test a.0.0) taken.1 t.0);
  again = λ a rest h. let f = both_are (c.fits a) (test a) h in rw (ec.again a rest f.0, f.1) refl;
}

pub as_exact : {A B : Type 0} (c : Codec A) (to : A → B) (from : B → A) → IsExact c → ((a : A) → c.fits a ≡ true → from (to a) ≡ a) → ((b : B) → to (from b) ≡ b) → IsExact (as_type c to from)
as_exact {A} {B} c to from ec there back = record {
  takes = λ bytes x fits e.
      let a = bind_some (c.read bytes) (λ x. Some (to x.0, x.1)) x e in
      let taken = ec.takes bytes a.0 fits a.1 in
      let made : B × List ℕ = (to a.0.0, a.0.1) in
      let same = there a.0.0 taken.1 in
      subst (λ (y : B × List ℕ). Takes bytes (c.write (from y.0)) y.1 × (c.fits (from y.0) ≡ true)) (some_is made x a.2)
      (subst (λ (z : A). Takes bytes (c.write z) a.0.1 × (c.fits z ≡ true)) (sym same) taken);
  again = λ b rest h. rw (ec.again (from b) rest h, back b) refl;
}

-- ---- lists

each_takes : {A : Type 0} (d : Codec A) → IsExact d → (n : ℕ) (bytes : List ℕ) (x : List A × List ℕ) → IsBytes bytes → read_each d.read n bytes ≡ Some x → Takes bytes (flat_map d.write x.0) x.1 × (length x.0 ≡ n) × (list_all d.fits x.0 ≡ true)
unfolding read_each
each_takes {A} d ed zero bytes x fits e =
    let made : List A × List ℕ = ([], bytes) in
    subst (λ (y : List A × List ℕ). Takes bytes (flat_map d.write y.0) y.1 × (length y.0 ≡ 0) × (list_all d.fits y.0 ≡ true)) (some_is made x e) (record { parts = refl; rest_fits = fits }, refl, refl)
each_takes {A} d ed (suc n) bytes x fits e =
    let a = bind_some (d.read bytes) (λ x. read_each d.read n x.1 >>= λ y. Some (x.0 ∷ y.0, y.1)) x e in
    let b = bind_some (read_each d.read n a.0.1) (λ y. Some (a.0.0 ∷ y.0, y.1)) x a.2 in
    let t0 = ed.takes bytes a.0 fits a.1 in
    let t1 = each_takes d ed n a.0.1 b.0 t0.0.rest_fits b.1 in
    let made : List A × List ℕ = (a.0.0 ∷ b.0.0, b.0.1) in
    subst (λ (y : List A × List ℕ). Takes bytes (flat_map d.write y.0) y.1 × (length y.0 ≡ suc n) × (list_all d.fits y.0 ≡ true)) (some_is made x b.2)
    (Takes-then bytes (d.write a.0.0) a.0.1 (flat_map d.write b.0.0) b.0.1 t0.0 t1.0, ap suc t1.1, and_so (d.fits a.0.0) (list_all d.fits b.0.0) t0.1 t1.2)

each_again : {A : Type 0} (d : Codec A) → IsExact d → (xs : List A) (rest : List ℕ) → list_all d.fits xs ≡ true → read_each d.read (length xs) (flat_map d.write xs ++ rest) ≡ Some (xs, rest)
unfolding read_each
each_again d ed [] rest h = refl
each_again d ed (x ∷ xs) rest h =
    let f = both_are (d.fits x) (list_all d.fits xs) h in
    ap (read_each d.read (suc (length xs))) (append_assoc (d.write x) (flat_map d.write xs) rest) ∙ rw (ed.again x (flat_map d.write xs ++ rest) f.0, each_again d ed xs rest f.1) refl

pub times_exact : {A : Type 0} (n : ℕ) (d : Codec A) → IsExact d → IsExact (times n d)
times_exact {A} n d ed = record {
  takes = λ bytes x fits e.
      let t = each_takes d ed n bytes x fits e in
      (t.0, and_so (eqb (length x.0) n) (list_all d.fits x.0) (same_number _ _ t.1) t.2);
  again = λ xs rest h.
      let g = both_are (eqb (length xs) n) (list_all d.fits xs) h in
      let e : n ≡ length xs = sym (eqb-true _ _ g.0) in
      rw e (each_again d ed xs rest g.1);
}

pub then_each_exact : {A B : Type 0} (c : Codec A) (count : A → ℕ) (d : Codec B) → IsExact c → IsExact d → IsExact (then_each c count d)
then_each_exact {A} {B} c count d ec ed = record {
  takes = λ bytes x fits e.
      let a = bind_some (c.read bytes) (λ x. read_each d.read (count x.0) x.1 >>= λ y. Some ((x.0, y.0), y.1)) x e in
      let b = bind_some (read_each d.read (count a.0.0) a.0.1) (λ y. Some ((a.0.0, y.0), y.1)) x a.2 in
      let t0 = ec.takes bytes a.0 fits a.1 in
      let t1 = each_takes d ed (count a.0.0) a.0.1 b.0 t0.0.rest_fits b.1 in
      let made : (A × List B) × List ℕ = ((a.0.0, b.0.0), b.0.1) in
      subst (λ (y : (A × List B) × List ℕ). Takes bytes ((then_each c count d).write y.0) y.1 × ((then_each c count d).fits y.0 ≡ true)) (some_is made x b.2)
      (Takes-then bytes (c.write a.0.0) a.0.1 (flat_map d.write b.0.0) b.0.1 t0.0 t1.0, and_so (c.fits a.0.0) (eqb (length b.0.0) (count a.0.0) && list_all d.fits b.0.0) t0.1 (and_so (eqb (length b.0.0) (count a.0.0)) (list_all d.fits b.0.0) (same_number _ _ t1.1) t1.2));
  again = λ x rest h.
      let f = both_are (c.fits x.0) (eqb (length x.1) (count x.0) && list_all d.fits x.1) h in
      let g = both_are (eqb (length x.1) (count x.0)) (list_all d.fits x.1) f.1 in
      let n : count x.0 ≡ length x.1 = sym (eqb-true _ _ g.0) in
      ap (then_each c count d).read (append_assoc (c.write x.0) (flat_map d.write x.1) rest) ∙ rw (ec.again x.0 (flat_map d.write x.1 ++ rest) f.0, n, each_again d ed x.1 rest g.1) refl;
}

pub counted_each_exact : {A : Type 0} (size : ℕ) (test : ℕ → Bool) (d : Codec A) → ((n : ℕ) → test n ≡ true → n < 256 ^ size) → IsExact d → IsExact (counted_each size test d)
counted_each_exact {A} size test d below ed = record {
  takes = λ bytes x fits e.
      let ec = number_exact size test below in
      let a = bind_some ((number size test).read bytes) (λ x. read_each d.read x.0 x.1) x e in
      let t0 = ec.takes bytes a.0 fits a.1 in
      let t1 = each_takes d ed a.0.0 a.0.1 x t0.0.rest_fits a.2 in
      let pair = Takes-then bytes (little_bytes size a.0.0) a.0.1 (flat_map d.write x.0) x.1 t0.0 t1.0 in
      (subst (λ (k : ℕ). Takes bytes (little_bytes size k ++ flat_map d.write x.0) x.1) (sym t1.1) pair, and_so (test (length x.0)) (list_all d.fits x.0) (ap test t1.1 ∙ t0.1) t1.2);
  again = λ xs rest h.
      let ec = number_exact size test below in
      let f = both_are (test (length xs)) (list_all d.fits xs) h in
      ap (counted_each size test d).read (append_assoc (little_bytes size (length xs)) (flat_map d.write xs) rest) ∙ rw (ec.again (length xs) (flat_map d.write xs ++ rest) f.0, each_again d ed xs rest f.1) refl;
}

pub counted_bytes_exact : (size : ℕ) (test : ℕ → Bool) → ((n : ℕ) → test n ≡ true → n < 256 ^ size) → IsExact (counted_bytes size test)
counted_bytes_exact size test below = record {
  takes = λ bytes x fits e.
      let ec = number_exact size test below in
      let a = bind_some ((number size test).read bytes) (λ x. bytes_at x.0 x.1) x e in
      let t0 = ec.takes bytes a.0 fits a.1 in
      let t1 = bytes_take a.0.0 a.0.1 x t0.0.rest_fits a.2 in
      let pair = Takes-then bytes (little_bytes size a.0.0) a.0.1 x.0 x.1 t0.0 t1.0 in
      (subst (λ (k : ℕ). Takes bytes (little_bytes size k ++ x.0) x.1) (sym t1.1) pair, ap test t1.1 ∙ t0.1);
  again = λ xs rest h.
      let ec = number_exact size test below in
      ap (counted_bytes size test).read (append_assoc (little_bytes size (length xs)) xs rest) ∙ rw (ec.again (length xs) (xs ++ rest) h, bytes_again (length xs) xs rest refl) refl;
}

-- ---- flags and options

flag_there : (n : ℕ) → within 0 1 n ≡ true → flag_byte (eqb n 1) ≡ n
flag_there zero h = refl
flag_there (suc zero) h = refl
flag_there (suc (suc n)) h = absurd (omega (arith, within_below 2 0 1 (omega arith) (suc (suc n)) h))

flag_back : (b : Bool) → eqb (flag_byte b) 1 ≡ b
flag_back true = refl
flag_back false = refl

pub flag_exact : IsExact flag
flag_exact = as_exact (number 1 (within 0 1)) (λ n. n == 1) flag_byte (within_exact 1 0 1 (omega arith)) flag_there flag_back

option_there : (test : ℕ → Bool) (p b : Bool) (n : ℕ) → p && cond b (test n) (eqb n 0) ≡ true → option_parts (option_of (b, n)) ≡ (b, n)
option_there test true true n h = refl
option_there test true false n h = ap (λ (k : ℕ). (false, k)) (sym (eqb-true _ _ h))
option_there test false b n h = absurd cc

option_back : (o : Option ℕ) → option_of (option_parts o) ≡ o
option_back None = refl
option_back (Some n) = refl

pub optional_exact : (c : Codec ℕ) (test : ℕ → Bool) → IsExact c → IsExact (optional c test)
optional_exact c test ec =
    let parts = only_exact (both flag c) (λ x. cond x.0 (test x.1) (eqb x.1 0)) (both_exact flag c flag_exact ec) in
    as_exact (only (both flag c) (λ x. cond x.0 (test x.1) (eqb x.1 0))) option_of option_parts parts (λ x h. option_there test ((both flag c).fits x) x.0 x.1 h) option_back

-- ---- all the bytes

pub alone_exact : {A : Type 0} (c : Codec A) → IsExact c → IsExactFormat (alone c)
alone_exact {A} c ec = record {
  takes = λ bytes a fits e.
      let x = bind_some (c.read bytes) (λ x. cond (eqb (length x.1) 0) (Some x.0) None) a e in
      let t = tested (eqb (length x.0.1) 0) x.0.0 a x.2 in
      let taken = ec.takes bytes x.0 fits x.1 in
      let all = Takes-all bytes (c.write x.0.0) x.0.1 taken.0 (nil_from_length x.0.1 (eqb-true _ _ t.0)) in
      subst (λ (y : A). (bytes ≡ c.write y) × (c.fits y ≡ true)) t.1 (all, taken.1);
  again = λ a h.
      let read : c.read (c.write a) ≡ Some (a, []) = ap c.read (sym (append-nil (c.write a))) ∙ ec.again a [] h in
      rw read refl;
}

pub with_rest_exact : {A : Type 0} (c : Codec A) → IsExact c → IsExactFormat (with_rest c)
with_rest_exact c ec = record {
  takes = λ bytes x fits e. let t = ec.takes bytes x fits e in (t.0.parts, t.1);
  again = λ x h. ec.again x.0 x.1 h;
}

pub only_if_exact : {A : Type 0} (f : Format A) (test : A → Bool) → IsExactFormat f → IsExactFormat (only_if f test)
only_if_exact {A} f test ef = record {
  takes = λ bytes a fits e.
      let x = bind_some (f.read bytes) (λ x. cond (test x) (Some x) None) a e in
      let t = tested (test x.0) x.0 a x.2 in
      let taken = ef.takes bytes x.0 fits x.1 in
      subst (λ (y : A). (bytes ≡ f.write y) × ((only_if f test).fits y ≡ true)) t.1 (taken.0, and_so (f.fits x.0) (test x.0) taken.1 t.0);
  again = λ a h. let g = both_are (f.fits a) (test a) h in rw (ef.again a g.0, g.1) refl;
}
