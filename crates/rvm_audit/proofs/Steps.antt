-- Steps of hosts by number.
use Rattle.std.proofs.Common.{◌≡◌, ◌∙◌, ℕ, zero, suc, ◌≤◌, ◌≢◌, ◌&&◌, ◌||◌, Bool, true, false, if◌then◌else◌, List, [], ◌∷◌, ◌++◌, Option, length, take, Some, None, append-nil, refl, sym, ap, arith, inl, inr}
use Rattle.std.specs.Prelude.{slice_get, ◌⊎◌}
use Rattle.std.proofs.lemmas.Bool.{eq-eqb, ne_eqb}
use Rattle.std.proofs.lemmas.Option.{slice_get_within, some_pair_parts}
use Rattle.rvm_recorder.specs.Entries.{PlainEntry}
use Rattle.rvm_protocol.specs.Pages.{put}
use Rattle.rvm_audit.specs.Hosts.{Made, HostEntry, cons_if, entries_at, made_more}
use Rattle.rvm_audit.proofs.Gets.{get_last, get_nothing, take_get}

-- TESTS

pub and_first : (a b : Bool) → (a && b) ≡ true → a ≡ true
and_first true b t = refl
and_first false b t = t

pub and_both : (a b : Bool) → (a && b) ≡ true → (a ≡ true) × (b ≡ true)
and_both true b h = (refl, h)
and_both false b h = cc

pub or_true : (a b : Bool) → (a || b) ≡ true → (a ≡ true) ⊎ (b ≡ true)
or_true true b h = inl refl
or_true false b h = inr h

pub put_other : {V : Type 0} (f : ℕ → V) (p q : ℕ) (v : V) → q ≢ p → put f p v q ≡ f q
put_other f p q v h = ap (λ (t : Bool). if t then v else f q) (ne_eqb q p h)

-- STEPS

pub cons_append : {X : Type 0} (b : Bool) (x : X) (xs ys : List X) → cons_if b x (xs ++ ys) ≡ cons_if b x xs ++ ys
cons_append true x xs ys = refl
cons_append false x xs ys = refl

-- an entry of a host's own
pub own_entries : (x : ℕ) (n : PlainEntry) (ss : List HostEntry) → entries_at x ((x, n) ∷ ss) ≡ n ∷ entries_at x ss
own_entries x n ss = ap (λ b. cons_if b n (entries_at x ss)) (eq-eqb x x refl)

-- a frame of host x, beside those of host y
pub made_step : (y x : ℕ) (F : List ℕ → Type 0) (made : List Made) (frame : Option (List ℕ))
    → ((k : ℕ) (bytes : List ℕ) → slice_get made k ≡ Some (y, bytes) → F bytes)
    → ((bytes : List ℕ) → x ≡ y → frame ≡ Some bytes → F bytes)
    → (k : ℕ) (bytes : List ℕ) → slice_get (made ++ made_more x frame) k ≡ Some (y, bytes) → F bytes
made_step y x F made None old new k bytes at = old k bytes (get_nothing made k (y, bytes) at)
made_step y x F made (Some more) old new k bytes at = elim (get_last made (x, more) k (y, bytes) at) [
  | inl here ↦ old k bytes here
  | inr last ↦ let e = some_pair_parts x y more bytes (ap Some last.0) in new bytes e.0 (ap Some e.1)
]

pub take_short : {X : Type 0} (q : ℕ) (xs : List X) → (length (take q xs) ≤ q) × (length (take q xs) ≤ length xs)
take_short zero [] = (omega arith, omega arith)
take_short zero (x ∷ xs) = (omega arith, omega arith)
take_short (suc q) [] = (omega arith, omega arith)
take_short (suc q) (x ∷ xs) =
    let r = take_short q xs in let a = r.0 in let b = r.1 in (omega (arith, a), omega (arith, b))

pub take_within : {X : Type 0} (q : ℕ) (xs : List X) → q ≤ length xs → length (take q xs) ≡ q
take_within zero [] le = refl
take_within zero (x ∷ xs) le = refl
take_within (suc q) [] le = absurd (omega (arith, le))
take_within (suc q) (x ∷ xs) le = ap suc (take_within q xs (omega (arith, le)))

pub get_back : {X : Type 0} (q : ℕ) (xs : List X) (k : ℕ) (s : X) → slice_get (take q xs) k ≡ Some s
    → slice_get xs k ≡ Some s
get_back zero [] k s at = at
get_back zero (x ∷ xs) k s at = cc
get_back (suc q) [] k s at = at
get_back (suc q) (x ∷ xs) zero s at = at
get_back (suc q) (x ∷ xs) (suc k) s at = get_back q xs k s at

-- what a host has done, and how far it is, after one of its entries
pub done_next : (b : Bool) (i k : ℕ) (n : PlainEntry) (xs : List PlainEntry) → (b ≡ true
    → (slice_get xs i ≡ Some n) × (k ≡ suc i))
    → take i xs ++ cons_if b n [] ≡ take (if b then k else i) xs
done_next true i k n xs is = sym (take_get xs i n (is refl).0) ∙ ap (λ m. take m xs) (sym (is refl).1)
done_next false i k n xs is = append-nil (take i xs)

pub within_next : (b : Bool) (i k : ℕ) (n : PlainEntry) (xs : List PlainEntry) → (b ≡ true
    → (slice_get xs i ≡ Some n) × (k ≡ suc i))
    → i ≤ length xs → (if b then k else i) ≤ length xs
within_next true i k n xs is le = let l = slice_get_within xs i n (is refl).0 in let e = (is refl).1 in omega
    (arith, l, e)
within_next false i k n xs is le = le
