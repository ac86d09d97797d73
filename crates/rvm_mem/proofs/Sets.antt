-- Sets of pages: their count, sums and the lowest page.
use Rattle.std.proofs.Common.{◌≡◌, ℕ, zero, suc, ◌+◌, ◌<◌, List, [], ◌∷◌, Bool, true, false, ◌||◌, length, get_or, set, replicate, refl, sym, ap, ◌∙◌, arith, nat_lt, Some, None, cond}
use Rattle.std.proofs.lemmas.Bool.{lt-ltb, le-ltb}
use Rattle.std.proofs.lemmas.List.Sums.{sum_by-set, position_or_len_is}
use Rattle.std.proofs.lemmas.List.Folds.{sum_by-replicate}
use Rattle.std.specs.List.{position_or_len}
use Rattle.rvm_mem.specs.Pages.{count, first, union}
use Rattle.rvm_mem.proofs.Bits.{as_number}

-- how many pages
pub count_in : (pages : List Bool) (p : ℕ) → p < length pages → get_or pages p false ≡ false → count (set pages p true) ≡ count pages + 1
count_in pages p inside out =
    let all : count (set pages p true) + as_number (get_or pages p false) ≡ count pages + 1 = sum_by-set as_number pages p true false inside in
    let none : as_number (get_or pages p false) ≡ 0 = ap as_number out in
    omega arith

pub count_out : (pages : List Bool) (p : ℕ) → p < length pages → get_or pages p false ≡ true → count (set pages p false) + 1 ≡ count pages
count_out pages p inside here =
    let all : count (set pages p false) + as_number (get_or pages p false) ≡ count pages + 0 = sum_by-set as_number pages p false false inside in
    let one : as_number (get_or pages p false) ≡ 1 = ap as_number here in
    omega arith

pub count_none : (n : ℕ) → count (replicate n false) ≡ 0
count_none n = sum_by-replicate as_number n false ∙ omega arith

pub count_all : (n : ℕ) → count (replicate n true) ≡ n
count_all n = sum_by-replicate as_number n true ∙ omega arith

-- the pages of two sets
pub get-union : (pages others : List Bool) (k : ℕ) → length others ≡ length pages → get_or (union pages others) k false ≡ (get_or pages k false || get_or others k false)
unfolding union
get-union [] [] k same = refl
get-union [] (there ∷ others) k same = absurd (omega arith)
get-union (here ∷ pages) [] k same = absurd (omega arith)
get-union (here ∷ pages) (there ∷ others) zero same = refl
get-union (here ∷ pages) (there ∷ others) (suc k) same = get-union pages others k (omega arith)

pub length-union : (pages others : List Bool) → length (union pages others) ≡ length pages
unfolding union
length-union [] others = refl
length-union (here ∷ pages) [] = refl
length-union (here ∷ pages) (there ∷ others) = ap suc (length-union pages others)

-- the lowest page
pub first_is : (pages : List Bool) (p : ℕ) → p < length pages → get_or pages p false ≡ true → ((k : ℕ) → k < p → get_or pages k false ≡ false) → Some p ≡ first pages
first_is pages p inside here none =
    let place : position_or_len (λ (b : Bool). b) pages ≡ p = position_or_len_is (λ (b : Bool). b) pages p false (omega arith) none (λ _. here) in
    let below : nat_lt p (length pages) ≡ true = lt-ltb p (length pages) inside in
    sym (ap (λ q. cond (nat_lt q (length pages)) (Some q) None) place ∙ ap (λ b. cond b (Some p) None) below)

pub first_none : (pages : List Bool) → ((k : ℕ) → get_or pages k false ≡ false) → None ≡ first pages
first_none pages none =
    let place : position_or_len (λ (b : Bool). b) pages ≡ length pages = position_or_len_is (λ (b : Bool). b) pages (length pages) false (omega arith) (λ k below. none k) (λ no. absurd (omega arith)) in
    let past : nat_lt (length pages) (length pages) ≡ false = le-ltb (length pages) (length pages) (omega arith) in
    sym (ap (λ q. cond (nat_lt q (length pages)) (Some q) None) place ∙ ap (λ b. cond b (Some (length pages)) None) past)
