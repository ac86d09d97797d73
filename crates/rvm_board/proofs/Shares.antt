-- How many turns each hart has, and counters that rise by these numbers.
use Rattle.std.proofs.Common.{◌≡◌, ℕ, zero, suc, ◌+◌, ◌*◌, ◌-◌, ◌/◌, ◌%◌, ◌<◌, ◌≤◌, List, length, Bool, true, false, cond, get_or, set, refl, sym, ap, ◌∙◌, arith, inl, inr}
use Rattle.std.specs.Prelude.{nat_lt}
use Rattle.std.proofs.lemmas.Bool.{cases_eq}
use Rattle.std.proofs.lemmas.List.{get_or-set_same, get_or-set_other, get_or_default, length-set, same_lists}
use Rattle.std.proofs.Math.Nat.{add-mul-div_left, add-mul-mod_self_left, div-eq_of_lt, div-le_self, div_self, mod-add-div, mod-eq_of_lt, mod-lt, mod_self}
use Rattle.rvm_hart.specs.Machine.{HartState}
use Rattle.rvm_hart.specs.Frozen.{risen_by}
use Rattle.rvm_board.specs.Board.{new_hart}
use Rattle.rvm_board.specs.Rounds.{risen_up_to, share}

lt_true : (a b : ℕ) → a < b → nat_lt a b ≡ true
lt_true a b h = grind (arith, h)

lt_false : (a b : ℕ) → b ≤ a → nat_lt a b ≡ false
lt_false a b h = grind (arith, h)

lt_is : (a b : ℕ) → nat_lt a b ≡ true → a < b
lt_is a b h = grind (arith, h)

lt_not : (a b : ℕ) → nat_lt a b ≡ false → b ≤ a
lt_not a b h = grind (arith, h)

-- 1 if a number is below another one
abbrev one_below : (k r : ℕ) → ℕ
one_below k r = cond (nat_lt k r) 1 0

-- the turns of hart k among the first t, if hart 0 has the first
abbrev from_0 : (harts t k : ℕ) → ℕ
from_0 harts t k = t / harts + one_below k (t % harts)

one_more_below : (k r : ℕ) (b : Bool) → nat_lt k r ≡ b → (k ≡ r → one_below k (suc r) ≡ suc (one_below k r))
one_more_below k r true e same = absurd (omega (arith, lt_is k r e, same))
one_more_below k r false e same = ap (λ b. cond b 1 0) (lt_true k (suc r) (omega (arith, same))) ∙ ap (λ (b : Bool). suc (cond b 1 0)) (sym e)

no_more_below : (k r : ℕ) (b : Bool) → nat_lt k r ≡ b → (k ≡ r → ⊥) → one_below k (suc r) ≡ one_below k r
no_more_below k r true e other = ap (λ b. cond b 1 0) (lt_true k (suc r) (omega (arith, lt_is k r e)) ∙ sym e)
no_more_below k r false e other = ap (λ b. cond b 1 0) (lt_false k (suc r) (omega (arith, lt_not k r e, other)) ∙ sym e)

-- the place of the next turn
as_sum : (t harts : ℕ) → suc t ≡ suc (t % harts) + harts * (t / harts)
as_sum t harts = ap suc (sym (mod-add-div t harts)) ∙ omega arith

next_div : (t harts : ℕ) → 0 < harts → suc t / harts ≡ suc (t % harts) / harts + t / harts
next_div t harts some = ap (λ i. i / harts) (as_sum t harts) ∙ add-mul-div_left (suc (t % harts)) (t / harts) some

next_mod : (t harts : ℕ) → suc t % harts ≡ suc (t % harts) % harts
next_mod t harts = ap (λ i. i % harts) (as_sum t harts) ∙ add-mul-mod_self_left (suc (t % harts)) harts (t / harts)

-- what the next turn adds, given the place of this one
next_cases : (harts q r k : ℕ) → r < harts → k < harts → (suc r ≡ harts → ⊥) → suc r / harts + q + one_below k (suc r % harts) ≡ q + one_below k (suc r)
next_cases harts q r k below inside other =
    let less : suc r < harts = omega (arith, below, other) in
    ap (λ i. i + q + one_below k (suc r % harts)) (div-eq_of_lt less) ∙ ap (λ i. 0 + q + one_below k i) (mod-eq_of_lt less) ∙ omega arith

last_cases : (harts q r k : ℕ) → k < harts → suc r ≡ harts → suc r / harts + q + one_below k (suc r % harts) ≡ q + one_below k (suc r)
last_cases harts q r k inside same =
    ap (λ i. i / harts + q + one_below k (i % harts)) same
    ∙ ap (λ i. i + q + one_below k (harts % harts)) (div_self (omega (arith, inside)))
    ∙ ap (λ i. 1 + q + one_below k i) (mod_self harts)
    ∙ ap (λ b. 1 + q + cond b 1 0) (lt_false k 0 (omega arith))
    ∙ omega arith
    ∙ ap (λ b. q + cond b 1 0) (sym (lt_true k (suc r) (omega (arith, inside, same))))

next_from_0 : (harts t k : ℕ) → k < harts → from_0 harts (suc t) k ≡ t / harts + one_below k (suc (t % harts))
next_from_0 harts t k inside =
    ap (λ i. i + one_below k (suc t % harts)) (next_div t harts (omega (arith, inside)))
    ∙ ap (λ i. suc (t % harts) / harts + t / harts + one_below k i) (next_mod t harts)
    ∙ elim (cases_eq (suc (t % harts)) harts) [
      | inl same ↦ last_cases harts (t / harts) (t % harts) k inside same
      | inr other ↦ next_cases harts (t / harts) (t % harts) k (mod-lt t (omega (arith, inside))) inside other
    ]

-- hart `first` and those after it have no turn before the first
few : (b : Bool) → cond b 1 0 ≤ 1
few true = omega arith
few false = omega arith

one_is_few : (k r : ℕ) → one_below k r ≤ 1
one_is_few k r = few (nat_lt k r)

enough_cases : (harts first t k q : ℕ) (b : Bool) → first ≤ t → t ≡ t % harts + harts * q → nat_lt k first ≡ b → one_below k first ≤ q + one_below k (t % harts)
enough_cases harts first t k q false within whole e = let none : one_below k first ≡ 0 = ap (λ b. cond b 1 0) e in omega (arith, none)
enough_cases harts first t k zero true within whole e =
    let less : k < t % harts = omega (arith, lt_is k first e, within, whole) in
    let one : one_below k (t % harts) ≡ 1 = ap (λ b. cond b 1 0) (lt_true k (t % harts) less) in
    omega (arith, one_is_few k first, one)
enough_cases harts first t k (suc q) true within whole e = omega (arith, one_is_few k first)

enough : (harts first n k : ℕ) → one_below k first ≤ from_0 harts (first + n) k
enough harts first n k =
    enough_cases harts first (first + n) k ((first + n) / harts) (nat_lt k first) (omega arith) (sym (mod-add-div (first + n) harts)) refl

-- the hart whose turn it is has one turn more
pub one_share : (harts first n k : ℕ) → k < harts → k ≡ (first + n) % harts → share harts first (suc n) k ≡ suc (share harts first n k)
unfolding share
one_share harts first n k inside same =
    let t : ℕ = first + n in
    ap (λ i. from_0 harts i k - one_below k first) (omega arith)
    ∙ ap (λ i. i - one_below k first) (next_from_0 harts t k inside ∙ ap (λ i. t / harts + i) (one_more_below k (t % harts) (nat_lt k (t % harts)) refl same))
    ∙ omega (arith, enough harts first n k)

-- the others have as many
pub other_share : (harts first n k : ℕ) → k < harts → (k ≡ (first + n) % harts → ⊥) → share harts first (suc n) k ≡ share harts first n k
unfolding share
other_share harts first n k inside other =
    let t : ℕ = first + n in
    ap (λ i. from_0 harts i k - one_below k first) (omega arith)
    ∙ ap (λ i. i - one_below k first) (next_from_0 harts t k inside ∙ ap (λ i. t / harts + i) (no_more_below k (t % harts) (nat_lt k (t % harts)) refl other))

-- of no turns, each hart has none
pub no_share : (harts first k : ℕ) → first < harts → share harts first 0 k ≡ 0
unfolding share
no_share harts first k inside =
    ap (λ i. from_0 harts i k - one_below k first) (omega arith)
    ∙ ap (λ i. i + one_below k (first % harts) - one_below k first) (div-eq_of_lt inside)
    ∙ ap (λ i. 0 + one_below k i - one_below k first) (mod-eq_of_lt inside)
    ∙ omega arith

-- a quotient is no more than the dividend
pub quotient : (n k : ℕ) → n / k ≤ n
quotient n k = div-le_self n k

-- COUNTERS

pub length-risen : (steps : ℕ → ℕ) (n : ℕ) (hs : List HartState) → length (risen_up_to steps n hs) ≡ length hs
length-risen steps zero hs = refl
length-risen steps (suc n) hs = length-set (risen_up_to steps n hs) n _ ∙ length-risen steps n hs

not_yet : (steps : ℕ → ℕ) (n k : ℕ) (hs : List HartState) (d : HartState) → n ≤ k → get_or (risen_up_to steps n hs) k d ≡ get_or hs k d
not_yet steps zero k hs d above = refl
not_yet steps (suc n) k hs d above =
    get_or-set_other (risen_up_to steps n hs) n k _ d (λ e. omega (arith, e, above)) ∙ not_yet steps n k hs d (omega (arith, above))

pub risen_at : (steps : ℕ → ℕ) (n k : ℕ) (hs : List HartState) (d : HartState) → n ≤ length hs → k < n → get_or (risen_up_to steps n hs) k d ≡ risen_by (steps k) (get_or hs k d)
risen_at steps zero k hs d within below = absurd (omega (arith, below))
risen_at steps (suc n) k hs d within below =
    let before : List HartState = risen_up_to steps n hs in
    let x : HartState = risen_by (steps n) (get_or before n (new_hart 0 0)) in
    elim (cases_eq k n) [
      | inl same ↦ ap (λ i. get_or (set before n x) i d) same
          ∙ get_or-set_same before n x d (omega (arith, length-risen steps n hs, within))
          ∙ ap (risen_by (steps n)) (not_yet steps n n hs (new_hart 0 0) (omega arith) ∙ get_or_default hs n (new_hart 0 0) d (omega (arith, within)))
          ∙ ap (λ i. risen_by (steps i) (get_or hs i d)) (sym same)
      | inr other ↦ get_or-set_other before n k x d other ∙ risen_at steps n k hs d (omega (arith, within)) (omega (arith, below, other))
    ]

-- a hart that changes, and whose counters rise by another number of steps
pub set_risen : (steps steps' : ℕ → ℕ) (k : ℕ) (x : HartState) (hs : List HartState) → k < length hs → ((j : ℕ) → j < length hs → (j ≡ k → ⊥) → steps' j ≡ steps j)
    → set (risen_up_to steps (length hs) hs) k (risen_by (steps' k) x) ≡ risen_up_to steps' (length (set hs k x)) (set hs k x)
set_risen steps steps' k x hs inside others =
    let before : List HartState = risen_up_to steps (length hs) hs in
    let size : length before ≡ length hs = length-risen steps (length hs) hs in
    let long : length (set hs k x) ≡ length hs = length-set hs k x in
    same_lists _ _ (length-set before k _ ∙ size ∙ sym (length-risen steps' (length (set hs k x)) (set hs k x) ∙ long))
    (λ j d lt.
    let within : j < length hs = omega (arith, lt, length-set before k (risen_by (steps' k) x), size) in
    elim (cases_eq j k) [
      | inl same ↦ ap (λ i. get_or (set before k (risen_by (steps' k) x)) i d) same
          ∙ get_or-set_same before k (risen_by (steps' k) x) d (omega (arith, size, inside))
          ∙ ap (risen_by (steps' k)) (sym (get_or-set_same hs k x d inside))
          ∙ ap (λ i. risen_by (steps' i) (get_or (set hs k x) i d)) (sym same)
          ∙ sym (risen_at steps' (length (set hs k x)) j (set hs k x) d (omega arith) (omega (arith, within, long)))
      | inr other ↦ get_or-set_other before k j (risen_by (steps' k) x) d other
          ∙ risen_at steps (length hs) j hs d (omega arith) within
          ∙ ap (λ i. risen_by i (get_or hs j d)) (sym (others j within other))
          ∙ ap (risen_by (steps' j)) (sym (get_or-set_other hs k j x d other))
          ∙ sym (risen_at steps' (length (set hs k x)) j (set hs k x) d (omega arith) (omega (arith, within, long)))
    ])

-- counters that rise by no steps
pub none_risen : (steps : ℕ → ℕ) (hs : List HartState) → ((k : ℕ) → k < length hs → steps k ≡ 0) → risen_up_to steps (length hs) hs ≡ hs
none_risen steps hs none =
    same_lists _ _ (length-risen steps (length hs) hs)
    (λ k d lt.
    let within : k < length hs = omega (arith, lt, length-risen steps (length hs) hs) in
    risen_at steps (length hs) k hs d (omega arith) within ∙ ap (λ i. risen_by i (get_or hs k d)) (none k within))
