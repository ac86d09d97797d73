-- Turns of harts, by the hart of the first turn.
use Rattle.std.proofs.Common.{◌≡◌, ◌∙◌, ℕ, zero, suc, ◌+◌, ◌%◌, min, List, ◌∷◌, ◌++◌, length, take, Option, None, Some, refl, sym, ap, arith}
use Rattle.std.proofs.lemmas.List.{append-nil}
use native.Mathlib.Nat.{add-mod, mod-add-mod}
use Rattle.rvm_message.specs.declared.event.HostEvent.{HostEvent}
use Rattle.rvm_message.specs.Exchanges.{step_of_hart}
use Rattle.rvm_station.specs.Logs.{steps_from}
use Rattle.rvm_journal.specs.Written.{with_more}

-- the turn after one of the same hart is one of the same hart
next_same : (h s t : ℕ) → s % h ≡ t % h → (s + 1) % h ≡ (t + 1) % h
next_same h s t e = add-mod s 1 h ∙ ap (λ x. (x + 1 % h) % h) e ∙ sym (add-mod t 1 h)

-- turns whose first is that of the same hart are the same steps
same_first : (h n s t : ℕ) → s % h ≡ t % h → steps_from s h n ≡ steps_from t h n
unfolding steps_from
same_first h zero s t e = refl
same_first h (suc n) s t e =
    ap (λ x. step_of_hart x ∷ steps_from (s + 1) h n) e
    ∙ ap (λ l. step_of_hart (t % h) ∷ l) (same_first h n (s + 1) (t + 1) (next_same h s t e))

-- a remainder is its own remainder
pub twice : (m n : ℕ) → m % n % n ≡ m % n
twice m n =
    let low : m % n ≡ m % n + 0 = omega arith in
    let whole : m + 0 ≡ m = omega arith in
    ap (λ x. x % n) low ∙ mod-add-mod m n 0 ∙ ap (λ x. x % n) whole

pub of_turn : (turn h n : ℕ) → steps_from (turn % h) h n ≡ steps_from turn h n
of_turn turn h n = same_first h n (turn % h) turn (twice turn h)

-- no turns
none : (t h : ℕ) (l : List HostEvent) → steps_from t h zero ++ l ≡ l
unfolding steps_from
none t h l = refl

one_more : (t h n : ℕ) (l : List HostEvent) → steps_from t h (suc n) ++ l ≡ step_of_hart (t % h) ∷ (steps_from (t + 1) h n ++ l)
unfolding steps_from
one_more t h n l = refl

begins : (t h n : ℕ) → steps_from t h (suc n) ≡ step_of_hart (t % h) ∷ steps_from (t + 1) h n
unfolding steps_from
begins t h n = refl

-- turns and those after them
after : (h m n t : ℕ) → steps_from t h (m + n) ≡ steps_from t h m ++ steps_from (t + m) h n
after h zero n t =
    let count : zero + n ≡ n = omega arith in
    let turn : t ≡ t + zero = omega arith in
    ap (steps_from t h) count ∙ ap (λ x. steps_from x h n) turn ∙ sym (none t h (steps_from (t + zero) h n))
after h (suc m) n t =
    let count : suc m + n ≡ suc (m + n) = omega arith in
    let turn : t + 1 + m ≡ t + suc m = omega arith in
    ap (steps_from t h) count ∙ begins t h (m + n)
    ∙ ap (λ l. step_of_hart (t % h) ∷ l) (after h m n (t + 1))
    ∙ ap (λ x. step_of_hart (t % h) ∷ (steps_from (t + 1) h m ++ steps_from x h n)) turn
    ∙ sym (one_more t h m (steps_from (t + suc m) h n))

-- turns that go on where others end
pub joined : (first count harts more_first more_harts more : ℕ) → harts ≡ more_harts
    → (first + count) % harts ≡ more_first
    → steps_from first harts (count + more) ≡ steps_from first harts count ++ steps_from more_first more_harts more
joined first count harts more_first more_harts more same next =
    after harts count more first
    ∙ ap (λ l. steps_from first harts count ++ l) (sym (of_turn (first + count) harts more))
    ∙ ap (λ x. steps_from first harts count ++ steps_from x harts more) next
    ∙ ap (λ x. steps_from first harts count ++ steps_from more_first x more) same

-- what was kept, and no turns after it
pub no_turns : (turn harts : ℕ) (known : Option (List HostEvent)) → with_more known (steps_from turn harts 0) ≡ known
unfolding steps_from
no_turns turn harts None = refl
no_turns turn harts (Some kept) = ap (λ l. Some l) (append-nil kept)

-- how many turns there are
pub how_many : (turn harts n : ℕ) → n ≡ length (steps_from turn harts n)
unfolding steps_from
how_many turn harts zero = refl
how_many turn harts (suc n) = ap suc (how_many (turn + 1) harts n)

-- the first of some turns
pub first_turns : (turn harts n m : ℕ) → steps_from turn harts (min n m) ≡ take m (steps_from turn harts n)
unfolding steps_from
first_turns turn harts zero zero = refl
first_turns turn harts zero (suc m) = let none : min 0 (suc m) ≡ 0 = omega arith in ap (steps_from turn harts) none
first_turns turn harts (suc n) zero = let none : min (suc n) 0 ≡ 0 = omega arith in ap (steps_from turn harts) none
first_turns turn harts (suc n) (suc m) =
    let next : min (suc n) (suc m) ≡ suc (min n m) = omega arith in
    ap (steps_from turn harts) next
    ∙ ap (λ l. step_of_hart (turn % harts) ∷ l) (first_turns (turn + 1) harts n m)
