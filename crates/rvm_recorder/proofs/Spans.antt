-- What is left of entries after this many.
use Rattle.std.proofs.Common.{◌≡◌, ◌∙◌, ℕ, zero, suc, ◌+◌, ◌-◌, ◌<◌, ◌≤◌, List, [], ◌∷◌, ◌++◌, length, drop, Some, refl, sym, ap, arith}
use Rattle.std.specs.Prelude.{slice_get}
use Rattle.std.proofs.lemmas.Option.{same_Some, slice_get_within}
use Rattle.std.proofs.lemmas.List.{append_assoc}
use Rattle.rvm_hart.specs.declared.outcome.Stepped.TheVariants.{Retired}
use Rattle.rvm_recorder.specs.Entries.{PlainEntry}
use Rattle.rvm_recorder.specs.Items.{step_entry, steps_in_turn}
use Rattle.rvm_recorder.proofs.StepRuns.{no_steps, steps_append, steps_length}
use Rattle.rvm_message.specs.declared.step.StepReply.TheVariants.{Stepped}

-- lists by index
pub get_drop : {X : Type 0} (xs : List X) (p i : ℕ) → slice_get (drop p xs) i ≡ slice_get xs (p + i)
get_drop [] zero i = let same : i ≡ 0 + i = omega arith in ap (λ k. slice_get [] k) same
get_drop [] (suc p) i = refl
get_drop (x ∷ xs) zero i = let same : i ≡ 0 + i = omega arith in ap (slice_get (x ∷ xs)) same
get_drop (x ∷ xs) (suc p) i = let same : suc (p + i) ≡ suc p + i = omega arith in get_drop xs p i ∙ ap (slice_get (x ∷ xs)) same

pub get_left : {X : Type 0} (xs ys : List X) (i : ℕ) → i < length xs → slice_get (xs ++ ys) i ≡ slice_get xs i
get_left [] ys i less = absurd (omega (arith, less))
get_left (x ∷ xs) ys zero less = refl
get_left (x ∷ xs) ys (suc i) less = get_left xs ys i (omega (arith, less))

pub get_right : {X : Type 0} (xs ys : List X) (i : ℕ) → slice_get (xs ++ ys) (length xs + i) ≡ slice_get ys i
get_right [] ys i = let same : 0 + i ≡ i = omega arith in ap (slice_get ys) same
get_right (x ∷ xs) ys i =
    let same : suc (length xs) + i ≡ suc (length xs + i) = omega arith in
    ap (slice_get (x ∷ (xs ++ ys))) same ∙ get_right xs ys i

pub drop_all_of : {X : Type 0} (xs ys : List X) → drop (length xs) (xs ++ ys) ≡ ys
drop_all_of [] ys = refl
drop_all_of (x ∷ xs) ys = drop_all_of xs ys

pub drop_drop : {X : Type 0} (xs : List X) (p n : ℕ) → drop n (drop p xs) ≡ drop (p + n) xs
drop_drop xs zero n = let same : n ≡ 0 + n = omega arith in ap (λ k. drop k xs) same
drop_drop [] (suc p) zero = let same : suc p ≡ suc p + 0 = omega arith in ap (λ k. drop k []) same
drop_drop [] (suc p) (suc n) = let same : suc (p + suc n) ≡ suc p + suc n = omega arith in ap (λ k. drop k []) same
drop_drop (x ∷ xs) (suc p) n = let same : suc (p + n) ≡ suc p + n = omega arith in drop_drop xs p n ∙ ap (λ k. drop k (x ∷ xs)) same

pub drop_past : {X : Type 0} (xs ys : List X) (n : ℕ) → length xs ≤ n → drop n (xs ++ ys) ≡ drop (n - length xs) ys
drop_past [] ys n le = let same : n ≡ n - 0 = omega arith in ap (λ k. drop k ys) same
drop_past (x ∷ xs) ys zero le = absurd (omega (arith, le))
drop_past (x ∷ xs) ys (suc n) le =
    let same : n - length xs ≡ suc n - suc (length xs) = omega arith in drop_past xs ys n (omega (arith, le)) ∙ ap (λ k. drop k ys) same

pub drop_at : {X : Type 0} (xs : List X) (i : ℕ) (x : X) → slice_get xs i ≡ Some x → drop i xs ≡ x ∷ drop (i + 1) xs
drop_at [] zero x at = cc
drop_at [] (suc i) x at = cc
drop_at (y ∷ xs) zero x at = let same : suc 0 ≡ 0 + 1 = omega arith in ap (λ z. z ∷ xs) (same_Some y x at) ∙ ap (λ k. x ∷ drop k (y ∷ xs)) same
drop_at (y ∷ xs) (suc i) x at = let same : suc (i + 1) ≡ suc i + 1 = omega arith in drop_at xs i x at ∙ ap (λ k. x ∷ drop k (y ∷ xs)) same

-- the entries of steps by index
pub entry_at : (i turn harts n : ℕ) → i < n → slice_get (steps_in_turn turn harts n) i ≡ Some (step_entry (turn + i) harts (Stepped Retired))
unfolding steps_in_turn
entry_at i turn harts zero less = absurd (omega (arith, less))
entry_at zero turn harts (suc n) less =
    let t : turn ≡ turn + 0 = omega arith in ap (λ k. Some (step_entry k harts (Stepped Retired))) t
entry_at (suc i) turn harts (suc n) less =
    let t : turn + 1 + i ≡ turn + suc i = omega arith in
    entry_at i (turn + 1) harts n (omega (arith, less)) ∙ ap (λ k. Some (step_entry k harts (Stepped Retired))) t

-- what is left after this many entries, of which the next is a step
pub step_next : (turn harts n s : ℕ) (rest : List PlainEntry) → s < n
    → drop s (steps_in_turn turn harts n ++ rest) ≡ step_entry (turn + s) harts (Stepped Retired) ∷ drop (s + 1) (steps_in_turn turn harts n ++ rest)
step_next turn harts n s rest less =
    let long = steps_length turn harts n in
    drop_at (steps_in_turn turn harts n ++ rest) s (step_entry (turn + s) harts (Stepped Retired))
    (get_left (steps_in_turn turn harts n) rest s (omega (arith, long, less)) ∙ entry_at s turn harts n less)

-- the same of any entries
pub entry_next : (xs rest : List PlainEntry) (k : ℕ) (x : PlainEntry) → slice_get xs k ≡ Some x
    → drop k (xs ++ rest) ≡ x ∷ drop (k + 1) (xs ++ rest)
entry_next xs rest k x at = drop_at (xs ++ rest) k x (get_left xs rest k (slice_get_within xs k x at) ∙ at)

-- the first of what is left after this many
pub next_at : {X : Type 0} (xs : List X) (i : ℕ) (x : X) (ys : List X) → drop i xs ≡ x ∷ ys → slice_get xs i ≡ Some x
next_at xs i x ys is =
    let same : i + 0 ≡ i = omega arith in
    ap (slice_get xs) (sym same) ∙ sym (get_drop xs i 0) ∙ ap (λ zs. slice_get zs 0) is

pub next_left : {X : Type 0} (xs : List X) (i : ℕ) (x : X) (ys : List X) → drop i xs ≡ x ∷ ys → ys ≡ drop (i + 1) xs
next_left xs i x ys is = ap (drop 1) (sym is) ∙ drop_drop xs i 1

pub next_within : {X : Type 0} (xs : List X) (i : ℕ) (x : X) (ys : List X) → drop i xs ≡ x ∷ ys → i < length xs
next_within xs i x ys is = slice_get_within xs i x (next_at xs i x ys is)

pub none_next : {X : Type 0} (xs : List X) (i : ℕ) → drop i xs ≡ [] → i ≤ length xs → length xs ≡ i
none_next [] i is le = omega (arith, le)
none_next (x ∷ xs) zero is le = cc
none_next (x ∷ xs) (suc i) is le = let l = none_next xs i is (omega (arith, le)) in omega (arith, l)

-- steps that are passed at once
pub skip_none : (turn harts : ℕ) (xs : List PlainEntry) → xs ≡ steps_in_turn turn harts 0 ++ xs
skip_none turn harts xs = ap (λ zs. zs ++ xs) (sym (no_steps turn harts))

pub skip_some : (turn harts all s n t h : ℕ) (rest : List PlainEntry) → s + n ≤ all → t ≡ turn + s → h ≡ harts
    → drop s (steps_in_turn turn harts all ++ rest) ≡ steps_in_turn t h n ++ drop (s + n) (steps_in_turn turn harts all ++ rest)
skip_some turn harts all s n t h rest le at same =
    let whole = steps_in_turn turn harts all in
    let a = steps_in_turn turn harts s in
    let b = steps_in_turn (turn + s) harts n in
    let c = steps_in_turn (turn + s + n) harts (all - s - n) in
    let m : all ≡ s + (n + (all - s - n)) = omega (arith, le) in
    let split : whole ≡ a ++ (b ++ c) =
    ap (λ k. steps_in_turn turn harts k) m ∙ steps_append turn harts s (n + (all - s - n))
    ∙ ap (λ z. a ++ z) (steps_append (turn + s) harts n (all - s - n)) in
    let la = steps_length turn harts s in
    let lb = steps_length (turn + s) harts n in
    let nested : whole ++ rest ≡ a ++ (b ++ (c ++ rest)) =
    ap (λ z. z ++ rest) split ∙ append_assoc a (b ++ c) rest ∙ ap (λ z. a ++ z) (append_assoc b c rest) in
    let first : drop s (whole ++ rest) ≡ b ++ (c ++ rest) =
    ap (drop s) nested ∙ ap (λ k. drop k (a ++ (b ++ (c ++ rest)))) (sym la) ∙ drop_all_of a (b ++ (c ++ rest)) in
    let then : drop (s + n) (whole ++ rest) ≡ c ++ rest =
    sym (drop_drop (whole ++ rest) s n) ∙ ap (drop n) first ∙ ap (λ k. drop k (b ++ (c ++ rest))) (sym lb) ∙ drop_all_of b (c ++ rest) in
    first ∙ ap (λ z. b ++ z) (sym then) ∙ (λ i. steps_in_turn (sym at i) (sym same i) n ++ drop (s + n) (whole ++ rest))
