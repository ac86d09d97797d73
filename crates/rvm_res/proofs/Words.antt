-- What a write of one word, or of each, leaves of the harts' words.
use Rattle.std.proofs.Common.{◌≡◌, ℕ, zero, suc, ◌<◌, ◌≤◌, Bool, true, false, ◌||◌, List, [], ◌∷◌, length, take, set, map, replicate, Option, None, Some, is_some, refl, ap, sym, ◌∙◌, ◌+◌, cond, arith, get_or, length-take}
use Rattle.std.specs.List.{list_any, count_by}
use Rattle.std.proofs.lemmas.List.Sums.{count_by-le-length, sum_by-cons, sum_by-set}
use Rattle.std.proofs.lemmas.List.{take-replicate, take-map, set-get_or, get_or-take}
use Rattle.rvm_res.specs.Reservations.{is_of, without, stored, word_of}

-- the first words after a write of one
pub take-set : (n i : ℕ) (words : List (Option ℕ)) (held : Option ℕ) →
    take n (set words i held) ≡ set (take n words) i held
take-set zero i words held = refl
take-set (suc n) i [] held = refl
take-set (suc n) zero (w ∷ words) held = refl
take-set (suc n) (suc i) (w ∷ words) held = ap (λ ws. w ∷ ws) (take-set n i words held)

-- how many words are reserved after a write of one
abbrev one : Option ℕ → ℕ
one held = cond (is_some held) 1 0

pub count-set : (words : List (Option ℕ)) (i : ℕ) (held : Option ℕ) → i < length words →
    count_by is_some (set words i held) + one (get_or words i None) ≡ count_by is_some words + one held
count-set words i held within = sum_by-set one words i held None within

-- if no word is counted, none is reserved
pub none-counted : (words : List (Option ℕ)) → count_by is_some words ≡ 0 → list_any is_some words ≡ false
none-counted [] none = refl
none-counted (None ∷ words) none = none-counted words (omega (arith, none, sum_by-cons one None words))
none-counted (Some a ∷ words) none = absurd (omega (arith, none, sum_by-cons one (Some a) words))

or_first : (a b : Bool) → (a || b) ≡ false → a ≡ false
or_first true b none = none
or_first false b none = refl

or_second : (a b : Bool) → (a || b) ≡ false → b ≡ false
or_second true b none = absurd cc
or_second false b none = none

-- if no word is reserved, no reservation ends
pub map-without-none : (word : ℕ) (words : List (Option ℕ)) → list_any is_some words ≡ false →
    map (without word) words ≡ words
map-without-none word [] none = refl
map-without-none word (None ∷ words) none = ap (λ ws. None ∷ ws) (map-without-none word words none)
map-without-none word (Some a ∷ words) none = cc

-- at reset no word is reserved
pub count-replicate : (n : ℕ) → count_by is_some (replicate {A = Option ℕ} n None) ≡ 0
count-replicate zero = refl
count-replicate (suc n) = omega (arith, sum_by-cons one None (replicate {A = Option ℕ} n None), count-replicate n)

pub take-none : (n : ℕ) → n ≤ 8 →
    take n (None ∷ None ∷ None ∷ None ∷ None ∷ None ∷ None ∷ None ∷ []) ≡
    replicate {A = Option ℕ} n None
take-none n within = take-replicate n 8 None within

-- a hart without a reservation loses none
pub set-none : (words : List (Option ℕ)) (hart : ℕ) → get_or words hart None ≡ None → set words hart None ≡ words
set-none words hart none = ap (set words hart) (sym none) ∙ set-get_or words hart None

-- what `grind` needs of them
pub ruleset words =
    (take-set, set-none, count-set, map-without-none, none-counted, count-replicate, take-none, length-take, take-map, count_by-le-length)

-- a store while no word is reserved
pub stored-none : (hart address : ℕ) (words : List (Option ℕ)) → list_any is_some words ≡ false →
    stored hart address words ≡ words
stored-none hart address words none =
    rw (map-without-none (word_of address) words none, set-get_or words hart None)

-- a store into a word that no hart has reserved
kept : (word : ℕ) (held : Option ℕ) → is_of word held ≡ false → without word held ≡ held
kept word None other = refl
kept word (Some w) other = ap (λ b. cond b None (Some w)) other

map-without-other : (word : ℕ) (words : List (Option ℕ)) → list_any (is_of word) words ≡ false → map (without word) words ≡ words
map-without-other word [] none = refl
map-without-other word (held ∷ words) none =
    ap (λ w. w ∷ map (without word) words) (kept word held (or_first (is_of word held) (list_any (is_of word) words) none))
    ∙ ap (λ ws. held ∷ ws) (map-without-other word words (or_second (is_of word held) (list_any (is_of word) words) none))

pub stored-other : (hart address : ℕ) (words : List (Option ℕ)) → list_any (is_of (word_of address)) words ≡ false →
    stored hart address words ≡ words
stored-other hart address words none =
    rw (map-without-other (word_of address) words none, set-get_or words hart None)

-- a store ends the same words, seen with and without those past the last hart
pub take-stored : (n hart address : ℕ) (words : List (Option ℕ)) → hart < length (take n words) →
    take n (stored hart address words) ≡ stored hart address (take n words)
take-stored n hart address words within =
    let below : hart < n = omega (arith, length-take n words) in
    rw (
      take-set n hart _ _,
      take-map (without (word_of address)) n words,
      get_or-take n words hart None below,
    )
