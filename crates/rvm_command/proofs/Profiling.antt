-- How many steps ran the words of a symbol, by the numbers of words.
use Rattle.std.proofs.Common.{◌≡◌, ◌⊎◌, ℕ, zero, suc, ◌+◌, ◌-◌, ◌*◌, ◌%◌, ◌<◌, ◌≤◌, List, [], ◌∷◌, ◌++◌, Option, None, Some, length, take, drop, get_or, Bool, true, false, refl, sym, ap, ◌∙◌, inl, inr, arith, cond, nat_eq, nat_lt, nat_le, length-drop}
use Rattle.std.proofs.lemmas.Bool.{and_from, and_parts, cases_eq, cases_lt, eq-eqb, eqb-true, le-leb, leb-true, lt-ltb, ltb-true, ne_eqb}
use Rattle.std.proofs.lemmas.List.Sums.{sum_by-cons, sum_by_more}
use Rattle.std.specs.Prelude.{MatchOption, count_by, sum, option_map, ◌&&◌, ◌==◌}
use Rattle.rvm_board.specs.Events.{pc_of}
use Rattle.rvm_hart.specs.Bus.{ram_base}
use Rattle.rvm_command.specs.Counting.{AreRuns, places_before, places_until, sum_between}
use Rattle.rvm_command.specs.Coverage.{has_run, ran_at, runs_at}
use Rattle.rvm_command.specs.Profile.{end_before, is_before, is_word, ran_between, steps_between, symbol_line, symbol_lines}
use Rattle.rvm_command.specs.Symbols.{Symbol}
use Rattle.rvm_command.specs.Taken.{Taken}

-- ---- symbols, one by one

-- the symbols that are left: the one that was taken, if there was one, and those after it
abbrev pub left_of : Option Symbol → (after : List Symbol) → List Symbol
left_of None after = []
left_of (Some s) after = s ∷ after

pub taken_is : (o : Option Symbol) (old new : List Symbol) → MatchOption o (old ≡ []) (λ s. old ≡ s ∷ new) → old ≡ left_of o new
taken_is None old new is = is
taken_is (Some s) old new is = is

pub ends_at : (o : Option Symbol) (after : List Symbol) → option_map (λ s. s.address) o ≡ end_before (left_of o after)
ends_at None after = refl
ends_at (Some s) after = refl

-- one more line
pub symbol_lines_more : (number : ℕ → Option ℕ → ℕ) (s : Symbol) (after : List Symbol)
    → symbol_lines number (s ∷ after) ≡ symbol_line (number s.address (end_before after)) s.name ++ symbol_lines number after
unfolding symbol_lines
symbol_lines_more number s after = refl

-- no line
pub symbol_lines_none : (number : ℕ → Option ℕ → ℕ) → symbol_lines number [] ≡ []
unfolding symbol_lines
symbol_lines_none number = refl

-- ---- tests

same_test : (a b : Bool) → (a ≡ true → b ≡ true) → (b ≡ true → a ≡ true) → a ≡ b
same_test true true there back = refl
same_test true false there back = sym (there refl)
same_test false true there back = back refl
same_test false false there back = refl

not_true : (b : Bool) → (b ≡ true → ⊥) → b ≡ false
not_true true never = absurd (never refl)
not_true false never = refl

-- whether an address is that of one of the words from a place up to another one
abbrev at_places : (first end address : ℕ) → Bool
at_places f e a = a % 4 == 0 && (nat_le (ram_base + 4 * f) a && nat_lt a (ram_base + 4 * e))

at_parts : (f e a : ℕ) → at_places f e a ≡ true → (a % 4 ≡ 0) × (ram_base + 4 * f ≤ a) × (a < ram_base + 4 * e)
at_parts f e a is =
    let first = and_parts (a % 4 == 0) (nat_le (ram_base + 4 * f) a && nat_lt a (ram_base + 4 * e)) is in
    let others = and_parts (nat_le (ram_base + 4 * f) a) (nat_lt a (ram_base + 4 * e)) first.1 in
    (eqb-true (a % 4) 0 first.0, leb-true (ram_base + 4 * f) a others.0, ltb-true a (ram_base + 4 * e) others.1)

at_from : (f e a : ℕ) → a % 4 ≡ 0 → ram_base + 4 * f ≤ a → a < ram_base + 4 * e → at_places f e a ≡ true
at_from f e a whole low high =
    and_from (a % 4 == 0) (nat_le (ram_base + 4 * f) a && nat_lt a (ram_base + 4 * e)) (eq-eqb (a % 4) 0 whole)
    (and_from (nat_le (ram_base + 4 * f) a) (nat_lt a (ram_base + 4 * e)) (le-leb (ram_base + 4 * f) a low)
    (lt-ltb a (ram_base + 4 * e) high))

-- no word stands between a place and itself
at_none : (f a : ℕ) → at_places f (f + 0) a ≡ false
at_none f a = not_true (at_places f (f + 0) a) (λ is. (let parts = at_parts f (f + 0) a is in absurd (omega (arith, parts.1, parts.2))))

-- one word more
at_more : (f e a : ℕ) → f ≤ e → cond (at_places f (e + 1) a) 1 0 ≡ cond (at_places f e a) 1 0 + cond (nat_eq a (ram_base + 4 * e)) 1 0
at_more f e a order = by_case (cases_eq a (ram_base + 4 * e))
  where
    by_case : (a ≡ ram_base + 4 * e) ⊎ (a ≡ ram_base + 4 * e → ⊥)
        → cond (at_places f (e + 1) a) 1 0 ≡ cond (at_places f e a) 1 0 + cond (nat_eq a (ram_base + 4 * e)) 1 0
    by_case (inl same) =
        let now : at_places f (e + 1) a ≡ true = at_from f (e + 1) a (omega (arith, same)) (omega (arith, same, order)) (omega (arith, same)) in
        let before : at_places f e a ≡ false =
        not_true (at_places f e a) (λ is. (let parts = at_parts f e a is in absurd (omega (arith, parts.2, same)))) in
        ap (λ b. cond b 1 0) now
        ∙ ap (λ b. cond b 1 0 + 1) (sym before)
        ∙ ap (λ b. cond (at_places f e a) 1 0 + cond b 1 0) (sym (eq-eqb a (ram_base + 4 * e) same))
    by_case (inr other) =
        let same : at_places f (e + 1) a ≡ at_places f e a =
        same_test (at_places f (e + 1) a) (at_places f e a)
        (λ is. (let parts = at_parts f (e + 1) a is in
        let apart : a ≡ ram_base + 4 * e → ⊥ = other in
        let below : a < ram_base + 4 * e = under a e parts.0 parts.2 apart in at_from f e a parts.0 parts.1 below))
        (λ is. (let parts = at_parts f e a is in at_from f (e + 1) a parts.0 parts.1 (omega (arith, parts.2)))) in
        ap (λ b. cond b 1 0) same ∙ omega arith
        ∙ ap (λ b. cond (at_places f e a) 1 0 + cond b 1 0) (sym (ne_eqb a (ram_base + 4 * e) other))
      where
        under : (a e : ℕ) → a % 4 ≡ 0 → a < ram_base + 4 * (e + 1) → (a ≡ ram_base + 4 * e → ⊥) → a < ram_base + 4 * e
        under a e whole high apart = by_eq (cases_lt a (ram_base + 4 * e))
          where
            by_eq : (a < ram_base + 4 * e) ⊎ (ram_base + 4 * e ≤ a) → a < ram_base + 4 * e
            by_eq (inl less) = less
            by_eq (inr least) = absurd (apart (omega (arith, whole, high, least)))

-- ---- steps that ran words

-- a step ran a word from a place up to another one
abbrev ran_places : (first end : ℕ) → Taken → Bool
ran_places f e t = at_places f e (pc_of t.hart t.before) && has_run t.reply

both : (p q r run : Bool) → cond p 1 0 ≡ cond q 1 0 + cond r 1 0 → cond (p && run) 1 0 ≡ cond (q && run) 1 0 + cond (r && run) 1 0
both p q r true is = ap (λ b. cond b 1 0) (plain p) ∙ is ∙ ap (λ b. cond b 1 0 + cond r 1 0) (sym (plain q)) ∙ ap (λ b. cond (q && true) 1 0 + cond b 1 0) (sym (plain r))
  where
    plain : (b : Bool) → (b && true) ≡ b
    plain true = refl
    plain false = refl
both p q r false is = ap (λ b. cond b 1 0) (never p) ∙ ap (λ b. cond b 1 0 + 0) (sym (never q)) ∙ ap (λ b. cond (q && false) 1 0 + cond b 1 0) (sym (never r))
  where
    never : (b : Bool) → (b && false) ≡ false
    never true = refl
    never false = refl

-- one word more, in all steps
places_more : (f e : ℕ) → f ≤ e → (ts : List Taken)
    → count_by (ran_places f (e + 1)) ts ≡ count_by (ran_places f e) ts + count_by (ran_at (ram_base + 4 * e)) ts
places_more f e order [] = refl
places_more f e order (t ∷ ts) =
    let a = pc_of t.hart t.before in
    let one = both (at_places f (e + 1) a) (at_places f e a) (nat_eq a (ram_base + 4 * e)) (has_run t.reply) (at_more f e a order) in
    let others = places_more f e order ts in
    let p = sum_by-cons (λ (x : Taken). cond (ran_places f (e + 1) x) 1 0) t ts in
    let q = sum_by-cons (λ (x : Taken). cond (ran_places f e x) 1 0) t ts in
    let r = sum_by-cons (λ (x : Taken). cond (ran_at (ram_base + 4 * e) x) 1 0) t ts in
    omega (arith, one, others, p, q, r)

count_same : (p q : Taken → Bool) → ((t : Taken) → p t ≡ q t) → (ts : List Taken) → count_by p ts ≡ count_by q ts
count_same p q same [] = refl
count_same p q same (t ∷ ts) =
    let first = sum_by-cons (λ (x : Taken). cond (p x) 1 0) t ts in
    let second = sum_by-cons (λ (x : Taken). cond (q x) 1 0) t ts in
    first ∙ ap (λ b. cond b 1 0 + count_by p ts) (same t) ∙ ap (λ n. cond (q t) 1 0 + n) (count_same p q same ts) ∙ sym second

count_none : (p : Taken → Bool) → ((t : Taken) → p t ≡ false) → (ts : List Taken) → count_by p ts ≡ 0
count_none p none [] = refl
count_none p none (t ∷ ts) =
    sum_by-cons (λ (x : Taken). cond (p x) 1 0) t ts ∙ ap (λ b. cond b 1 0 + count_by p ts) (none t)
    ∙ ap (λ n. 0 + n) (count_none p none ts)

get_or-drop : (xs : List ℕ) (f k : ℕ) → get_or (drop f xs) k 0 ≡ get_or xs (f + k) 0
get_or-drop xs zero k = ap (λ n. get_or xs n 0) (omega arith)
get_or-drop [] (suc f) k = refl
get_or-drop (x ∷ xs) (suc f) k =
    let next : suc f + k ≡ suc (f + k) = omega arith in
    get_or-drop xs f k ∙ ap (λ n. get_or (x ∷ xs) n 0) (sym next)

module _ (counts : List ℕ) (ts : List Taken) (are : AreRuns counts ts) where
  -- the numbers of words from a place on add up to the steps that ran them
  sum_places : (f k : ℕ) → f + k ≤ length counts → sum (take k (drop f counts)) ≡ count_by (ran_places f (f + k)) ts
  unfolding runs_at
  sum_places f zero inside =
      sym (count_none (ran_places f (f + 0)) (λ t. ap (λ b. b && has_run t.reply) (at_none f (pc_of t.hart t.before))) ts)
  sum_places f (suc k) inside =
      let xs = drop f counts in
      let size = length-drop f counts in
      let below : k < length xs = omega (arith, size, inside) in
      let next : suc k ≡ k + 1 = omega arith in
      let place : f + suc k ≡ f + k + 1 = omega arith in
      ap (λ n. sum (take n xs)) next ∙ sum_by_more (λ x. x) xs k 0 below
      ∙ ap (λ n. n + get_or xs k 0) (sum_places f k (omega (arith, inside)))
      ∙ ap (λ n. count_by (ran_places f (f + k)) ts + n) (get_or-drop counts f k ∙ are.each (f + k) (omega (arith, inside)))
      ∙ sym (places_more f (f + k) (omega arith) ts)
      ∙ ap (λ e. count_by (ran_places f e) ts) (sym place)

-- ---- the words of a symbol

-- a word stands in a range of places if it stands in RAM from an address on, up to the end of a range
words_between : (pages from : ℕ) (end : Option ℕ) (n a : ℕ) → n ≡ 1024 * pages
    → at_places (places_before from n) (places_before from n + (places_until end n - places_before from n)) a
    ≡ (is_word pages a && (nat_le from a && is_before end a))
words_between pages from end n a size =
    let first = places_before from n in
    let last = first + (places_until end n - first) in
    let few = until_few end in
    same_test (at_places first last a) (is_word pages a && (nat_le from a && is_before end a))
    (λ is. (let parts = at_parts first last a is in
    word_from pages from end a parts.0 (omega (arith, parts.1)) (in_ram end parts.2) (omega (arith, parts.0, parts.1, parts.2, few))
    (before_end end parts.0 parts.1 parts.2)))
    (λ is. (let parts = word_parts pages from end a is in
    at_from first last a parts.0 (omega (arith, parts.0, parts.1, parts.2, parts.3, size)) (last_of end parts.0 parts.1 parts.2 parts.3 parts.4)))
  where
    until_few : (e : Option ℕ) → places_until e n ≤ n
    until_few None = omega arith
    until_few (Some e) = omega arith

    word_parts : (pages from : ℕ) (end : Option ℕ) (a : ℕ) → (is_word pages a && (nat_le from a && is_before end a)) ≡ true
        → (a % 4 ≡ 0) × (ram_base ≤ a) × (a < ram_base + 4096 * pages) × (from ≤ a) × (is_before end a ≡ true)
    word_parts pages from end a is =
        let both = and_parts (is_word pages a) (nat_le from a && is_before end a) is in
        let word = and_parts (a % 4 == 0) (nat_le ram_base a && nat_lt a (ram_base + 4096 * pages)) both.0 in
        let inside = and_parts (nat_le ram_base a) (nat_lt a (ram_base + 4096 * pages)) word.1 in
        let range = and_parts (nat_le from a) (is_before end a) both.1 in (
          eqb-true (a % 4) 0 word.0,
          leb-true ram_base a inside.0,
          ltb-true a (ram_base + 4096 * pages) inside.1,
          leb-true from a range.0,
          range.1,
        )

    word_from : (pages from : ℕ) (end : Option ℕ) (a : ℕ) → a % 4 ≡ 0 → ram_base ≤ a → a < ram_base + 4096 * pages → from ≤ a
        → is_before end a ≡ true → (is_word pages a && (nat_le from a && is_before end a)) ≡ true
    word_from pages from end a whole low high here before =
        and_from (is_word pages a) (nat_le from a && is_before end a)
        (and_from (a % 4 == 0) (nat_le ram_base a && nat_lt a (ram_base + 4096 * pages)) (eq-eqb (a % 4) 0 whole)
        (and_from (nat_le ram_base a) (nat_lt a (ram_base + 4096 * pages)) (le-leb ram_base a low)
        (lt-ltb a (ram_base + 4096 * pages) high)))
        (and_from (nat_le from a) (is_before end a) (le-leb from a here) before)

    in_ram : (e : Option ℕ) → a < ram_base + 4 * (places_before from n + (places_until e n - places_before from n))
        → a < ram_base + 4096 * pages
    in_ram None below = omega (arith, below, size)
    in_ram (Some e) below = omega (arith, below, size)

    before_end : (e : Option ℕ) → a % 4 ≡ 0 → ram_base + 4 * places_before from n ≤ a
        → a < ram_base + 4 * (places_before from n + (places_until e n - places_before from n)) → is_before e a ≡ true
    before_end None whole low below = refl
    before_end (Some e) whole low below = lt-ltb a e (omega (arith, whole, low, below))

    last_of : (e : Option ℕ) → a % 4 ≡ 0 → ram_base ≤ a → a < ram_base + 4096 * pages → from ≤ a → is_before e a ≡ true
        → a < ram_base + 4 * (places_before from n + (places_until e n - places_before from n))
    last_of None whole low high here before = omega (arith, whole, low, high, here, size)
    last_of (Some e) whole low high here before =
        let less = ltb-true a e before in omega (arith, whole, low, high, here, less, size)

-- the numbers of the words of a range add up to the steps that ran them
pub between_is : (counts : List ℕ) (ts : List Taken) (pages from : ℕ) (end : Option ℕ) → AreRuns counts ts
    → length counts ≡ 1024 * pages → sum_between counts from end ≡ steps_between pages ts from end
unfolding sum_between steps_between
between_is counts ts pages from end are size =
    let n = length counts in
    let first = places_before from n in
    let k = places_until end n - first in
    let inside : first + k ≤ n = within end in
    sum_places counts ts are first k inside
    ∙ count_same (ran_places first (first + k)) (ran_between pages from end)
    (λ t. ap (λ b. b && has_run t.reply) (words_between pages from end n (pc_of t.hart t.before) size)) ts
  where
    within : (e : Option ℕ) → places_before from (length counts) + (places_until e (length counts) - places_before from (length counts)) ≤ length counts
    within None = omega arith
    within (Some e) = omega arith

-- the lines of symbols by numbers of words are those by steps
pub profiled : (counts : List ℕ) (ts : List Taken) (pages : ℕ) (ss : List Symbol) → AreRuns counts ts → length counts ≡ 1024 * pages
    → symbol_lines (sum_between counts) ss ≡ symbol_lines (steps_between pages ts) ss
unfolding symbol_lines
profiled counts ts pages [] are size = refl
profiled counts ts pages (s ∷ after) are size =
    ap (λ n. symbol_line n s.name ++ symbol_lines (sum_between counts) after) (between_is counts ts pages s.address (end_before after) are size)
    ∙ ap (λ l. symbol_line (steps_between pages ts s.address (end_before after)) s.name ++ l) (profiled counts ts pages after are size)
