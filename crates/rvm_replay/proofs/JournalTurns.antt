-- Where turns stand among the entries of a journal.
use Rattle.std.proofs.Common.{◌≡◌, ◌⊎◌, ◌∙◌, ℕ, zero, suc, ◌+◌, ◌-◌, ◌*◌, ◌/◌, ◌<◌, ◌≤◌, List, [], ◌∷◌, ◌++◌, ap, append_assoc, arith, drop, get_or, inl, inr, length, length-append, refl, subst, sum_by, sym, take}
use Rattle.std.proofs.Math.Nat.{add-div_left, div-eq_of_lt, suc-mul}
use Rattle.std.proofs.lemmas.Bool.{cases_lt}
use Rattle.std.proofs.lemmas.List.{take_all, take_more, take-append-drop}
use Rattle.std.proofs.lemmas.List.Sums.{sum_by-append, sum_by-cons}
use Rattle.rvm_recorder.specs.Entries.{PlainEntry}
use Rattle.rvm_recorder.specs.Items.{all_of, dry_entry, rounds_in_turn, steps_in_turn}
use Rattle.rvm_recorder.proofs.InRounds.{rounds_length}
use Rattle.rvm_recorder.proofs.StepRuns.{all_append, all_push, steps_length}
use Rattle.rvm_replay.specs.Counts.{turns_in}
use Rattle.rvm_replay.specs.Turns.{EndWithTurn, IsPassed, turns_of}
use Rattle.rvm_replay.specs.declared.journal_turns.Passed.{Passed}
use Rattle.rvm_replay.proofs.Counting.{of_rounds, of_steps}

turn_of : PlainEntry → ℕ
turn_of e = turns_in e.event

-- a turn among entries is one among more, after others
pub later : (xs entries : List PlainEntry) (turn left passed count n : ℕ) → turns_of xs + left ≡ turn → length xs ≡ passed
    → n ≡ passed + count → EndWithTurn entries left count → EndWithTurn (xs ++ entries) turn n
later xs entries turn left passed count n sum len is at = record {
  before = xs ++ at.before;
  last = at.last;
  rest = at.rest;
  entries_are = ap (λ es. xs ++ es) at.entries_are ∙ sym (append_assoc xs at.before (at.last ∷ at.rest));
  is_turn = at.is_turn;
  turn_is = (let here = at.turn_is in let all = sum_by-append (λ e. turns_in e.event) xs at.before in omega (arith, here, all, sum));
  count_is = (let here = at.count_is in omega (arith, here, len, is, length-append xs at.before));
}

-- and one among these, before others
pub earlier : (entries ys : List PlainEntry) (turn count : ℕ) → EndWithTurn entries turn count
    → EndWithTurn (entries ++ ys) turn count
earlier entries ys turn count at = record {
  before = at.before;
  last = at.last;
  rest = at.rest ++ ys;
  entries_are = ap (λ es. es ++ ys) at.entries_are ∙ append_assoc at.before (at.last ∷ at.rest) ys;
  is_turn = at.is_turn;
  turn_is = at.turn_is;
  count_is = at.count_is;
}

-- there are at least this many entries
pub end_within : (entries : List PlainEntry) (turn count : ℕ) → EndWithTurn entries turn count → count ≤ length entries
end_within entries turn count at =
    let all = ap length at.entries_are ∙ length-append at.before (at.last ∷ at.rest) in
    let here = at.count_is in
    omega (arith, all, here)

-- the first of some entries is a turn
first_is : (e : PlainEntry) (rest : List PlainEntry) → turns_in e.event ≡ 1 → EndWithTurn (e ∷ rest) 1 1
first_is e rest is = record {
  before = [];
  last = e;
  rest = rest;
  entries_are = refl;
  is_turn = is;
  turn_is = omega arith;
  count_is = omega arith;
}

-- one entry
pub first_alone : (e : PlainEntry) (turn : ℕ) → turns_in e.event ≡ 1 → turn ≡ 1 → EndWithTurn (e ∷ []) turn 1
first_alone e turn is one = subst (λ t. EndWithTurn (e ∷ []) t 1) (sym one) (first_is e [] is)

pub alone_passed : (e : PlainEntry) (turn k : ℕ) → turns_in e.event ≡ k → k < turn
    → IsPassed (e ∷ []) turn (record { turns = k; entries = 1 })
alone_passed e turn k is less = record {
  turns_are = (let all = sum_by-cons (λ x. turns_in x.event) e [] in omega (arith, all, is));
  length_is = omega arith;
  fewer = less;
}

-- steps
pub first_steps : (turn harts n t : ℕ) → 1 ≤ t → t ≤ n → EndWithTurn (steps_in_turn turn harts n) t t
unfolding steps_in_turn
first_steps turn harts zero t some few = absurd (omega (arith, some, few))
first_steps turn harts (suc n) zero some few = absurd (omega (arith, some))
first_steps turn harts (suc n) (suc zero) some few = first_is _ (steps_in_turn (turn + 1) harts n) refl
first_steps turn harts (suc n) (suc (suc t)) some few =
    later (_ ∷ []) (steps_in_turn (turn + 1) harts n) (suc (suc t)) (suc t) 1 (suc t) (suc (suc t)) (omega arith) refl
    (omega arith) (first_steps (turn + 1) harts n (suc t) (omega arith) (omega (arith, few)))

pub steps_passed : (turn harts n t : ℕ) → n < t → IsPassed (steps_in_turn turn harts n) t (record { turns = n; entries = n })
steps_passed turn harts n t less = record {
  turns_are = (let all = of_steps (λ e. turns_in e.event) 1 (λ a b. refl) turn harts n in omega (arith, all));
  length_is = steps_length turn harts n;
  fewer = less;
}

-- rounds
pub some_steps : (n steps t : ℕ) → 1 ≤ t → t ≤ n * steps → 0 < steps
some_steps n zero t some few = let none : n * 0 ≡ 0 = omega arith in absurd (omega (arith, some, few, none))
some_steps n (suc k) t some few = omega arith

pub first_rounds : (turn harts steps drain n t : ℕ) → 1 ≤ t → t ≤ n * steps
    → EndWithTurn (rounds_in_turn turn harts steps drain n) t (t + (t - 1) / steps)
unfolding rounds_in_turn
first_rounds turn harts steps drain zero t some few = absurd (let none : 0 * steps ≡ 0 = omega arith in omega (arith, some, few, none))
first_rounds turn harts steps drain (suc n) t some few =
    by_size (first_rounds (turn + steps) harts steps drain n) (cases_lt steps t) where
      rest : List PlainEntry
      rest = rounds_in_turn (turn + steps) harts steps drain n

      by_size : ((u : ℕ) → 1 ≤ u → u ≤ n * steps → EndWithTurn rest u (u + (u - 1) / steps)) → (steps < t) ⊎ (t ≤ steps)
          → EndWithTurn (steps_in_turn turn harts steps ++ (dry_entry drain ∷ rest)) t (t + (t - 1) / steps)
      by_size again (inr small) =
          let none : (t - 1) / steps ≡ 0 = div-eq_of_lt (omega (arith, some, small)) in
          subst (EndWithTurn (steps_in_turn turn harts steps ++ (dry_entry drain ∷ rest)) t) (omega (arith, none))
          (earlier (steps_in_turn turn harts steps) (dry_entry drain ∷ rest) t t (first_steps turn harts steps t some small))
      by_size again (inl large) =
          let left : ℕ = t - steps in
          let more : (t - 1) / steps ≡ (left - 1) / steps + 1 =
          ap (λ k. k / steps) (omega (arith, large))
          ∙ add-div_left (left - 1) (some_steps (suc n) steps t some few) in
          let first = steps_in_turn turn harts steps in
          let turns = of_steps (λ e. turns_in e.event) 1 (λ a b. refl) turn harts steps in
          let none = sum_by-cons (λ e. turns_in e.event) (dry_entry drain) [] in
          let sum = sum_by-append (λ e. turns_in e.event) first (dry_entry drain ∷ []) in
          subst (λ es. EndWithTurn es t (t + (t - 1) / steps)) (append_assoc first (dry_entry drain ∷ []) rest)
          (later (first ++ dry_entry drain ∷ []) rest t left (steps + 1) (left + (left - 1) / steps) (t + (t - 1) / steps)
          (omega (arith, turns, none, sum, large))
          (length-append first (dry_entry drain ∷ []) ∙ (let it = steps_length turn harts steps in omega (arith, it)))
          (omega (arith, more, large))
          (again left (omega (arith, large)) (let it = suc-mul n steps in omega (arith, few, it, large))))

pub rounds_within : (turn harts steps drain n t : ℕ) → 1 ≤ t → t ≤ n * steps → t + (t - 1) / steps ≤ n * (steps + 1)
rounds_within turn harts steps drain n t some few =
    subst (λ k. t + (t - 1) / steps ≤ k) (rounds_length turn harts steps drain n)
    (end_within (rounds_in_turn turn harts steps drain n) t (t + (t - 1) / steps)
    (first_rounds turn harts steps drain n t some few))

pub rounds_passed : (turn harts steps drain n t k : ℕ) → k ≡ n * (steps + 1) → n * steps < t
    → IsPassed (rounds_in_turn turn harts steps drain n) t (record { turns = n * steps; entries = k })
rounds_passed turn harts steps drain n t k is less = record {
  turns_are = of_rounds (λ e. turns_in e.event) 1 (λ a b. refl) 0 (λ d. refl) turn harts steps drain n
      ∙ ap (λ z. n * z) (omega arith);
  length_is = rounds_length turn harts steps drain n ∙ sym is;
  fewer = less;
}

-- one item more, in which a turn was not found
all_more : (items : List (List PlainEntry)) (i : ℕ) (x : List PlainEntry) → i < length items → get_or items i x ≡ x
    → all_of (take (i + 1) items) ≡ all_of (take i items) ++ x
all_more items i x less is =
    ap all_of (take_more items i x less) ∙ all_push (take i items) (get_or items i x)
    ∙ ap (λ z. all_of (take i items) ++ z) is

pub record Searched (items : List (List PlainEntry)) (i turn left count : ℕ) : Type 0 where
  pub turns_are : turns_of (all_of (take i items)) + left ≡ turn
  pub count_is : length (all_of (take i items)) ≡ count
  pub some : 1 ≤ left

pub none_searched : (items : List (List PlainEntry)) (turn : ℕ) → 1 ≤ turn → Searched items 0 turn turn 0
none_searched items turn some = record { turns_are = omega arith; count_is = refl; some = some }

pub more_searched : (items : List (List PlainEntry)) (i turn left count : ℕ) (x : List PlainEntry) (p : Passed)
    → Searched items i turn left count → i < length items → get_or items i x ≡ x → IsPassed x left p
    → Searched items (i + 1) turn (left - p.turns) (count + p.entries)
more_searched items i turn left count x p so less is passed = record {
  turns_are =
      let all = ap (sum_by (λ e. turns_in e.event)) (all_more items i x less is)
      ∙ sum_by-append (λ e. turns_in e.event) (all_of (take i items)) x in
      let sum = so.turns_are in let here = passed.turns_are in let few = passed.fewer in
      omega (arith, all, sum, here, few);
  count_is =
      let all = ap length (all_more items i x less is) ∙ length-append (all_of (take i items)) x in
      let sum = so.count_is in let here = passed.length_is in
      omega (arith, all, sum, here);
  some = (let few = passed.fewer in omega (arith, few));
}

-- the items after the first ones
split_at : (items : List (List PlainEntry)) (k : ℕ) → all_of items ≡ all_of (take k items) ++ all_of (drop k items)
split_at items k = ap all_of (sym (take-append-drop k items)) ∙ all_append (take k items) (drop k items)

pub found_item : (items : List (List PlainEntry)) (i turn left count more : ℕ) (x : List PlainEntry)
    → Searched items i turn left count → i < length items → get_or items i x ≡ x → EndWithTurn x left more
    → EndWithTurn (all_of items) turn (count + more)
found_item items i turn left count more x so less is at =
    subst (λ es. EndWithTurn es turn (count + more)) (sym (split_at items (i + 1)))
    (subst (λ es. EndWithTurn (es ++ all_of (drop (i + 1) items)) turn (count + more)) (sym (all_more items i x less is))
    (earlier (all_of (take i items) ++ x) (all_of (drop (i + 1) items)) turn (count + more)
    (later (all_of (take i items)) x turn left count more (count + more) so.turns_are so.count_is refl at)))

-- there are this many entries
pub found_within : (items : List (List PlainEntry)) (i turn left count more : ℕ) (x : List PlainEntry)
    → Searched items i turn left count → i < length items → get_or items i x ≡ x → EndWithTurn x left more
    → count + more ≤ length (all_of items)
found_within items i turn left count more x so less is at =
    end_within (all_of items) turn (count + more) (found_item items i turn left count more x so less is at)

pub passed_within : (items : List (List PlainEntry)) (i turn left count : ℕ) (x : List PlainEntry) (p : Passed)
    → Searched items i turn left count → i < length items → get_or items i x ≡ x → IsPassed x left p
    → count + p.entries ≤ length (all_of items)
passed_within items i turn left count x p so less is passed =
    let first = more_searched items i turn left count x p so less is passed in
    let here = first.count_is in
    let all = ap length (split_at items (i + 1)) ∙ length-append (all_of (take (i + 1) items)) (all_of (drop (i + 1) items)) in
    omega (arith, here, all)

-- all items were searched
pub all_searched : (items : List (List PlainEntry)) (i turn left count : ℕ) → Searched items i turn left count
    → length items ≤ i → (turns_of (all_of items) ≡ turn - left) × (turn - left < turn)
all_searched items i turn left count so long =
    let some = so.some in let sum = so.turns_are in
    let whole : turns_of (all_of (take i items)) ≡ turns_of (all_of items) = ap (λ xs. turns_of (all_of xs)) (take_all i items long) in
    (omega (arith, sum, whole), omega (arith, some, sum))
