-- The entries of rounds.
use Rattle.std.proofs.Common.{◌≡◌, ◌≢◌, ◌∙◌, ℕ, zero, suc, ◌+◌, ◌-◌, ◌*◌, ◌/◌, ◌%◌, ◌<◌, ◌≤◌, List, [], ◌∷◌, ◌++◌, length, length-append, drop, take, Some, refl, sym, ap, subst, arith}
use Rattle.std.specs.Prelude.{slice_get}
use Rattle.std.proofs.Math.Nat.{div-le_self, div-lt_iff_lt-mul, mod-lt, mul-le-mul_right, mul-suc, suc-mul}
use Rattle.std.proofs.lemmas.Nat.{div-add-mod'}
use Rattle.std.proofs.lemmas.List.{append_assoc, take-append-drop, take-append-le}
use Rattle.rvm_hart.specs.declared.outcome.Stepped.TheVariants.{Retired}
use Rattle.rvm_recorder.specs.declared.rounds.Rounds.{Rounds}
use Rattle.rvm_recorder.specs.Entries.{PlainEntry}
use Rattle.rvm_recorder.specs.Items.{all_of, dry_entry, rounds_in_turn, rounds_of, step_entry, steps_in_turn}
use Rattle.rvm_recorder.proofs.StepRuns.{all_push, no_steps, steps_length}
use Rattle.rvm_recorder.specs.Passing.{AreFirst, IsPassed}
use Rattle.rvm_recorder.proofs.Spans.{drop_drop, drop_all_of, entry_at, get_left, get_right, skip_some}
use Rattle.rvm_message.specs.declared.step.StepReply.TheVariants.{Stepped}

rounds_first : (turn harts steps drain n : ℕ) → rounds_in_turn turn harts steps drain (suc n)
    ≡ steps_in_turn turn harts steps ++ (dry_entry drain ∷ rounds_in_turn (turn + steps) harts steps drain n)
unfolding rounds_in_turn
rounds_first turn harts steps drain n = refl

no_rounds : (turn harts steps drain : ℕ) → rounds_in_turn turn harts steps drain 0 ≡ []
unfolding rounds_in_turn
no_rounds turn harts steps drain = refl

-- one round is its steps with a drain after them
pub one_round : (turn harts steps drain : ℕ) → rounds_in_turn turn harts steps drain 1 ≡ steps_in_turn turn harts steps ++ dry_entry drain ∷ []
one_round turn harts steps drain =
    rounds_first turn harts steps drain 0
    ∙ ap (λ xs. steps_in_turn turn harts steps ++ (dry_entry drain ∷ xs)) (no_rounds (turn + steps) harts steps drain)

pub rounds_length : (turn harts steps drain n : ℕ) → length (rounds_in_turn turn harts steps drain n) ≡ n * (steps + 1)
rounds_length turn harts steps drain zero = ap length (no_rounds turn harts steps drain) ∙ omega arith
rounds_length turn harts steps drain (suc n) =
    let rest = rounds_in_turn (turn + steps) harts steps drain n in
    let more = rounds_length (turn + steps) harts steps drain n in
    let first = steps_length turn harts steps in
    ap length (rounds_first turn harts steps drain n)
    ∙ omega (arith, more, first, suc-mul n (steps + 1), length-append (steps_in_turn turn harts steps) (dry_entry drain ∷ rest))

-- of the entries of rounds, one of each round is a drain
pub without_drains : (count steps len : ℕ) → len ≡ count * (steps + 1) → (count ≤ len) × (len ≡ count * steps + count)
without_drains count steps len is =
    let all : count * (steps + 1) ≡ count * steps + count = ap (λ n. count * n) (omega arith) ∙ mul-suc count steps ∙ omega arith in
    (omega (arith, is, all), is ∙ all)

-- rounds after rounds
rounds_append : (n turn harts steps drain m : ℕ) → rounds_in_turn turn harts steps drain (n + m)
    ≡ rounds_in_turn turn harts steps drain n ++ rounds_in_turn (turn + n * steps) harts steps drain m
rounds_append zero turn harts steps drain m =
    let turn_is : turn ≡ turn + 0 * steps = omega arith in
    let m_is : 0 + m ≡ m = omega arith in
    (λ i. rounds_in_turn (turn_is i) harts steps drain (m_is i))
    ∙ ap (λ xs. xs ++ rounds_in_turn (turn + 0 * steps) harts steps drain m) (sym (no_rounds turn harts steps drain))
rounds_append (suc n) turn harts steps drain m =
    let more : suc n + m ≡ suc (n + m) = omega arith in
    let turn_is : turn + steps + n * steps ≡ turn + suc n * steps = omega (arith, suc-mul n steps) in
    let first = steps_in_turn turn harts steps in
    let rest = rounds_in_turn (turn + steps) harts steps drain n in
    let last = rounds_in_turn (turn + suc n * steps) harts steps drain m in
    ap (rounds_in_turn turn harts steps drain) more ∙ rounds_first turn harts steps drain (n + m)
    ∙ ap (λ xs. first ++ (dry_entry drain ∷ xs)) (rounds_append n (turn + steps) harts steps drain m
    ∙ ap (λ t. rest ++ rounds_in_turn t harts steps drain m) turn_is)
    ∙ sym (append_assoc first (dry_entry drain ∷ rest) last)
    ∙ ap (λ xs. xs ++ last) (sym (rounds_first turn harts steps drain n))

pub rounds_joined : (turn harts steps drain n m k t h s d : ℕ) → k ≡ n + m → t ≡ turn + n * steps → h ≡ harts → s ≡ steps → d ≡ drain
    → rounds_in_turn turn harts steps drain k ≡ rounds_in_turn turn harts steps drain n ++ rounds_in_turn t h s d m
rounds_joined turn harts steps drain n m k t h s d many at same as_many too =
    ap (rounds_in_turn turn harts steps drain) many ∙ rounds_append n turn harts steps drain m
    ∙ (λ i. rounds_in_turn turn harts steps drain n ++ rounds_in_turn (sym at i) (sym same i) (sym as_many i) (sym too i) m)

-- a drain after the last item, which it makes a round
pub rounded_in : (old rest : List (List PlainEntry)) (last round one new : List PlainEntry) → old ≡ rest ++ last ∷ []
    → round ≡ last ++ one → new ≡ all_of rest ++ round → new ≡ all_of old ++ one
rounded_in old rest last round one new old_is round_is new_is =
    new_is ∙ ap (λ z. all_of rest ++ z) round_is ∙ sym (append_assoc (all_of rest) last one)
    ∙ ap (λ z. z ++ one) (sym (ap all_of old_is ∙ all_push rest last))

-- the entries by index: after q rounds
module _ (harts steps drain : ℕ) where
  in_round : (q turn n r k : ℕ) (x : PlainEntry) → k ≡ q * (steps + 1) + r → q < n
      → slice_get (steps_in_turn (turn + q * steps) harts steps ++ dry_entry drain ∷ []) r ≡ Some x → r ≤ steps
      → slice_get (rounds_in_turn turn harts steps drain n) k ≡ Some x
  in_round q turn zero r k x at less is few = absurd (omega (arith, less))
  in_round zero turn (suc n) r k x at less is few =
      let first = steps_in_turn turn harts steps in
      let one = dry_entry drain ∷ [] in
      let rest = rounds_in_turn (turn + steps) harts steps drain n in
      let long = steps_length turn harts steps in
      let r_is : k ≡ r = omega (arith, at) in
      let turn_is : turn ≡ turn + 0 * steps = omega arith in
      ap (slice_get (rounds_in_turn turn harts steps drain (suc n))) r_is
      ∙ ap (λ xs. slice_get xs r) (rounds_first turn harts steps drain n ∙ sym (append_assoc first one rest))
      ∙ get_left (first ++ one) rest r (omega (arith, long, few, length-append first one))
      ∙ ap (λ t. slice_get (steps_in_turn t harts steps ++ one) r) turn_is ∙ is
  in_round (suc q) turn (suc n) r k x at less is few =
      let first = steps_in_turn turn harts steps in
      let one = dry_entry drain ∷ [] in
      let rest = rounds_in_turn (turn + steps) harts steps drain n in
      let long = steps_length turn harts steps in
      let j = q * (steps + 1) + r in
      let k_is : k ≡ length (first ++ one) + j = omega (arith, at, long, suc-mul q (steps + 1), length-append first one) in
      let turn_is : turn + suc q * steps ≡ turn + steps + q * steps = omega (arith, suc-mul q steps) in
      ap (slice_get (rounds_in_turn turn harts steps drain (suc n))) k_is
      ∙ ap (λ xs. slice_get xs (length (first ++ one) + j)) (rounds_first turn harts steps drain n ∙ sym (append_assoc first one rest))
      ∙ get_right (first ++ one) rest j
      ∙ in_round q (turn + steps) n r j x refl (omega (arith, less))
      (ap (λ t. slice_get (steps_in_turn t harts steps ++ one) r) (sym turn_is) ∙ is) few

  -- a step
  pub step_in : (q turn n r k : ℕ) → k ≡ q * (steps + 1) + r → q < n → r < steps
      → slice_get (rounds_in_turn turn harts steps drain n) k ≡ Some (step_entry (turn + (k - q)) harts (Stepped Retired))
  step_in q turn n r k at less few =
      let long = steps_length (turn + q * steps) harts steps in
      let t : turn + q * steps + r ≡ turn + (k - q) = omega (arith, at, mul-suc q steps, ap (λ m. q * m) (let e : steps + 1 ≡ suc steps = omega arith in e)) in
      in_round q turn n r k (step_entry (turn + (k - q)) harts (Stepped Retired)) at less
      (get_left (steps_in_turn (turn + q * steps) harts steps) (dry_entry drain ∷ []) r (omega (arith, long, few))
      ∙ entry_at r (turn + q * steps) harts steps few ∙ ap (λ m. Some (step_entry m harts (Stepped Retired))) t) (omega (arith, few))

  -- a drain
  pub drain_in : (q turn n k : ℕ) → k ≡ q * (steps + 1) + steps → q < n
      → slice_get (rounds_in_turn turn harts steps drain n) k ≡ Some (dry_entry drain)
  drain_in q turn n k at less =
      let first = steps_in_turn (turn + q * steps) harts steps in
      let long = steps_length (turn + q * steps) harts steps in
      let here : steps ≡ length first + 0 = omega (arith, long) in
      let le : steps ≤ steps = omega arith in
      in_round q turn n steps k (dry_entry drain) at less
      (ap (slice_get (first ++ dry_entry drain ∷ [])) here ∙ get_right first (dry_entry drain ∷ []) 0) le

  -- steps that are passed at once
  pass_in : (q turn n r m k : ℕ) (rest : List PlainEntry) → k ≡ q * (steps + 1) + r → q < n → r + m ≤ steps
      → IsPassed (rounds_in_turn turn harts steps drain n) k (turn + q * steps + r) harts m rest
  pass_in q turn zero r m k rest at less few = absurd (omega (arith, less))
  pass_in zero turn (suc n) r m k rest at less few =
      let first = steps_in_turn turn harts steps in
      let more = rounds_in_turn (turn + steps) harts steps drain n in
      let behind = dry_entry drain ∷ (more ++ rest) in
      let k_is : k ≡ r = omega (arith, at) in
      let t : turn + 0 * steps + r ≡ turn + r = omega arith in
      let split : rounds_in_turn turn harts steps drain (suc n) ++ rest ≡ first ++ behind =
      ap (λ xs. xs ++ rest) (rounds_first turn harts steps drain n) ∙ append_assoc first (dry_entry drain ∷ more) rest in
      (λ i. drop (k_is i) (split i)) ∙ skip_some turn harts steps r m (turn + 0 * steps + r) harts behind few t refl
      ∙ (λ i. steps_in_turn (turn + 0 * steps + r) harts m ++ drop (sym k_is i + m) (sym split i))
  pass_in (suc q) turn (suc n) r m k rest at less few =
      let first = steps_in_turn turn harts steps in
      let one = dry_entry drain ∷ [] in
      let more = rounds_in_turn (turn + steps) harts steps drain n in
      let long = steps_length turn harts steps in
      let round = first ++ one in
      let j = q * (steps + 1) + r in
      let size : length round ≡ steps + 1 = omega (arith, long, length-append first one) in
      let k_is : k ≡ length round + j = omega (arith, at, size, suc-mul q (steps + 1)) in
      let then_is : length round + (j + m) ≡ k + m = omega (arith, k_is) in
      let t : turn + steps + q * steps + r ≡ turn + suc q * steps + r = omega (arith, suc-mul q steps) in
      let split : rounds_in_turn turn harts steps drain (suc n) ++ rest ≡ round ++ (more ++ rest) =
      ap (λ xs. xs ++ rest) (rounds_first turn harts steps drain n ∙ sym (append_assoc first one more)) ∙ append_assoc round more rest in
      (λ i. drop (k_is i) (split i)) ∙ sym (drop_drop (round ++ (more ++ rest)) (length round) j)
      ∙ ap (drop j) (drop_all_of round (more ++ rest))
      ∙ pass_in q (turn + steps) n r m j rest refl (omega (arith, less)) few
      ∙ ap (λ x. steps_in_turn x harts m ++ drop (j + m) (more ++ rest)) t
      ∙ ap (λ xs. steps_in_turn (turn + suc q * steps + r) harts m ++ drop (j + m) xs) (sym (drop_all_of round (more ++ rest)))
      ∙ ap (λ xs. steps_in_turn (turn + suc q * steps + r) harts m ++ xs) (drop_drop (round ++ (more ++ rest)) (length round) (j + m))
      ∙ (λ i. steps_in_turn (turn + suc q * steps + r) harts m ++ drop (then_is i) (sym split i))

  -- the parts of an index
  parts : (k : ℕ) → k ≡ k / (steps + 1) * (steps + 1) + k % (steps + 1)
  parts k = sym (div-add-mod' k (steps + 1))

  rounds_before : (n k : ℕ) → k < n * (steps + 1) → k / (steps + 1) < n
  rounds_before n k less = (div-lt_iff_lt-mul {k = steps + 1} {x = k} {y = n} (omega arith)).1 less

  behind_them : (k : ℕ) → k % (steps + 1) ≤ steps
  behind_them k = let less = mod-lt k {m = steps + 1} (omega arith) in omega (arith, less)

  turns_before : (turn k : ℕ) → turn + k / (steps + 1) * steps + k % (steps + 1) ≡ turn + (k - k / (steps + 1))
  turns_before turn k =
      let q = k / (steps + 1) in
      let r = k % (steps + 1) in
      let is = parts k in
      let e : steps + 1 ≡ suc steps = omega arith in
      omega (arith, is, mul-suc q steps, ap (λ m. q * m) e)

  pub drain_at : (turn n k : ℕ) → k < n * (steps + 1) → k % (steps + 1) ≡ steps
      → slice_get (rounds_in_turn turn harts steps drain n) k ≡ Some (dry_entry drain)
  drain_at turn n k less is =
      drain_in (k / (steps + 1)) turn n k (parts k ∙ ap (λ r. k / (steps + 1) * (steps + 1) + r) is) (rounds_before n k less)

  pub step_at : (turn n k : ℕ) → k < n * (steps + 1) → k % (steps + 1) ≢ steps
      → slice_get (rounds_in_turn turn harts steps drain n) k ≡ Some (step_entry (turn + (k - k / (steps + 1))) harts (Stepped Retired))
  step_at turn n k less other =
      let few = behind_them k in
      step_in (k / (steps + 1)) turn n (k % (steps + 1)) k (parts k) (rounds_before n k less) (grind (arith, few, other))

  -- the next steps of a round, by index
  pub row_step : (turn n k i t : ℕ) → k < n * (steps + 1) → k % (steps + 1) + i < steps → t ≡ turn + (k - k / (steps + 1))
      → slice_get (rounds_in_turn turn harts steps drain n) (k + i) ≡ Some (step_entry (t + i) harts (Stepped Retired))
  row_step turn n k i t less few at =
      let q = k / (steps + 1) in
      let r = k % (steps + 1) in
      let is = parts k in
      let le = div-le_self k (steps + 1) in
      let t_is : turn + (k + i - q) ≡ t + i = omega (arith, at, le) in
      step_in q turn n (r + i) (k + i) (omega (arith, is)) (rounds_before n k less) few
      ∙ ap (λ x. Some (step_entry x harts (Stepped Retired))) t_is

  -- steps that are passed at once
  pub passed : (turn n k m t h : ℕ) (rest : List PlainEntry) → k < n * (steps + 1) → k % (steps + 1) + m ≤ steps
      → t ≡ turn + (k - k / (steps + 1)) → h ≡ harts
      → IsPassed (rounds_in_turn turn harts steps drain n) k t h m rest
  passed turn n k m t h rest less few at same =
      pass_in (k / (steps + 1)) turn n (k % (steps + 1)) m k rest (parts k) (rounds_before n k less) few
      ∙ (λ i. steps_in_turn ((turns_before turn k ∙ sym at) i) (sym same i) m ++ drop (k + m) (rounds_in_turn turn harts steps drain n ++ rest))

  -- the rest of a round
  pub row_inside : (n k : ℕ) → k < n * (steps + 1) → k + (steps - k % (steps + 1)) < n * (steps + 1)
  row_inside n k less =
      let q = k / (steps + 1) in
      let r = k % (steps + 1) in
      let is = parts k in
      let few = behind_them k in
      let before = rounds_before n k less in
      let le = mul-le-mul_right {m = suc q} {n = n} (steps + 1) (omega (arith, before)) in
      omega (arith, is, few, le, suc-mul q (steps + 1))

  pub row_fits : (k n count : ℕ) → count ≡ steps - k % (steps + 1) → n ≤ count → k % (steps + 1) + n ≤ steps
  row_fits k n count is le = let few = behind_them k in omega (arith, is, le, few)

-- a drain by itself
pub dry_alone : (item : List PlainEntry) (entry : PlainEntry) (drain : ℕ) → item ≡ entry ∷ [] → entry ≡ dry_entry drain
    → item ≡ dry_entry drain ∷ []
dry_alone item entry drain is dry = is ∙ ap (λ x. x ∷ []) dry

-- none is passed
pub none_passed : (xs : List PlainEntry) (skipped turn harts n : ℕ) (rest : List PlainEntry) → n ≤ 0 → IsPassed xs skipped turn harts n rest
none_passed xs skipped turn harts zero rest few =
    let same : skipped ≡ skipped + 0 = omega arith in
    ap (λ k. drop k (xs ++ rest)) same ∙ ap (λ zs. zs ++ drop (skipped + 0) (xs ++ rest)) (sym (no_steps turn harts))
none_passed xs skipped turn harts (suc n) rest few = absurd (omega (arith, few))

-- ROUNDS THAT BEGIN ALIKE

few_of : (n : ℕ) → 0 ≤ n
few_of n = omega arith

module _ (harts steps drain : ℕ) where
  first_of_more : (turn n m k : ℕ) → k ≤ n * (steps + 1)
      → take k (rounds_in_turn turn harts steps drain (n + m)) ≡ take k (rounds_in_turn turn harts steps drain n)
  first_of_more turn n m k le =
      let first = rounds_in_turn turn harts steps drain n in
      let long = rounds_length turn harts steps drain n in
      ap (take k) (rounds_append n turn harts steps drain m)
      ∙ take-append-le k first (rounds_in_turn (turn + n * steps) harts steps drain m) (omega (arith, long, le))

  -- the first entries of fewer rounds and of more are the same
  first_alike : (turn n m k : ℕ) → k ≤ n * (steps + 1) → k ≤ m * (steps + 1)
      → take k (rounds_in_turn turn harts steps drain n) ≡ take k (rounds_in_turn turn harts steps drain m)
  first_alike turn n m k le more =
      let swapped : n + m ≡ m + n = omega arith in
      sym (first_of_more turn n m k le) ∙ ap (λ c. take k (rounds_in_turn turn harts steps drain c)) swapped
      ∙ first_of_more turn m n k more

-- rounds that begin at the same turn and are the same have their first entries in common
pub are_first : (kept rounds : Rounds) (n : ℕ) → kept.turn ≡ rounds.turn → kept.harts ≡ rounds.harts → kept.steps ≡ rounds.steps
    → kept.drain ≡ rounds.drain → n ≤ kept.count * (kept.steps + 1) → n ≤ rounds.count * (rounds.steps + 1)
    → AreFirst n (rounds_of rounds) (rounds_of kept)
are_first kept rounds n turn harts steps drain le more =
    let long = rounds_length kept.turn kept.harts kept.steps kept.drain kept.count in
    let few : n ≤ rounds.count * (kept.steps + 1) = subst (λ s. n ≤ rounds.count * (s + 1)) (sym steps) more in
    record {
      there = omega (arith, long, le);
      same = first_alike kept.harts kept.steps kept.drain kept.turn kept.count rounds.count n le few
          ∙ (λ i. take n (rounds_in_turn (turn i) (harts i) (steps i) (drain i) rounds.count));
    }

pub none_first : (others xs : List PlainEntry) (n : ℕ) → n ≤ 0 → AreFirst n others xs
none_first others xs zero few = record { there = few_of (length xs); same = refl }
none_first others xs (suc n) few = absurd (omega (arith, few))

-- entries are those that others begin with, and what is left after them
pub first_passed : (n : ℕ) (others xs rest : List PlainEntry) → AreFirst n others xs → xs ++ rest ≡ take n others ++ drop n (xs ++ rest)
first_passed n others xs rest are =
    sym (take-append-drop n (xs ++ rest)) ∙ ap (λ z. z ++ drop n (xs ++ rest)) (take-append-le n xs rest are.there ∙ are.same)
