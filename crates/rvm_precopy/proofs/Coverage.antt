-- No page is forgotten, one action at a time.
use Rattle.std.proofs.Common.{◌≡◌, ◌≢◌, ◌⊎◌, inl, inr, ℕ, ◌+◌, ◌-◌, ◌/◌, ◌%◌, ◌^◌, ◌<◌, ◌≤◌, Bool, true, false, not, ◌&&◌, ◌==◌, List, length, get_or, set, Option, Some, None, sym, ap, ◌∙◌, subst, arith}
use Rattle.std.proofs.lemmas.Bool.{and_cases, cases_Bool, cases_eq, cases_lt, cond_both, not-false, or_parts, true≢false}
use Rattle.std.proofs.lemmas.Bool.Decides.{nat_tests}
use Rattle.std.proofs.lemmas.List.{get_or-set_same, get_or-set_other, length-set}
use Rattle.rvm_mem.specs.Pages.{IsLowest, bit, count, has}
use Rattle.rvm_precopy.specs.Coverage.{Covers, CoversLast}
use Rattle.rvm_precopy.specs.Plans.{IsPlanOf, LastTurn, Plan, Turn, after_round, copied_if, due, found, last_found, last_next_of, left, next_of, peek, stopping, stops, with_found, with_last}
use Rattle.rvm_precopy.specs.declared.rounds.Next.{Next}
use Rattle.rvm_precopy.proofs.Scans.{least_is_lowest, same_peek}
use Rattle.rvm_precopy.proofs.Ties.{bit_of_window, no_bit}

-- the newest copies, after page p got copy n + 1
module _ (newest : List ℕ) (p n : ℕ) (inside : p < length newest) where
  new_copy : (q : ℕ) → q ≡ p → get_or (set newest p (n + 1)) q 0 ≡ n + 1
  new_copy q same = ap (λ k. get_or (set newest p (n + 1)) k 0) same ∙ get_or-set_same newest p (n + 1) 0 inside

  old_copy : (q : ℕ) → q ≢ p → get_or (set newest p (n + 1)) q 0 ≡ get_or newest q 0
  old_copy q other = get_or-set_other newest p q (n + 1) 0 other

  -- a page has a copy, or is owed what it was owed before
  owed : {Before After : Type 0} (q : ℕ) → (0 < get_or newest q 0) ⊎ Before → (q ≢ p → Before → After)
      → (0 < get_or (set newest p (n + 1)) q 0) ⊎ After
  owed q before still = elim (cases_eq q p) [
    | inl same ↦ inl (omega (arith, new_copy q same))
    | inr other ↦ elim before [
      | inl copy ↦ inl (omega (arith, old_copy q other, copy))
      | inr waits ↦ inr (still other waits)
    ]
  ]

  -- no copy has a number that was not given
  given : ((q : ℕ) → get_or newest q 0 ≤ n) → (q : ℕ) → get_or (set newest p (n + 1)) q 0 ≤ n + 1
  given before q = elim (cases_eq q p) [
    | inl same ↦ omega (arith, new_copy q same)
    | inr other ↦ omega (arith, old_copy q other, before q)
  ]

-- while the guest runs
module _ (log : List Bool) (r : Plan) (is : IsPlanOf (length log) r) (c : Covers log r) where
  -- a page that the log had as it was peeked at is in the log
  peeked_logged : (q : ℕ) → bit (q % 64) (peek log r q) ≡ true → has q log ≡ true
  peeked_logged q =
      elim (cases_Bool (not (r.scan % 64 == 0) && (q / 64 == r.scan / 64))) [
        | inl kept ↦ rw kept (λ seen. c.peeked q (grind (arith, nat_tests)) seen)
        | inr fresh ↦ rw fresh (λ seen. sym (bit_of_window log q) ∙ seen)
      ]

  -- a page of this round that is not due is in the log
  passed_logged : (q : ℕ) → has q r.to_send ≡ true → due log r q ≡ false → has q log ≡ true
  passed_logged q here passed = elim (and_cases (has q r.to_send) (not (bit (q % 64) (peek log r q))) passed) [
    | inl never ↦ absurd (true≢false (sym here ∙ never))
    | inr skipped ↦ peeked_logged q (not-false _ skipped)
  ]

  -- page p is copied
  copied : (p : ℕ) → r.stop ≡ false → IsLowest (due log r) r.scan (length r.to_send) (Some p)
      → Covers log (copied_if (peek log r p) r p).1
  copied p goes lowest =
      let inside : p < length r.newest = omega (arith, lowest.1, is.send, is.newest) in
      cond_both (r.copies == 2 ^ 32 - 1) _ _ (λ (t : Next × Plan). Covers log t.1)
      (λ spent. c)
      (λ more. record {
        page = λ q below. owed r.newest p r.copies inside q (c.page q below) (λ other. elim [
          | inl waits ↦ elim (cases_lt q p) [
            | inl passed ↦ inr (passed_logged q waits.0 (lowest.3 q waits.1 passed))
            | inr further ↦ inl (waits.0, omega (arith, other, further))
          ]
          | inr logged ↦ inr logged
        ]);
        peeked = λ q near seen. peeked_logged q (ap (bit (q % 64)) (same_peek log r p q (omega (arith, near))) ∙ seen);
        numbers = given r.newest p r.copies inside c.numbers;
        over = λ stops. absurd (true≢false (sym stops ∙ goes));
      })

  -- if no page of this round is due, each has a copy or is in the log
  settled : IsLowest (due log r) r.scan (length r.to_send) None → (q : ℕ) → q < length r.to_send
      → (0 < get_or r.newest q 0) ⊎ (has q log ≡ true)
  settled passed q below = elim (c.page q below) [
    | inl copy ↦ inl copy
    | inr (inl waits) ↦ inr (passed_logged q waits.0 (passed q waits.1 below))
    | inr (inr logged) ↦ inr logged
  ]

  -- the round ends, whatever the stop rule says
  ended : (b : Bool) → r.stop ≡ false → IsLowest (due log r) r.scan (length r.to_send) None
      → Covers (after_round log r b).1 (after_round log r b).0
  ended true goes passed = record {
    page = λ q below. elim (settled passed q below) [
      | inl copy ↦ inl copy
      | inr logged ↦ inr (inr logged)
    ];
    peeked = λ q near seen. absurd (true≢false (sym seen ∙ no_bit (q % 64)));
    numbers = c.numbers;
    over = λ stops. omega arith;
  }
  ended false goes passed = record {
    page = λ q below. elim (settled passed q (omega (arith, below, is.send))) [
      | inl copy ↦ inl copy
      | inr logged ↦ inr (inl (logged, omega arith))
    ];
    peeked = λ q near seen. absurd (true≢false (sym seen ∙ no_bit (q % 64)));
    numbers = c.numbers;
    over = λ stops. absurd (true≢false (sym stops ∙ goes));
  }

  -- an action, given the page that is found
  turn : (o : Option ℕ) → r.stop ≡ false → IsLowest (due log r) r.scan (length r.to_send) o
      → Covers (with_found log r o).log (with_found log r o).plan
  turn (Some p) = copied p
  turn None = ended (stops (count log) r)

  lowest_due : IsLowest (due log r) r.scan (length r.to_send) (found log r)
  lowest_due =
      least_is_lowest (due log r) r.scan (length r.to_send - r.scan) (length r.to_send)
      (omega (arith, is.send, is.scan))

  pub turned : r.stop ≡ false → Covers (next_of log r).log (next_of log r).plan
  unfolding next_of
  turned goes =
      cond_both r.stop (stopping log r) (with_found log r (found log r)) (λ (t : Turn). Covers t.log t.plan)
      (λ stops. absurd (true≢false (sym stops ∙ goes)))
      (λ _. turn (found log r) goes lowest_due)

  -- the guest is paused: no page was left to be looked at
  pub paused : r.stop ≡ true → CoversLast (next_of log r).plan
  unfolding next_of
  paused stops =
      cond_both r.stop (stopping log r) (with_found log r (found log r)) (λ (t : Turn). CoversLast t.plan)
      (λ _. record {
        page = λ q below. elim (c.page q (omega (arith, below, is.send))) [
          | inl copy ↦ inl copy
          | inr (inl waits) ↦ absurd (omega (arith, below, is.send, waits.1, c.over stops))
          | inr (inr logged) ↦ inr logged
        ];
        numbers = c.numbers;
      })
      (λ goes. absurd (true≢false (sym stops ∙ goes)))

-- once the guest is paused
module _ (r : Plan) where
  lowest_left : IsLowest (left r) 0 (length r.to_send) (last_found r)
  lowest_left = least_is_lowest (left r) 0 (length r.to_send) (length r.to_send) (omega arith)

  last : (o : Option ℕ) → IsPlanOf (length r.to_send) r → CoversLast r → IsLowest (left r) 0 (length r.to_send) o
      → CoversLast (with_last r o).plan
  last None is c lowest = c
  last (Some p) is c lowest =
      let inside : p < length r.newest = omega (arith, lowest.1, is.newest) in
      cond_both (r.copies == 2 ^ 32 - 1) _ _ (λ (t : LastTurn). CoversLast t.plan)
      (λ spent. c)
      (λ more. record {
        page = λ q below. owed r.newest p r.copies inside q (c.page q (omega (arith, below, length-set r.to_send p false)))
            (λ other waits. get_or-set_other r.to_send p q false false other ∙ waits);
        numbers = given r.newest p r.copies inside c.numbers;
      })

  pub last_turned : IsPlanOf (length r.to_send) r → CoversLast r → CoversLast (last_next_of r).plan
  unfolding last_next_of
  last_turned is c = last (last_found r) is c lowest_left

  -- no page is left
  pub all_copied : CoversLast r → last_found r ≡ None → (q : ℕ) → q < length r.to_send → 0 < get_or r.newest q 0
  all_copied c nothing q below = elim (c.page q below) [
    | inl copy ↦ copy
    | inr waits ↦
        let none : IsLowest (left r) 0 (length r.to_send) None =
        subst (IsLowest (left r) 0 (length r.to_send)) nothing lowest_left in
        absurd (true≢false (sym waits ∙ (or_parts (has q r.to_send) (has q r.to_fix) (none q (omega arith) below)).0))
  ]
