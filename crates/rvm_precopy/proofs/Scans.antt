-- The scan of a round, block by block, and of the paused guest's pages.
use Rattle.std.proofs.Common.{◌≡◌, ◌≢◌, inl, inr, ℕ, zero, suc, ◌+◌, ◌-◌, ◌*◌, ◌/◌, ◌%◌, ◌<◌, ◌≤◌, Bool, true, false, not, ◌&&◌, ◌==◌, List, length, max, Option, Some, None, refl, sym, ap, ◌∙◌, arith}
use Rattle.std.proofs.lemmas.Bool.{cases_eq, cases_lt, cond_both}
use Rattle.std.proofs.lemmas.Bool.Decides.{nat_tests}
use Rattle.std.proofs.lemmas.List.{get_or_past}
use Rattle.rvm_mem.specs.Pages.{IsLowest, bit, bits, has_except, window}
use Rattle.rvm_mem.proofs.Sets.{length-union}
use Rattle.rvm_protocol.specs.Pages.{least}
use Rattle.rvm_precopy.specs.Plans.{Plan, due, found, peek}

-- the length of a sum of two sets
pub ruleset sums = (length-union)

-- the lowest member
pub least_more : (f : ℕ → Bool) (p n : ℕ) → p < n → f p ≡ false
    → least f p (n - p) ≡ least f (p + 1) (n - (p + 1))
unfolding least
least_more f p n lt h =
    let e : n - p ≡ suc (n - (p + 1)) = omega arith in
    let a : p + 1 ≡ suc p = omega arith in
    rw (e, a, h) refl

pub least_here : (f : ℕ → Bool) (p n : ℕ) → p < n → f p ≡ true → least f p (n - p) ≡ Some p
unfolding least
least_here f p n lt h = let e : n - p ≡ suc (n - (p + 1)) = omega arith in rw (e, h) refl

pub least_end : (f : ℕ → Bool) (p n : ℕ) → n ≤ p → least f p (n - p) ≡ None
unfolding least
least_end f p n le = let e : n - p ≡ 0 = omega arith in rw e refl

-- `least` gives the lowest member, or there is none
pub least_is_lowest : (f : ℕ → Bool) (p n end : ℕ) → p + n ≡ end → IsLowest f p end (least f p n)
unfolding least
least_is_lowest f p zero end is = λ k from below. absurd (omega arith)
least_is_lowest f p (suc n) end is =
    cond_both (f p) (Some p) (least f (suc p) n) (IsLowest f p end)
    (λ here. (omega arith, omega arith, here, λ k from below. absurd (omega arith)))
    (λ not_here. further (least f (suc p) n) not_here (least_is_lowest f (suc p) n end (omega arith))) where
      later : (k : ℕ) → p ≤ k → f p ≡ false → (suc p ≤ k → f k ≡ false) → f k ≡ false
      later k from not_here rest = elim (cases_eq k p) [
        | inl same ↦ ap f same ∙ not_here
        | inr other ↦ rest (omega (arith, other))
      ]

      further : (o : Option ℕ) → f p ≡ false → IsLowest f (suc p) end o → IsLowest f p end o
      further (Some page) not_here low =
          (omega (arith, low.0), low.1, low.2, λ k from below. later k from not_here (λ up. low.3 k up below))
      further None not_here low = λ k from below. later k from not_here (λ up. low k up below)

-- if no number from p on and below e is a member, the search may begin at e
least_skips : (f : ℕ → Bool) (p e n : ℕ) → p ≤ e → e ≤ n → ((k : ℕ) → p ≤ k → k < e → f k ≡ false) → least f p (n - p) ≡ least f e (n - e)
least_skips f p e n up inside none =
    steps (e - p) p (omega arith) none where
      steps : (d p : ℕ) → p + d ≡ e → ((k : ℕ) → p ≤ k → k < e → f k ≡ false) → least f p (n - p) ≡ least f e (n - e)
      steps zero p is none = ap (λ q. least f q (n - q)) (let same : p ≡ e = omega arith in same)
      steps (suc d) p is none =
          least_more f p n (omega arith) (none p (omega arith) (omega arith)) ∙ steps d (p + 1) (omega arith) (λ k from below. none k (omega arith) below)

pub least_past : (f : ℕ → Bool) (p e n : ℕ) → p ≤ e → ((k : ℕ) → p ≤ k → k < e → f k ≡ false) → least f p (n - p) ≡ least f e (n - e)
least_past f p e n up none =
    elim (cases_lt n e) [
      | inl past ↦
          elim (cases_lt n p) [
            | inl over ↦ least_end f p n (omega arith) ∙ sym (least_end f e n (omega arith))
            | inr inside ↦ least_skips f p n n inside (omega arith) (λ k from below. none k from (omega arith)) ∙ least_end f n n (omega arith) ∙ sym (least_end f e n (omega arith))
          ]
      | inr inside ↦ least_skips f p e n up inside none
    ]

-- peeks
peek_fresh : (log : List Bool) (r : Plan) (p : ℕ) → p % 64 ≡ 0 → r.scan ≤ p → peek log r p ≡ bits (window p log)
peek_fresh log r p z le =
    let e : 64 * (p / 64) ≡ p = omega arith in
    let no : (not (r.scan % 64 == 0) && (p / 64 == r.scan / 64)) ≡ false = grind (arith, nat_tests) in
    rw (no, e) refl

peek_kept : (log : List Bool) (r : Plan) → r.scan % 64 ≢ 0 → peek log r r.scan ≡ r.peeked
peek_kept log r n =
    let yes : (not (r.scan % 64 == 0) && (r.scan / 64 == r.scan / 64)) ≡ true = grind (arith, nat_tests) in
    rw yes refl

-- the pages of one block have one peek
pub same_peek : (log : List Bool) (r : Plan) (p q : ℕ) → q / 64 ≡ p / 64 → peek log r q ≡ peek log r p
same_peek log r p q e = rw e refl

-- before this block no page was found, and if the scan began inside a block, the word is the log as peeked at there
pub record Scanning (log : List Bool) (r : Plan) (block peeked : ℕ) : Type 0 where
  pub from : r.scan / 64 ≤ block
  pub same : found log r ≡ least (due log r) (max r.scan (64 * block)) (length r.to_send - max r.scan (64 * block))
  pub word : max r.scan (64 * block) % 64 ≢ 0 → peeked ≡ peek log r (max r.scan (64 * block))

pub scan_begins : (log : List Bool) (r : Plan) (block : ℕ) → block ≡ r.scan / 64 → Scanning log r block r.peeked
scan_begins log r block is =
    let first : max r.scan (64 * block) ≡ r.scan = omega arith in
    record {
      from = omega arith;
      same = ap (λ p. least (due log r) p (length r.to_send - p)) (sym first);
      word = λ n. sym (ap (peek log r) first ∙ peek_kept log r (λ z. n (omega arith)));
    }

-- the page from which a block is looked at, and the word with which it is looked at
pub record Looked (log : List Bool) (r : Plan) (block p peeked : ℕ) : Type 0 where
  pub at : p ≡ max r.scan (64 * block)
  pub is : peeked ≡ peek log r p

pub looked_fresh : (log : List Bool) (r : Plan) (block p peeked before : ℕ) → Scanning log r block before → p ≡ max r.scan (64 * block) → p % 64 ≡ 0 → peeked ≡ bits (window p log) → Looked log r block p peeked
looked_fresh log r block p peeked before s at z e =
    record { at = at; is = e ∙ sym (peek_fresh log r p z (omega arith)) }

pub looked_kept : (log : List Bool) (r : Plan) (block p peeked : ℕ) → Scanning log r block peeked → p ≡ max r.scan (64 * block) → p % 64 ≢ 0 → Looked log r block p peeked
looked_kept log r block p peeked s at n =
    record { at = at; is = s.word (λ z. n (omega arith)) ∙ ap (peek log r) (sym at) }

pub place_inside : (r : Plan) (block p : ℕ) → r.scan / 64 ≤ block → p ≡ max r.scan (64 * block) → p % 64 ≡ 0 → 64 * block < length r.to_send → p < length r.to_send
place_inside r block p from at z inside = omega arith

-- in a block, the pages that are due are those of the word
due_is : (log : List Bool) (r : Plan) (block p peeked k : ℕ) → Looked log r block p peeked → k / 64 ≡ p / 64 → due log r k ≡ has_except peeked r.to_send k
due_is log r block p peeked k l same =
    ap (λ w. has_except w r.to_send k) (same_peek log r p k same ∙ sym l.is)

pub scan_goes_on : (log : List Bool) (r : Plan) (block p peeked before : ℕ) → Scanning log r block before → Looked log r block p peeked → IsLowest (has_except peeked r.to_send) p (64 * (p / 64) + 64) None → Scanning log r (block + 1) peeked
scan_goes_on log r block p peeked before s l none =
    let began : r.scan / 64 ≤ block = s.from in
    let at : p ≡ max r.scan (64 * block) = l.at in
    let next : max r.scan (64 * (block + 1)) ≡ 64 * (p / 64) + 64 = omega arith in
    let skips : least (due log r) p (length r.to_send - p) ≡ least (due log r) (64 * (p / 64) + 64) (length r.to_send - (64 * (p / 64) + 64)) =
    least_past (due log r) p (64 * (p / 64) + 64) (length r.to_send) (omega arith)
    (λ k from below. due_is log r block p peeked k l (omega arith) ∙ none k from below) in
    record {
      from = omega arith;
      same =
          s.same ∙ ap (λ q. least (due log r) q (length r.to_send - q)) (sym at) ∙ skips
          ∙ ap (λ q. least (due log r) q (length r.to_send - q)) (sym next);
      word = λ n. absurd (n (omega arith));
    }

-- the page that is found
pub record Finds (log : List Bool) (r : Plan) (page peeked : ℕ) : Type 0 where
  pub is : Some page ≡ found log r
  pub word : peeked ≡ peek log r page
  pub inside : page < length r.to_send
  pub from : r.scan ≤ page

in_set : (except page : ℕ) (pages : List Bool) → has_except except pages page ≡ true → page < length pages
in_set except page pages is =
    elim (cases_lt page (length pages)) [
      | inl inside ↦ inside
      | inr past ↦
          let out : has_except except pages page ≡ false = ap (λ b. b && not (bit (page % 64) except)) (get_or_past pages page false past) in
          let never : true ≡ false = sym is ∙ out in
          cc
    ]

pub scan_finds : (log : List Bool) (r : Plan) (block p peeked before page : ℕ) → Scanning log r block before → Looked log r block p peeked → IsLowest (has_except peeked r.to_send) p (64 * (p / 64) + 64) (Some page) → Finds log r page peeked
scan_finds log r block p peeked before page s l lowest =
    let at : p ≡ max r.scan (64 * block) = l.at in
    let from : p ≤ page = lowest.0 in
    let below : page < 64 * (p / 64) + 64 = lowest.1 in
    let here : due log r page ≡ true = due_is log r block p peeked page l (omega arith) ∙ lowest.2 in
    let inside : page < length r.to_send = in_set peeked page r.to_send lowest.2 in
    record {
      is =
          sym (s.same ∙ ap (λ q. least (due log r) q (length r.to_send - q)) (sym at)
          ∙ least_past (due log r) p page (length r.to_send) from (λ k up less. due_is log r block p peeked k l (omega arith) ∙ lowest.3 k up less)
          ∙ least_here (due log r) page (length r.to_send) inside here);
      word = l.is ∙ sym (same_peek log r p page (omega arith));
      inside = inside;
      from = omega arith;
    }

pub scan_ends : (log : List Bool) (r : Plan) (block before : ℕ) → Scanning log r block before → length r.to_send ≤ 64 * block → None ≡ found log r
scan_ends log r block before s all =
    sym (s.same ∙ least_end (due log r) (max r.scan (64 * block)) (length r.to_send) (omega arith))
