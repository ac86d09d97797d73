-- The lowest page of two sets.
use Rattle.std.proofs.Common.{◌≡◌, inl, inr, ℕ, ◌<◌, Bool, true, false, ◌||◌, List, length, min, Option, Some, None, refl, sym, ap, ◌∙◌, arith, subst}
use Rattle.std.proofs.lemmas.Bool.{cases_lt}
use Rattle.std.proofs.lemmas.List.{get_or_past}
use Rattle.rvm_mem.specs.Pages.{IsLowest, first, has}
use Rattle.rvm_mem.proofs.Sets.{first_is, first_none}
use Rattle.rvm_protocol.specs.Pages.{least}
use Rattle.rvm_precopy.specs.Plans.{Plan, last_found, left}
use Rattle.rvm_precopy.proofs.Scans.{least_is_lowest}

-- no test is true and false, so there is one lowest
never : (b : Bool) → b ≡ true → b ≡ false → ⊥
never true one other = cc
never false one other = cc

lowest_is : (test : ℕ → Bool) (from end : ℕ) (one other : Option ℕ) → IsLowest test from end one → IsLowest test from end other → one ≡ other
lowest_is test from end (Some a) (Some b) is also =
    elim (cases_lt a b) [
      | inl less ↦ absurd (never (test a) is.2 (also.3 a is.0 less))
      | inr more ↦
          elim (cases_lt b a) [
            | inl less ↦ absurd (never (test b) also.2 (is.3 b also.0 less))
            | inr same ↦ ap Some (let e : a ≡ b = omega arith in e)
          ]
    ]
lowest_is test from end (Some a) None is also = absurd (never (test a) is.2 (also a is.0 is.1))
lowest_is test from end None (Some b) is also = absurd (never (test b) also.2 (is b also.0 also.1))
lowest_is test from end None None is also = refl

-- the lowest page of a set
first_of : (pages : List Bool) (o : Option ℕ) → IsLowest (λ k. has k pages) 0 (length pages) o → o ≡ first pages
first_of pages (Some p) is = first_is pages p is.1 is.2 (λ k below. is.3 k (omega arith) below)
first_of pages None is =
    first_none pages
    (λ k.
    elim (cases_lt k (length pages)) [
      | inl inside ↦ is k (omega arith) inside
      | inr past ↦ get_or_past pages k false past
    ])

first_lowest : (pages : List Bool) → IsLowest (λ k. has k pages) 0 (length pages) (first pages)
first_lowest pages =
    let is = least_is_lowest (λ k. has k pages) 0 (length pages) (length pages) (omega arith) in
    subst (IsLowest (λ k. has k pages) 0 (length pages)) (first_of pages (least (λ k. has k pages) 0 (length pages)) is) is

-- the lower one of two
or_true : (b : Bool) → (b || true) ≡ true
or_true true = refl
or_true false = refl

lower : (f g : ℕ → Bool) (p q end : ℕ) → IsLowest f 0 end (Some p) → IsLowest g 0 end (Some q) → IsLowest (λ k. f k || g k) 0 end (Some (min p q))
lower f g p q end a b = (
  omega arith,
  (let below : p < end = a.1 in omega arith),
  elim (cases_lt q p) [
    | inl less ↦ ap (λ k. f k || g k) (let e : min p q ≡ q = omega arith in e) ∙ ap (λ there. f q || there) b.2 ∙ or_true (f q)
    | inr more ↦ ap (λ k. f k || g k) (let e : min p q ≡ p = omega arith in e) ∙ ap (λ here. here || g p) a.2
  ],
  λ k from below. ap (λ here. here || g k) (a.3 k from (omega arith)) ∙ b.3 k from (omega arith),
)

lower_alone : (f g : ℕ → Bool) (end : ℕ) (o : Option ℕ) → IsLowest f 0 end None → IsLowest g 0 end o → IsLowest (λ k. f k || g k) 0 end o
lower_alone f g end (Some q) none b =
    (b.0, b.1, ap (λ there. f q || there) b.2 ∙ or_true (f q), λ k from below. ap (λ here. here || g k) (none k from (omega (arith, b.1))) ∙ b.3 k from below)
lower_alone f g end None none b = λ k from below. ap (λ here. here || g k) (none k from below) ∙ b k from below

lower_first : (f g : ℕ → Bool) (end : ℕ) (o : Option ℕ) → IsLowest f 0 end o → IsLowest g 0 end None → IsLowest (λ k. f k || g k) 0 end o
lower_first f g end (Some p) a none =
    (a.0, a.1, ap (λ here. here || g p) a.2, λ k from below. ap (λ here. here || g k) (a.3 k from below) ∙ none k from (omega (arith, a.1)))
lower_first f g end None a none = λ k from below. ap (λ here. here || g k) (a k from below) ∙ none k from below

-- the lowest page of each set of a plan
pub record Firsts (r : Plan) (sent fix : Option ℕ) : Type 0 where
  pub same : length r.to_fix ≡ length r.to_send
  pub of_send : sent ≡ first r.to_send
  pub of_fix : fix ≡ first r.to_fix

pub known : (r : Plan) (one other sent fix : Option ℕ) → one ≡ sent → other ≡ fix → Firsts r one other → Firsts r sent fix
known r one other sent fix is also firsts = record { same = firsts.same; of_send = sym is ∙ firsts.of_send; of_fix = sym also ∙ firsts.of_fix }

sent_lowest : (r : Plan) (sent fix : Option ℕ) → Firsts r sent fix → IsLowest (λ k. has k r.to_send) 0 (length r.to_send) sent
sent_lowest r sent fix firsts = subst (IsLowest (λ k. has k r.to_send) 0 (length r.to_send)) (sym firsts.of_send) (first_lowest r.to_send)

fix_lowest : (r : Plan) (sent fix : Option ℕ) → Firsts r sent fix → IsLowest (λ k. has k r.to_fix) 0 (length r.to_send) fix
fix_lowest r sent fix firsts =
    subst (λ n. IsLowest (λ k. has k r.to_fix) 0 n fix) firsts.same
    (subst (IsLowest (λ k. has k r.to_fix) 0 (length r.to_fix)) (sym firsts.of_fix) (first_lowest r.to_fix))

last_is : (r : Plan) (o : Option ℕ) → IsLowest (left r) 0 (length r.to_send) o → o ≡ last_found r
last_is r o is =
    lowest_is (left r) 0 (length r.to_send) o (last_found r) is (least_is_lowest (left r) 0 (length r.to_send) (length r.to_send) (omega arith))

pub last_of_both : (r : Plan) (p q : ℕ) → Firsts r (Some p) (Some q) → Some (min p q) ≡ last_found r
last_of_both r p q firsts =
    last_is r (Some (min p q))
    (lower (λ k. has k r.to_send) (λ k. has k r.to_fix) p q (length r.to_send) (sent_lowest r (Some p) (Some q) firsts) (fix_lowest r (Some p) (Some q) firsts))

pub last_sent : (r : Plan) (sent : Option ℕ) → Firsts r sent None → sent ≡ last_found r
last_sent r sent firsts =
    last_is r sent
    (lower_first (λ k. has k r.to_send) (λ k. has k r.to_fix) (length r.to_send) sent (sent_lowest r sent None firsts) (fix_lowest r sent None firsts))

pub last_fix : (r : Plan) (fix : Option ℕ) → Firsts r None fix → fix ≡ last_found r
last_fix r fix firsts =
    last_is r fix
    (lower_alone (λ k. has k r.to_send) (λ k. has k r.to_fix) (length r.to_send) fix (sent_lowest r None fix firsts) (fix_lowest r None fix firsts))
