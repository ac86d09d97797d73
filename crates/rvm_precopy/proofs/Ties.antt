-- What a source keeps as lists is what the protocol has as sets and tables, and each of its actions is the protocol's.
use Rattle.std.proofs.Common.{◌≡◌, inl, inr, ℕ, zero, suc, ◌+◌, ◌-◌, ◌*◌, ◌/◌, ◌%◌, ◌<◌, Bool, true, false, not, ◌&&◌, ◌||◌, ◌==◌, if◌then◌else◌, nat_lt, nat_le, List, [], ◌∷◌, length, replicate, get_or, set, drop, refl, sym, ap, ◌∙◌, arith, add-one}
use Rattle.std.proofs.Math.Path.{fun_ext}
use Rattle.std.proofs.lemmas.List.{get_or-set_same, get_or-set_other, get_or-replicate, get_or_past, length-replicate, drop_more, drop_all}
use Rattle.std.proofs.lemmas.Bool.{cases_Bool, cases_eq, cases_lt, le-ltb, lt-ltb, eq-eqb, ne_eqb}
use Rattle.std.proofs.lemmas.Bool.Decides.{nat_tests}
use Rattle.std.proofs.lemmas.List.Sums.{sum_by-cons}
use Rattle.std.proofs.lemmas.Nat.Bits.{bit_at-zero}
use Rattle.rvm_mem.specs.Pages.{bit, bits, count, has, window}
use Rattle.rvm_mem.proofs.Bits as flags
use Rattle.rvm_protocol.specs.Guest.{Guest}
use Rattle.rvm_protocol.specs.Pages.{Pages, put, least, size, listed}
use Rattle.rvm_protocol.specs.Pages as sets
use Rattle.rvm_protocol.specs.Rounds as protocol
use Rattle.rvm_protocol.specs.Rounds.{is_skipped, page_count}
use Rattle.rvm_precopy.specs.Plans.{Plan, IsPlanOf, rounds_of, last_of, opened, peek, due, found, stops, after_round, stopping, left, last_found, last_copied}
use Rattle.rvm_precopy.proofs.Scans.{same_peek}

and_false : (b : Bool) → (b && false) ≡ false
and_false true = refl
and_false false = refl

-- lists as tables
pub set_is_put : {V : Type 0} (xs : List V) (p : ℕ) (v d : V) → p < length xs
    → (λ q. get_or (set xs p v) q d) ≡ put (λ q. get_or xs q d) p v
set_is_put xs p v d lt =
    fun_ext (λ q. elim (cases_eq q p) [
      | inl e ↦
          rw (eq-eqb q p e) (ap (λ z. get_or (set xs p v) z d) e ∙ get_or-set_same xs p v d lt)
      | inr n ↦ rw (ne_eqb q p n) (get_or-set_other xs p q v d n)
    ])

-- bits
pub no_bit : (i : ℕ) → bit i 0 ≡ false
no_bit i = ap (λ b. b == 1) (bit_at-zero i)

pub bit_of_window : (log : List Bool) (p : ℕ)
    → bit (p % 64) (bits (window (64 * (p / 64)) log)) ≡ has p log
bit_of_window log p =
    let few : p % 64 < 64 = omega arith in
    let at : 64 * (p / 64) + p % 64 ≡ p = omega arith in
    flags.bit_of_window log (64 * (p / 64)) (p % 64) few
    ∙ ap (λ z. get_or log z false) at

-- the scan
block_before : (p scan : ℕ) (b : Bool) → (not (scan % 64 == 0) && (p / 64 == scan / 64)) ≡ true
    → (((p / 64) == ((scan - 1) / 64)) && b) ≡ b
block_before p scan b h =
    let e : (p / 64 == (scan - 1) / 64) ≡ true = grind (arith, nat_tests) in
    rw e refl

pub skipped_is : {S : Type 0} (g : S) (log : List Bool) (r : Plan) (p : ℕ)
    → is_skipped (rounds_of g log r) p ≡ bit (p % 64) (peek log r p)
skipped_is g log r p =
    elim (cases_Bool (not (r.scan % 64 == 0) && (p / 64 == r.scan / 64))) [
      | inl h ↦ rw h (block_before p r.scan (bit (p % 64) r.peeked) h)
      | inr h ↦ rw h (sym (bit_of_window log p))
    ]

block_skips : {S : Type 0} (g : S) (log : List Bool) (r : Plan) (p q : ℕ)
    → ((q / 64 == (p + 1 - 1) / 64) && bit (q % 64) (peek log r p))
    ≡ ((q / 64 == p / 64) && is_skipped (rounds_of g log r) q)
block_skips g log r p q =
    let z : p + 1 - 1 ≡ p = omega arith in
    ap (λ x. (q / 64 == x / 64) && bit (q % 64) (peek log r p)) z
    ∙ elim (cases_eq (q / 64) (p / 64)) [
      | inl e ↦ ap (λ b. (q / 64 == p / 64) && b)
          (ap (bit (q % 64)) (sym (same_peek log r p q e)) ∙ sym (skipped_is g log r q))
      | inr n ↦ rw (ne_eqb (q / 64) (p / 64) n) refl
    ]

no_peek : (x q : ℕ) → ((q / 64 == x) && bit (q % 64) 0) ≡ false
no_peek x q = rw (no_bit (q % 64)) (and_false (q / 64 == x))

-- sizes
size_more : (s : Pages) (n : ℕ) → size s (suc n) ≡ (if s 0 then 1 else 0) + size (λ p. s (suc p)) n
unfolding size
size_more s zero = refl
size_more s (suc n) =
    let e = size_more s n in
    omega (arith, e)

pub size_is_count : (xs : List Bool) → size (λ p. has p xs) (length xs) ≡ count xs
unfolding size
size_is_count [] = refl
size_is_count (x ∷ xs) =
    size_more (λ p. has p (x ∷ xs)) (length xs)
    ∙ ap (λ z. (if x then 1 else 0) + z) (size_is_count xs)
    ∙ sym (sum_by-cons (λ (b : Bool). if b then 1 else 0) x xs)

pub has_none : (n p : ℕ) → has p (replicate n false) ≡ false
has_none n p = elim (cases_lt p n) [
  | inl lt ↦ get_or-replicate n p false false lt
  | inr ge ↦ get_or_past (replicate n false) p false (let e = length-replicate n false in omega (arith, e, ge))
]

pub has_all : (n p : ℕ) → has p (replicate n true) ≡ nat_lt p n
has_all n p = elim (cases_lt p n) [
  | inl lt ↦ get_or-replicate n p true false lt ∙ sym (lt-ltb p n lt)
  | inr ge ↦ get_or_past (replicate n true) p false (let e = length-replicate n true in omega (arith, e, ge)) ∙ sym (le-ltb p n ge)
]

pub zero_of_zeros : (n p : ℕ) → get_or {A = ℕ} (replicate n 0) p 0 ≡ 0
zero_of_zeros n p = elim (cases_lt p n) [
  | inl lt ↦ get_or-replicate n p 0 0 lt
  | inr ge ↦ get_or_past {X = ℕ} (replicate n 0) p 0 (let e = length-replicate {A = ℕ} n 0 in omega (arith, e, ge))
]

-- actions
module _ {S P E A B : Type 0} (m : Guest S P E A B) where
  pub found_is : (g : S) (log : List Bool) (r : Plan) → page_count m g ≡ length r.to_send
      → protocol.next_page m (rounds_of g log r) ≡ found log r
  found_is g log r n =
      ap (λ (f : ℕ → Bool). least f r.scan (page_count m g - r.scan))
      (fun_ext (λ p. ap (λ b. has p r.to_send && not b) (skipped_is g log r p)))
      ∙ ap (λ c. least (due log r) r.scan (c - r.scan)) n

  pub copied_is : (g : S) (log : List Bool) (r : Plan) (p : ℕ) → p < length r.newest
      → rounds_of g log (record r {
        peeked = peek log r p;
        scan = p + 1;
        newest = set r.newest p (r.copies + 1);
        copies = r.copies + 1;
        sent = r.sent + 1;
      }) ≡ protocol.page_copied m (rounds_of g log r) p
  copied_is g log r p lt =
      let skip = fun_ext (λ q. block_skips g log r p q) in
      let news = set_is_put r.newest p (r.copies + 1) 0 lt
      ∙ ap (put (λ q. get_or r.newest q 0) p) (add-one r.copies) in
      λ i. record {
        guest = g;
        policy = r.policy;
        to_send = λ q. has q r.to_send;
        log = λ q. has q log;
        to_skip = skip i;
        scan = add-one p i;
        newest = news i;
        copies = add-one r.copies i;
        round = r.round;
        sent = add-one r.sent i;
        stop = r.stop;
      }

  pub after_is : (g : S) (log : List Bool) (r : Plan) (b : Bool) → page_count m g ≡ length r.to_send
      → rounds_of g (after_round log r b).1 (after_round log r b).0
      ≡ (if b then protocol.round_over m (rounds_of g log r) else protocol.next_round m (rounds_of g log r))
  after_is g log r true n =
      let skip = fun_ext (λ q. no_peek ((length r.to_send - 1) / 64) q) in
      λ i. record {
        guest = g;
        policy = r.policy;
        to_send = λ q. has q r.to_send;
        log = λ q. has q log;
        to_skip = skip i;
        scan = sym n i;
        newest = λ q. get_or r.newest q 0;
        copies = r.copies;
        round = r.round;
        sent = r.sent;
        stop = true;
      }
  after_is g log r false n =
      let skip = fun_ext (λ q. no_peek ((0 - 1) / 64) q) in
      let empty = fun_ext (λ q. has_none (length log) q) in
      λ i. record {
        guest = g;
        policy = r.policy;
        to_send = λ q. has q log;
        log = empty i;
        to_skip = skip i;
        scan = 0;
        newest = λ q. get_or r.newest q 0;
        copies = r.copies;
        round = add-one r.round i;
        sent = 0;
        stop = r.stop;
      }

  pub stops_is : (g : S) (log : List Bool) (r : Plan) → page_count m g ≡ length r.to_send → length log ≡ length r.to_send
      → stops (count log) r ≡ protocol.stops m (rounds_of g log r)
  stops_is g log r n size =
      let left_is : count log ≡ sets.size (λ p. has p log) (page_count m g) = sym (ap (sets.size (λ p. has p log)) (n ∙ sym size) ∙ size_is_count log) in
      ap (λ k. nat_le r.policy.max_rounds r.round || nat_lt k r.policy.min_left || nat_lt (r.policy.factor * length r.to_send) r.copies) left_is
      ∙ ap (λ k. nat_le r.policy.max_rounds r.round || nat_lt (sets.size (λ p. has p log) (page_count m g)) r.policy.min_left || nat_lt (r.policy.factor * k) r.copies) (sym n)

  pub stopped_is : (g : S) (log : List Bool) (r : Plan)
      → last_of g 0 (stopping log r).plan ≡ protocol.stopped m (rounds_of g log r)
  stopped_is g log r =
      let empty = fun_ext (λ q. has_none (length r.to_send) q) in
      λ i. record {
        guest = g;
        to_send = λ q. has q log;
        to_fix = empty i;
        newest = λ q. get_or r.newest q 0;
        copies = r.copies;
        turn = 0;
      }

  pub opened_is : (g : S) (n : ℕ) (r : Plan) → page_count m g ≡ length r.to_send
      → rounds_of g (replicate n false) (opened r) ≡ protocol.opened m g r.policy
  opened_is g n r e =
      let c = length r.to_send in
      let every = fun_ext (λ q. has_all c q ∙ ap (λ z. nat_lt q z) (sym e)) in
      let empty = fun_ext (λ q. has_none n q) in
      let skip = fun_ext (λ q. no_peek ((0 - 1) / 64) q) in
      let news = fun_ext (λ q. zero_of_zeros c q) in
      λ i. record {
        guest = g;
        policy = r.policy;
        to_send = every i;
        log = empty i;
        to_skip = skip i;
        scan = 0;
        newest = news i;
        copies = 0;
        round = 1;
        sent = 0;
        stop = false;
      }

  pub last_found_is : (g : S) (turn : ℕ) (r : Plan) → page_count m g ≡ length r.to_send
      → protocol.to_copy m (last_of g turn r) ≡ last_found r
  last_found_is g turn r n = ap (λ c. least (left r) 0 c) n

  pub last_copied_is : (g : S) (turn : ℕ) (r : Plan) (p : ℕ) → IsPlanOf (page_count m g) r → p < length r.to_send
      → last_of g 0 (last_copied r p).plan ≡ protocol.last_copied m (last_of g turn r) p
  last_copied_is g turn r p is lt =
      let sized : length r.to_send ≡ length r.newest = is.send ∙ sym is.newest in
      let fixed : length r.to_send ≡ length r.to_fix = is.send ∙ sym is.fix in
      let news = set_is_put r.newest p (r.copies + 1) 0 (omega (arith, lt, sized))
      ∙ ap (put (λ q. get_or r.newest q 0) p) (add-one r.copies) in
      let send = set_is_put r.to_send p false false lt in
      let fix = set_is_put r.to_fix p false false (omega (arith, lt, fixed)) in
      λ i. record {
        guest = g;
        to_send = send i;
        to_fix = fix i;
        newest = news i;
        copies = add-one r.copies i;
        turn = 0;
      }

-- the numbers of the newest copies
listed_is : (xs : List ℕ) (first n : ℕ) → length xs ≡ first + n → listed (λ q. get_or xs q 0) first n ≡ drop first xs
unfolding listed
listed_is xs first zero size = sym (drop_all first xs (omega arith))
listed_is xs first (suc n) size =
    ap (λ rest. get_or xs first 0 ∷ rest) (listed_is xs (suc first) n (omega arith))
    ∙ ap (λ k. get_or xs first 0 ∷ drop k xs) (let e : suc first ≡ first + 1 = omega arith in e)
    ∙ sym (drop_more xs first 0 (omega arith))

pub numbers_are : (xs : List ℕ) (n : ℕ) → n ≡ length xs → xs ≡ listed (λ q. get_or xs q 0) 0 n
numbers_are xs n size = sym (listed_is xs 0 n (omega arith))
