-- Rows that have the bits of two sets.
use Rattle.std.proofs.Common.{◌≡◌, ℕ, zero, suc, ◌+◌, ◌/◌, ◌%◌, ◌<◌, ◌≤◌, List, Bool, false, ◌||◌, ◌==◌, length, get_or, set, max, refl, sym, ap, ◌∙◌, arith, inl, inr, bit_or}
use Rattle.std.proofs.lemmas.Bool.{cases_eq, cases_lt}
use Rattle.std.proofs.lemmas.List.{length-set, get_or-set_same, get_or-set_other, get_or_past}
use Rattle.std.proofs.lemmas.Nat.Bits.{bit_at-lt, bit_at_or}
use Rattle.std.specs.Int.{bit_at}
use Rattle.rvm_mem.specs.Pages.{bit, union}
use Rattle.rvm_mem.specs.Rows.{flag, flags, AreRows}
use Rattle.rvm_mem.proofs.Sets.{get-union, length-union}
use Rattle.rvm_mem.proofs.Rows.{length-flags, get-flags, are_flags, row_is}

-- the first i rows have the bits of both
pub record Joined (i : ℕ) (old others new : List ℕ) : Type 0 where
  pub size : length new ≡ length old
  pub both : (r : ℕ) → r < i → get_or new r 0 ≡ bit_or (get_or old r 0) (get_or others r 0)
  pub rest : (r : ℕ) → i ≤ r → get_or new r 0 ≡ get_or old r 0

pub joined_none : (old others : List ℕ) → Joined 0 old others old
joined_none old others = record { size = refl; both = λ r below. absurd (omega arith); rest = λ r above. refl }

pub joined_more : (i : ℕ) (old others new : List ℕ) → Joined i old others new → i < length old → Joined (i + 1) old others (set new i (bit_or (get_or new i 0) (get_or others i 0)))
joined_more i old others new j inside =
    let row : ℕ = bit_or (get_or new i 0) (get_or others i 0) in
    record {
      size = length-set new i row ∙ j.size;
      both = λ r below.
          elim (cases_eq r i) [
            | inl e ↦
                ap (λ k. get_or (set new i row) k 0) e ∙ get_or-set_same new i row 0 (omega (arith, j.size))
                ∙ ap (λ a. bit_or a (get_or others i 0)) (j.rest i (omega arith))
                ∙ ap (λ k. bit_or (get_or old k 0) (get_or others k 0)) (sym e)
            | inr other ↦ get_or-set_other new i r row 0 other ∙ j.both r (omega arith)
          ];
      rest = λ r above. get_or-set_other new i r row 0 (λ e. omega arith) ∙ j.rest r (omega arith);
    }

pub joined_with : (i : ℕ) (old others new : List ℕ) (row other : ℕ) → Joined i old others new → i < length old → row ≡ get_or new i 0 → other ≡ get_or others i 0 → Joined (i + 1) old others (set new i (bit_or row other))
joined_with i old others new row other j inside row_is other_is =
    rw (row_is, other_is) (joined_more i old others new j inside)

pub all_joined : (i : ℕ) (old others new : List ℕ) → Joined i old others new → length old ≤ i → Joined (length old) old others new
all_joined i old others new j all =
    record { size = j.size; both = λ r below. j.both r (omega arith); rest = λ r above. get_or_past new r 0 (omega (arith, j.size)) ∙ sym (get_or_past old r 0 above) }

or_bits : (a b : ℕ) → a < 2 → b < 2 → (max a b == 1) ≡ ((a == 1) || (b == 1))
or_bits zero zero small less = refl
or_bits zero (suc zero) small less = refl
or_bits (suc zero) zero small less = refl
or_bits (suc zero) (suc zero) small less = refl
or_bits (suc (suc a)) b small less = absurd (omega arith)
or_bits zero (suc (suc b)) small less = absurd (omega arith)
or_bits (suc zero) (suc (suc b)) small less = absurd (omega arith)

-- the bits of all rows are those of both
joined_flag : (old others new : List ℕ) → Joined (length old) old others new → length others ≡ length old → (k : ℕ) → flag new k ≡ (flag old k || flag others k)
unfolding flag
joined_flag old others new j same k =
    let row : get_or new (k / 64) 0 ≡ bit_or (get_or old (k / 64) 0) (get_or others (k / 64) 0) =
    elim (cases_lt (k / 64) (length old)) [
      | inl inside ↦ j.both (k / 64) inside
      | inr past ↦
          get_or_past new (k / 64) 0 (omega (arith, j.size))
          ∙ (let e : 0 ≡ bit_or 0 0 = refl in e)
          ∙ ap (λ a. bit_or a 0) (sym (get_or_past old (k / 64) 0 past))
          ∙ ap (λ b. bit_or (get_or old (k / 64) 0) b) (sym (get_or_past others (k / 64) 0 (omega arith)))
    ] in
    ap (bit (k % 64)) row
    ∙ ap (λ b. b == 1) (bit_at_or (get_or old (k / 64) 0) (get_or others (k / 64) 0) (k % 64))
    ∙ or_bits (bit_at (get_or old (k / 64) 0) (k % 64)) (bit_at (get_or others (k / 64) 0) (k % 64)) (bit_at-lt (get_or old (k / 64) 0) (k % 64)) (bit_at-lt (get_or others (k / 64) 0) (k % 64))

pub joined_rows : (n : ℕ) (old others new : List ℕ) → Joined (length old) old others new → AreRows n old → AreRows n others → AreRows n new
joined_rows n old others new j are are_others =
    record {
      size = j.size ∙ are.size;
      past = λ k out.
          joined_flag old others new j (omega (arith, are.size, are_others.size)) k
          ∙ ap (λ b. b || flag others k) (are.past k out) ∙ are_others.past k out;
      few = are.few;
    }

pub joined_flags : (n : ℕ) (old others new : List ℕ) → Joined (length old) old others new → length others ≡ length old → flags n new ≡ union (flags n old) (flags n others)
joined_flags n old others new j same =
    are_flags n new (union (flags n old) (flags n others)) (length-union (flags n old) (flags n others) ∙ length-flags n old)
    (λ k below.
    joined_flag old others new j same k
    ∙ ap (λ b. b || flag others k) (sym (get-flags n old k false below))
    ∙ ap (λ b. get_or (flags n old) k false || b) (sym (get-flags n others k false below))
    ∙ sym (get-union (flags n old) (flags n others) k (omega (arith, length-flags n old, length-flags n others))))

-- two sets of one memory
pub same_pages : (n m : ℕ) (rows others : List ℕ) (pages there : List Bool) → flags n rows ≡ pages → flags m others ≡ there → length there ≡ length pages → m ≡ n
same_pages n m rows others pages there is is_there same =
    sym (length-flags m others) ∙ ap length is_there ∙ same ∙ sym (ap length is) ∙ length-flags n rows

pub same_rows : (n m : ℕ) (rows others : List ℕ) (pages there : List Bool) → flags n rows ≡ pages → flags m others ≡ there → length there ≡ length pages → AreRows n rows → AreRows m others → length others ≡ length rows
same_rows n m rows others pages there is is_there same are are_there =
    are_there.size ∙ ap (λ k. (k + 63) / 64) (same_pages n m rows others pages there is is_there same) ∙ sym are.size
