-- A row in which one bit is changed.
use Rattle.std.proofs.Common.{◌≡◌, ◌≢◌, ℕ, ◌+◌, ◌-◌, ◌*◌, ◌/◌, ◌%◌, ◌^◌, ◌<◌, ◌≤◌, List, Bool, true, false, ◌==◌, length, get_or, set, sym, ap, ◌∙◌, arith, inl, inr, bit_and, bit_or, subst}
use Rattle.std.proofs.lemmas.Bool.{cases_eq}
use Rattle.std.proofs.lemmas.List.{length-set, get_or-set_same, get_or-set_other, get_or_default, set-get_or}
use Rattle.std.proofs.lemmas.List.Sums.{count_by-le-length}
use Rattle.std.proofs.lemmas.Nat.Bits.{bit_at_set_same, bit_at_set_other, bit_at_clear_same, bit_at_clear_other}
use Rattle.std.specs.Int.{bit_at, bit_not}
use mir.Syntax.{w64}
use Rattle.rvm_mem.specs.Pages.{bit, count}
use Rattle.rvm_mem.specs.Rows.{flag, flags, AreRows, AreCounted}
use Rattle.rvm_mem.proofs.Sets.{count_in, count_out}
use Rattle.rvm_mem.proofs.Rows.{length-flags, get-flags, are_flags}

pub record OneChanged (p : ℕ) (v : Bool) (old new : List ℕ) : Type 0 where
  pub size : length new ≡ length old
  pub here : flag new p ≡ v
  pub others : (k : ℕ) → k ≢ p → flag new k ≡ flag old k

pub row_changed : (rows : List ℕ) (p row : ℕ) (v : Bool) → p / 64 < length rows → bit (p % 64) row ≡ v → ((i : ℕ) → i < 64 → i ≢ p % 64 → bit_at row i ≡ bit_at (get_or rows (p / 64) 0) i) → OneChanged p v rows (set rows (p / 64) row)
unfolding flag
row_changed rows p row v inside here others =
    record {
      size = length-set rows (p / 64) row;
      here = ap (bit (p % 64)) (get_or-set_same rows (p / 64) row 0 inside) ∙ here;
      others = λ k other.
          elim (cases_eq (k / 64) (p / 64)) [
            | inl e ↦
                ap (bit (k % 64)) (ap (λ r. get_or (set rows (p / 64) row) r 0) e ∙ get_or-set_same rows (p / 64) row 0 inside)
                ∙ ap (λ b. b == 1) (others (k % 64) (omega arith) (λ same. other (omega arith)))
                ∙ ap (λ r. bit (k % 64) (get_or rows r 0)) (sym e)
            | inr n ↦ ap (bit (k % 64)) (get_or-set_other rows (p / 64) (k / 64) row 0 n)
          ];
    }

pub flags_changed : (n p : ℕ) (v : Bool) (old new : List ℕ) → p < n → OneChanged p v old new → flags n new ≡ set (flags n old) p v
flags_changed n p v old new inside c =
    are_flags n new (set (flags n old) p v) (length-set (flags n old) p v ∙ length-flags n old)
    (λ k below.
    elim (cases_eq k p) [
      | inl e ↦ ap (flag new) e ∙ c.here ∙ sym (get_or-set_same (flags n old) p v false (omega (arith, length-flags n old))) ∙ ap (λ j. get_or (set (flags n old) p v) j false) (sym e)
      | inr other ↦ c.others k other ∙ sym (get-flags n old k false below) ∙ sym (get_or-set_other (flags n old) p k v false other)
    ])

pub rows_changed : (n p : ℕ) (v : Bool) (old new : List ℕ) → p < n → OneChanged p v old new → AreRows n old → AreRows n new
rows_changed n p v old new inside c are =
    record {
      size = c.size ∙ are.size;
      past = λ k out. c.others k (λ e. omega arith) ∙ are.past k out;
      few = are.few;
    }

pub bit_set : (rows : List ℕ) (p : ℕ) → p / 64 < length rows → OneChanged p true rows (set rows (p / 64) (bit_or (get_or rows (p / 64) 0) (1 * 2 ^ (p % 64) % 2 ^ 64)))
bit_set rows p inside =
    row_changed rows p (bit_or (get_or rows (p / 64) 0) (1 * 2 ^ (p % 64) % 2 ^ 64)) true inside
    (ap (λ b. b == 1) (bit_at_set_same w64 (get_or rows (p / 64) 0) (p % 64) (omega arith)))
    (λ i below other. bit_at_set_other w64 (get_or rows (p / 64) 0) (p % 64) (omega arith) i other)

pub bit_cleared : (rows : List ℕ) (p : ℕ) → p / 64 < length rows → OneChanged p false rows (set rows (p / 64) (bit_and (get_or rows (p / 64) 0) (bit_not w64 (1 * 2 ^ (p % 64) % 2 ^ 64))))
bit_cleared rows p inside =
    row_changed rows p (bit_and (get_or rows (p / 64) 0) (bit_not w64 (1 * 2 ^ (p % 64) % 2 ^ 64))) false inside
    (ap (λ b. b == 1) (bit_at_clear_same w64 (get_or rows (p / 64) 0) (p % 64) (omega arith)))
    (λ i below other. bit_at_clear_other w64 (get_or rows (p / 64) 0) (p % 64) (omega arith) i below other)

-- a flag that is right already
pub set_already : (n p : ℕ) (v : Bool) (rows : List ℕ) → p < n → flag rows p ≡ v → flags n rows ≡ set (flags n rows) p v
set_already n p v rows inside is =
    sym (set-get_or (flags n rows) p false) ∙ ap (set (flags n rows) p) (get-flags n rows p false inside ∙ is)

-- the row that was read
pub page_inside : (n : ℕ) (rows : List ℕ) (pages : List Bool) (p : ℕ) → flags n rows ≡ pages → p < length pages → p < n
page_inside n rows pages p is inside = omega (arith, ap length is, length-flags n rows)

pub row_inside : (n : ℕ) (rows : List ℕ) (p : ℕ) → AreRows n rows → p < n → p / 64 < length rows
row_inside n rows p are inside = let size = are.size in omega arith

-- a row that a page of the set stands in
pub record Read (n p row : ℕ) (rows : List ℕ) : Type 0 where
  pub are : AreRows n rows
  pub inside : p < n
  pub is : row ≡ get_or rows (p / 64) row

read_is : (n p row : ℕ) (rows : List ℕ) → Read n p row rows → row ≡ get_or rows (p / 64) 0
read_is n p row rows r = r.is ∙ get_or_default rows (p / 64) row 0 (row_inside n rows p r.are r.inside)

pub flag_read : (n p row : ℕ) (rows : List ℕ) → Read n p row rows → flag rows p ≡ bit (p % 64) row
unfolding flag
flag_read n p row rows r = ap (bit (p % 64)) (sym (read_is n p row rows r))

pub flag_stays : (n p row : ℕ) (v : Bool) (rows : List ℕ) → Read n p row rows → bit (p % 64) row ≡ v → flags n rows ≡ set (flags n rows) p v
flag_stays n p row v rows r is = set_already n p v rows r.inside (flag_read n p row rows r ∙ is)

pub inserted : (n p row : ℕ) (rows : List ℕ) → Read n p row rows → OneChanged p true rows (set rows (p / 64) (bit_or row (1 * 2 ^ (p % 64) % 2 ^ 64)))
inserted n p row rows r =
    subst (λ (x : ℕ). OneChanged p true rows (set rows (p / 64) (bit_or x (1 * 2 ^ (p % 64) % 2 ^ 64)))) (sym (read_is n p row rows r))
    (bit_set rows p (row_inside n rows p r.are r.inside))

pub removed : (n p row : ℕ) (rows : List ℕ) → Read n p row rows → OneChanged p false rows (set rows (p / 64) (bit_and row (bit_not w64 (1 * 2 ^ (p % 64) % 2 ^ 64))))
removed n p row rows r =
    subst (λ (x : ℕ). OneChanged p false rows (set rows (p / 64) (bit_and x (bit_not w64 (1 * 2 ^ (p % 64) % 2 ^ 64))))) (sym (read_is n p row rows r))
    (bit_cleared rows p (row_inside n rows p r.are r.inside))

pub inserted_counted : (n p row kept : ℕ) (rows : List ℕ) → Read n p row rows → kept ≡ count (flags n rows) → bit (p % 64) row ≡ false → AreCounted n (kept + 1) (set rows (p / 64) (bit_or row (1 * 2 ^ (p % 64) % 2 ^ 64)))
inserted_counted n p row kept rows r counted out =
    let more : count (set (flags n rows) p true) ≡ count (flags n rows) + 1 =
    count_in (flags n rows) p (let h = r.inside in omega (arith, length-flags n rows)) (get-flags n rows p false r.inside ∙ flag_read n p row rows r ∙ out) in
    record {
      are = rows_changed n p true rows (set rows (p / 64) (bit_or row (1 * 2 ^ (p % 64) % 2 ^ 64))) r.inside (inserted n p row rows r) r.are;
      counted = ap (λ k. k + 1) counted ∙ sym more ∙ ap count (sym (flags_changed n p true rows (set rows (p / 64) (bit_or row (1 * 2 ^ (p % 64) % 2 ^ 64))) r.inside (inserted n p row rows r)));
    }

pub some_counted : (n p row kept : ℕ) (rows : List ℕ) → Read n p row rows → kept ≡ count (flags n rows) → bit (p % 64) row ≡ true → 0 < kept
some_counted n p row kept rows r counted here =
    let less : count (set (flags n rows) p false) + 1 ≡ count (flags n rows) =
    count_out (flags n rows) p (let h = r.inside in omega (arith, length-flags n rows)) (get-flags n rows p false r.inside ∙ flag_read n p row rows r ∙ here) in
    omega arith

pub removed_counted : (n p row kept : ℕ) (rows : List ℕ) → Read n p row rows → kept ≡ count (flags n rows) → bit (p % 64) row ≡ true → AreCounted n (kept - 1) (set rows (p / 64) (bit_and row (bit_not w64 (1 * 2 ^ (p % 64) % 2 ^ 64))))
removed_counted n p row kept rows r counted here =
    let less : count (set (flags n rows) p false) + 1 ≡ count (flags n rows) =
    count_out (flags n rows) p (let h = r.inside in omega (arith, length-flags n rows)) (get-flags n rows p false r.inside ∙ flag_read n p row rows r ∙ here) in
    record {
      are = rows_changed n p false rows (set rows (p / 64) (bit_and row (bit_not w64 (1 * 2 ^ (p % 64) % 2 ^ 64)))) r.inside (removed n p row rows r) r.are;
      counted = (let e : kept - 1 ≡ count (set (flags n rows) p false) = omega arith in e) ∙ ap count (sym (flags_changed n p false rows (set rows (p / 64) (bit_and row (bit_not w64 (1 * 2 ^ (p % 64) % 2 ^ 64)))) r.inside (removed n p row rows r)));
    }

pub few_counted : (n kept : ℕ) (rows : List ℕ) → AreCounted n kept rows → kept ≤ n
few_counted n kept rows c = omega (arith, c.counted, count_by-le-length (λ (b : Bool). b) (flags n rows), length-flags n rows)
