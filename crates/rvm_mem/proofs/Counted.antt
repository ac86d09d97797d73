-- The pages of all rows, counted row by row.
use Rattle.std.proofs.Common.{◌≡◌, ℕ, zero, suc, ◌+◌, ◌*◌, ◌/◌, ◌%◌, ◌^◌, ◌<◌, ◌≤◌, List, length, get_or, take, refl, sym, ap, ◌∙◌, arith}
use Rattle.std.proofs.lemmas.List.{take_all}
use Rattle.std.proofs.Math.Seq.{take-add}
use Rattle.std.proofs.lemmas.List.Sums.{sum_by-append, sum_by_more}
use Rattle.std.specs.Int.RustNames.{count_ones}
use Rattle.std.specs.List.{sum_by}
use Rattle.rvm_mem.specs.Pages.{bits, count, window}
use Rattle.rvm_mem.specs.Rows.{flags, AreRows}
use Rattle.rvm_mem.proofs.Bits.{ones_of_bits, as_number}
use Rattle.rvm_mem.proofs.Rows.{length-flags, row_is}

counted_to : (n : ℕ) (rows : List ℕ) → AreRows n rows → ((k : ℕ) → get_or rows k 0 < 2 ^ 64) → (i : ℕ) → i ≤ length rows → sum_by count_ones (take i rows) ≡ count (take (64 * i) (flags n rows))
counted_to n rows are small zero inside = refl
counted_to n rows are small (suc i) inside =
    let start : 64 * i % 64 ≡ 0 = omega arith in
    let at : 64 * i / 64 ≡ i = omega arith in
    let row : get_or rows i 0 ≡ bits (window (64 * i) (flags n rows)) =
    ap (λ r. get_or rows r 0) (sym at) ∙ row_is n rows are (64 * i) start (small (64 * i / 64)) in
    let more : sum_by count_ones (take (i + 1) rows) ≡ sum_by count_ones (take i rows) + count_ones (get_or rows i 0) = sum_by_more count_ones rows i 0 (omega arith) in
    let here : count_ones (get_or rows i 0) ≡ count (window (64 * i) (flags n rows)) = ap count_ones row ∙ ones_of_bits (window (64 * i) (flags n rows)) in
    let so_far : sum_by count_ones (take i rows) ≡ count (take (64 * i) (flags n rows)) = counted_to n rows are small i (omega arith) in
    let split : count (take (64 * i + 64) (flags n rows)) ≡ count (take (64 * i) (flags n rows)) + count (window (64 * i) (flags n rows)) =
    ap count (take-add (64 * i) 64 (flags n rows)) ∙ sum_by-append as_number (take (64 * i) (flags n rows)) (window (64 * i) (flags n rows)) in
    ap (λ j. sum_by count_ones (take j rows)) (let e : suc i ≡ i + 1 = omega arith in e)
    ∙ more ∙ (let e : sum_by count_ones (take i rows) + count_ones (get_or rows i 0) ≡ count (take (64 * i + 64) (flags n rows)) = omega arith in e)
    ∙ ap (λ j. count (take j (flags n rows))) (let e : 64 * i + 64 ≡ 64 * suc i = omega arith in e)

pub ones_are_count : (n : ℕ) (rows : List ℕ) → AreRows n rows → ((k : ℕ) → get_or rows k 0 < 2 ^ 64) → sum_by count_ones rows ≡ count (flags n rows)
ones_are_count n rows are small =
    ap (sum_by count_ones) (sym (take_all (length rows) rows (omega arith)))
    ∙ counted_to n rows are small (length rows) (omega arith)
    ∙ ap count (take_all (64 * length rows) (flags n rows) (omega (arith, length-flags n rows, are.size)))
