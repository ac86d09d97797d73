-- The lines of a signature, one by one.
use Rattle.std.proofs.Common.{◌≡◌, ℕ, zero, suc, ◌+◌, ◌-◌, ◌%◌, ◌^◌, ◌<◌, [], ◌++◌, refl, ap, arith}
use Rattle.rvm_board.specs.Guest.{Guest}
use Rattle.rvm_command.specs.Reports.{word_row, word_rows}
use Rattle.rvm_command.specs.WordAt.{word_at}

-- one word more
pub rows_more : (n a : ℕ) (g : Guest) → 0 < n
    → word_rows n a g ≡ word_row (word_at a g) ++ word_rows (n - 1) ((a + 4) % 2 ^ 32) g
unfolding word_rows
rows_more zero a g some = absurd (omega (arith, some))
rows_more (suc n) a g some =
    let one : n ≡ suc n - 1 = omega arith in
    ap (λ k. word_row (word_at a g) ++ word_rows k ((a + 4) % 2 ^ 32) g) one

-- none is left
pub rows_none : (n a : ℕ) (g : Guest) → (0 < n → ⊥) → word_rows n a g ≡ []
unfolding word_rows
rows_none zero a g none = refl
rows_none (suc n) a g none = absurd (none (omega arith))
