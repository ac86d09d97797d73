-- The first bytes of a line.
use Rattle.std.proofs.Common.{◌≡◌, ◌≤◌, ℕ, List, length, take, sym}
use Rattle.std.proofs.lemmas.List.{take_all}

-- of a line that has no more, all are its first bytes
pub few_bytes : (line : List ℕ) → length line ≤ 80 → line ≡ take 80 line
few_bytes line few = sym (take_all 80 line few)
