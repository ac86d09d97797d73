-- What holds of every line.
use Rattle.std.specs.Prelude.{◌≡◌, ℕ, ◌+◌, ◌^◌, ◌≤◌, List, [], length, ◌⊎◌}

-- bytes from a place on end at another, at 2 ^ 32 or before, unless there are none
abbrev pub EndAt : (place after : ℕ) → List ℕ → Type 0
EndAt place after bytes = (bytes ≡ []) ⊎ ((after ≡ place + length bytes) × (after ≤ 2 ^ 32))
