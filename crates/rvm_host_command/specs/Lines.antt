-- The lines that a host is told.
use Rattle.std.specs.Prelude.{◌≡◌, ◌≢◌, ◌≤◌, ◌<◌, ◌==◌, ℕ, suc, List, [], ◌∷◌, Option, Some, None, if◌then◌else◌}

-- the most bytes of a line, without its line feed
abbrev pub max_line : ℕ
max_line = 4096

-- how many bytes the first line of these has, without its line feed
abbrev pub line_size : (bytes : List ℕ) → ℕ
line_size [] = 0
line_size (b ∷ bytes) = if b == 10 then 0 else suc (line_size bytes)

-- a line is left, and a host takes it
abbrev pub IsToldLine : (bytes : List ℕ) → Type 0
IsToldLine bytes = (bytes ≢ []) × (line_size bytes ≤ max_line)

-- the first line of these bytes is longer than a host takes
abbrev pub IsLongLine : (bytes : List ℕ) → Type 0
IsLongLine bytes = max_line < line_size bytes

-- the first of these bytes was read, or none since none is left, and those are left
abbrev pub GivesByte : Option ℕ → (left : Option (List ℕ)) → (bytes : List ℕ) → Type 0
GivesByte None left bytes = (bytes ≡ []) × (left ≡ Some [])
GivesByte (Some b) left bytes = (rest : List ℕ) × (bytes ≡ b ∷ rest) × (left ≡ Some rest)
