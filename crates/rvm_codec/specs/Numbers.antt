-- Numbers in bytes, the lowest byte first.
use Rattle.std.specs.Prelude.{ℕ, ◌+◌, Bool, true, ◌&&◌, nat_le, nat_lt, drop, if◌then◌else◌, List, [], ◌∷◌, length, Option, Some, None}
use Rattle.byteorder.specs.Endian.{little_number}

-- a number of this many bytes and the bytes after it, if there are as many
unfoldable pub number_at : ℕ → List ℕ → Option (ℕ × List ℕ)
number_at size bytes =
    if nat_lt (length bytes) size then None else Some (little_number size bytes, drop size bytes)

-- n is from low to high
abbrev pub within : ℕ → ℕ → ℕ → Bool
within low high n = nat_le low n && nat_le n high

-- the numbers rise strictly, the first of them from low on
abbrev pub rise_from : ℕ → List ℕ → Bool
rise_from low [] = true
rise_from low (n ∷ ns) = nat_le low n && rise_from (n + 1) ns
