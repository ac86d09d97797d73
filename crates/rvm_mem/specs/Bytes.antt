-- Numbers in a list of bytes, the lowest byte first (Unprivileged ISA, "Memory").
use Rattle.std.specs.Prelude.{ℕ, ◌+◌, List, ◌++◌, take, drop, length}
use Rattle.byteorder.specs.Endian.{little_number, little_bytes}

-- the n bytes from place at
abbrev pub slice : (n at : ℕ) → List ℕ → List ℕ
slice n at bytes = take n (drop at bytes)

-- the bytes, of which those from place at on are replaced
abbrev pub replaced : (at : ℕ) → List ℕ → List ℕ → List ℕ
replaced at new bytes = take at bytes ++ (new ++ drop (at + length new) bytes)

-- the number in the n bytes from place at: the sum of the bytes, each times its power of 256
abbrev pub load : (n at : ℕ) → List ℕ → ℕ
load n at bytes = little_number n (drop at bytes)

-- the bytes, of which the n from place at on are replaced by those of the value
abbrev pub store : (n at value : ℕ) → List ℕ → List ℕ
store n at value bytes = take at bytes ++ (little_bytes n value ++ drop (at + n) bytes)
