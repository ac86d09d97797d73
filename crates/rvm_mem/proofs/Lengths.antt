-- A store and a range that is written keep the length of memory.
use Rattle.std.proofs.Common.{◌≡◌, ℕ, ◌+◌, ◌≤◌, List, ◌++◌, length, take, drop, arith, length-append, length-take}
use Rattle.std.proofs.lemmas.List.{length-take-le, length-drop}
use Rattle.byteorder.specs.Endian.{little_bytes}
use Rattle.byteorder.specs.Numbers.{length-bytes_low_first}
use Rattle.rvm_mem.specs.Bytes.{replaced, store}

pub length-store : (n at v : ℕ) (bytes : List ℕ) → at + n ≤ length bytes → length (store n at v bytes) ≡ length bytes
length-store n at v bytes inside =
    omega (arith, length-append (take at bytes) (little_bytes n v ++ drop (at + n) bytes), length-append (little_bytes n v) (drop (at + n) bytes), length-take-le at bytes (omega arith), length-drop (at + n) bytes, length-bytes_low_first 0 n v)

-- a store that goes past the end loses no bytes either
pub store-length : (n at v : ℕ) (bytes : List ℕ) → length bytes ≤ length (store n at v bytes)
store-length n at v bytes =
    omega (arith, length-append (take at bytes) (little_bytes n v ++ drop (at + n) bytes), length-append (little_bytes n v) (drop (at + n) bytes), length-take at bytes, length-drop (at + n) bytes, length-bytes_low_first 0 n v)

pub length-replaced : (at : ℕ) (new bytes : List ℕ) → at + length new ≤ length bytes → length (replaced at new bytes) ≡ length bytes
length-replaced at new bytes inside =
    omega (arith, length-append (take at bytes) (new ++ drop (at + length new) bytes), length-append new (drop (at + length new) bytes), length-take-le at bytes (omega (arith, inside)), length-drop (at + length new) bytes, inside)

-- a range that goes past the end loses no bytes either
pub replaced-length : (at : ℕ) (new bytes : List ℕ) → length bytes ≤ length (replaced at new bytes)
replaced-length at new bytes =
    omega (arith, length-append (take at bytes) (new ++ drop (at + length new) bytes), length-append new (drop (at + length new) bytes), length-take at bytes, length-drop (at + length new) bytes)
