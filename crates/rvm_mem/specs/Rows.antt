-- A set of pages as rows of 64 bits: page p is bit p % 64 of row p / 64.
use Rattle.std.specs.Prelude.{◌≡◌, ℕ, ◌+◌, ◌/◌, ◌%◌, ◌≤◌, Bool, false, List, length, map, slice_index_or}
use Rattle.std.specs.List.{range_with_len}
use Rattle.rvm_mem.specs.Pages.{bit, count}

-- whether the bit of a page is 1; a page past the last row has none
unfoldable pub flag : List ℕ → ℕ → Bool
flag rows page = bit (page % 64) (slice_index_or rows (page / 64) 0)

-- the bits of the first n pages
unfoldable pub flags : (n : ℕ) → List ℕ → List Bool
flags n rows = map (flag rows) (range_with_len 0 n)

-- rows for n pages, at most 4096, in which no bit past the last page is 1
pub record AreRows (n : ℕ) (rows : List ℕ) : Type 0 where
  pub size : length rows ≡ (n + 63) / 64
  pub past : (page : ℕ) → n ≤ page → flag rows page ≡ false
  pub few : n ≤ 4096

-- such rows, with the number of pages in the set
pub record AreCounted (n kept : ℕ) (rows : List ℕ) : Type 0 where
  pub are : AreRows n rows
  pub counted : kept ≡ count (flags n rows)
