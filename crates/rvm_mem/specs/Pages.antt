-- The dirty log: which pages of 4096 bytes were written since it was last taken; sets of pages.
use Rattle.std.specs.Prelude.{◌≡◌, ℕ, zero, suc, ◌+◌, ◌*◌, ◌/◌, ◌%◌, ◌≤◌, ◌<◌, List, [], ◌∷◌, ◌++◌, Bool, true, false, not, ◌&&◌, ◌||◌, ◌==◌, if◌then◌else◌, Option, Some, None, take, drop, slice_set, slice_index_or, count_by, position}
use Rattle.std.specs.Int.{bit_at}
use Rattle.rvm_mem.specs.Bytes.{slice}

-- a memory: its bytes, and for each page whether it is in the dirty log
pub record Ram : Type 0 where
  pub bytes : List ℕ
  pub dirty : List Bool

-- the bytes of a page
abbrev pub page_of : ℕ → List ℕ → List ℕ
page_of page bytes = slice 4096 (4096 * page) bytes

-- the log and one more page
abbrev pub mark : ℕ → List Bool → List Bool
mark page dirty = slice_set dirty page true

-- the log and the pages of a list
abbrev pub mark_all : List ℕ → List Bool → List Bool
mark_all [] dirty = dirty
mark_all (page ∷ pages) dirty = mark_all pages (mark page dirty)

-- the page of each of the n bytes from place at
unfoldable pub byte_pages : (at n : ℕ) → List ℕ
byte_pages at zero = []
byte_pages at (suc n) = byte_pages at n ++ (at + n) / 4096 ∷ []

-- the set without a page
abbrev pub unmark : ℕ → List Bool → List Bool
unmark page pages = slice_set pages page false

-- whether a page is in the set; a page past the end is not
abbrev pub has : ℕ → List Bool → Bool
has page pages = slice_index_or pages page false

-- the number of pages in the set
abbrev pub count : List Bool → ℕ
count pages = count_by (λ here. here) pages

-- the lowest page in the set
abbrev pub first : List Bool → Option ℕ
first pages = position (λ here. here) pages

-- the pages that are in one of two sets
unfoldable pub union : List Bool → List Bool → List Bool
union [] others = []
union (here ∷ pages) [] = here ∷ pages
union (here ∷ pages) (there ∷ others) = (here || there) ∷ union pages others

-- the flags of 64 pages from this one on, or of as many as there are
abbrev pub window : ℕ → List Bool → List Bool
window page pages = take 64 (drop page pages)

-- the number whose bit i is flag i
unfoldable pub bits : List Bool → ℕ
bits [] = 0
bits (here ∷ pages) = (if here then 1 else 0) + 2 * bits pages

-- whether a bit of a number is 1
abbrev pub bit : (place number : ℕ) → Bool
bit place number = bit_at number place == 1

-- whether a page is in the set and its bit, in a number for its 64 pages, is 0
abbrev pub has_except : (except : ℕ) → List Bool → ℕ → Bool
has_except except pages page = has page pages && not (bit (page % 64) except)

-- a result is the lowest page, from `from` to the one before `end`, that passes a test, if there is
-- one
abbrev pub IsLowest : (test : ℕ → Bool) (from end : ℕ) → Option ℕ → Type 0
IsLowest test from end (Some page) = (from ≤ page) × (page < end) × (test page ≡ true) × ((k : ℕ) → from ≤ k → k < page → test k ≡ false)
IsLowest test from end None = (k : ℕ) → from ≤ k → k < end → test k ≡ false
