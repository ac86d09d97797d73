-- The bytes of a page, by how they are kept.
use Rattle.std.specs.Prelude.{◌≡◌, ◌≢◌, ℕ, List, length, replicate}
use Rattle.rvm_frame.specs.declared.page.Kept.{Kept}
use Rattle.rvm_frame.specs.declared.page.Kept.TheVariants.{Zeros, Whole}

-- a page of zeros
abbrev pub zeros : List ℕ
zeros = replicate 4096 0

-- the bytes of a page, given how they are kept
abbrev pub page_in : Kept → List ℕ
page_in Zeros = zeros
page_in (Whole bytes) = bytes.items

-- only a page that is not all zeros is kept whole
abbrev pub IsKept : Kept → Type 0
IsKept Zeros = Unit {0}
IsKept (Whole bytes) = (length bytes.items ≡ 4096) × (bytes.items ≢ zeros)
