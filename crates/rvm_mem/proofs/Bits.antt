-- Flags as a number: each bit is its flag.
use Rattle.std.proofs.Common.{◌≡◌, ℕ, zero, suc, ◌+◌, ◌*◌, ◌^◌, ◌<◌, ◌≤◌, List, [], ◌∷◌, Bool, true, false, ◌==◌, length, get_or, drop, refl, sym, ap, ◌∙◌, arith, if◌then◌else◌}
use Rattle.std.proofs.lemmas.List.{map-id, get_or-take, get_or-drop}
use Rattle.std.proofs.lemmas.Nat.{pow_pos}
use Rattle.std.proofs.lemmas.Simd.{bit_mask_l, ones-mask_l}
use Rattle.std.specs.Simd.Lanes.{mask_l}
use Rattle.std.specs.Int.{bit_at}
use Rattle.std.specs.Int.RustNames.{count_ones}
use Rattle.rvm_mem.specs.Pages.{bit, bits, count, window}

-- a flag as a bit
abbrev pub as_number : Bool → ℕ
as_number b = if b then 1 else 0

is_one : (b : Bool) → (as_number b == 1) ≡ b
is_one true = refl
is_one false = refl

-- a bit is 1 or 0
pub bit_number : (b : ℕ) → b < 2 → b ≡ as_number (b == 1)
bit_number zero small = refl
bit_number (suc zero) small = refl
bit_number (suc (suc b)) small = absurd (omega arith)

-- n flags are a number of n bits
pub bits_fit : (flags : List Bool) (n : ℕ) → length flags ≤ n → bits flags < 2 ^ n
unfolding bits
bits_fit [] n short = pow_pos n
bits_fit (here ∷ flags) zero short = absurd (omega arith)
bits_fit (true ∷ flags) (suc n) short = let h : bits flags < 2 ^ n = bits_fit flags n (omega arith) in omega arith
bits_fit (false ∷ flags) (suc n) short = let h : bits flags < 2 ^ n = bits_fit flags n (omega arith) in omega arith

bits_is_mask : (pages : List Bool) → bits pages ≡ mask_l pages
unfolding bits
bits_is_mask [] = refl
bits_is_mask (here ∷ pages) = ap (λ n. (if here then 1 else 0) + 2 * n) (bits_is_mask pages)

pub bit_of_bits : (pages : List Bool) (i : ℕ) → bit_at (bits pages) i ≡ as_number (get_or pages i false)
bit_of_bits pages i = ap (λ n. bit_at n i) (bits_is_mask pages) ∙ bit_mask_l pages i

-- a bit of the number of 64 flags
pub bit_of_window : (pages : List Bool) (p i : ℕ) → i < 64 → bit i (bits (window p pages)) ≡ get_or pages (p + i) false
bit_of_window pages p i below =
    ap (λ b. b == 1) (bit_of_bits (window p pages) i) ∙ is_one (get_or (window p pages) i false)
    ∙ get_or-take 64 (drop p pages) i false below ∙ get_or-drop p pages i false

pub ones_of_bits : (pages : List Bool) → count_ones (bits pages) ≡ count pages
ones_of_bits pages =
    ap count_ones (bits_is_mask pages ∙ ap mask_l (sym (map-id pages))) ∙ ones-mask_l (λ (b : Bool). b) pages
