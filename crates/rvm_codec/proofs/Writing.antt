-- Fields written in order.
use Rattle.std.proofs.Common.{◌≡◌, ℕ, ◌*◌, List, [], ◌∷◌, ◌++◌, length, refl, ap, ◌∙◌, append_assoc, arith}
use Rattle.std.specs.List.{flat_map}
use Rattle.byteorder.specs.Endian.{little_bytes}

-- two parts, appended in order to what was there
pub chain : (a b c x y : List ℕ) → b ≡ a ++ x → c ≡ b ++ y → c ≡ a ++ (x ++ y)
chain a b c x y p q = q ∙ ap (λ (t : List ℕ). t ++ y) p ∙ append_assoc a x y

pub length_numbers_2 : (ns : List ℕ) → length (flat_map (little_bytes 2) ns) ≡ 2 * length ns
length_numbers_2 [] = refl
length_numbers_2 (n ∷ ns) = omega (arith, length_numbers_2 ns)

pub length_numbers_4 : (ns : List ℕ) → length (flat_map (little_bytes 4) ns) ≡ 4 * length ns
length_numbers_4 [] = refl
length_numbers_4 (n ∷ ns) = omega (arith, length_numbers_4 ns)
