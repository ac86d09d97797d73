-- The bytes of an image of one piece.
use Rattle.std.proofs.Common.{◌≡◌, ℕ, ◌+◌, ◌-◌, Bool, true, false, cond, nat_le, nat_lt, List, [], ◌∷◌, length, get_or, Some, None, refl, arith}
use Rattle.std.specs.Prelude.{◌&&◌, IsSome}
use Rattle.std.proofs.lemmas.Bool.Decides.{nat_tests}
use Rattle.rvm_asm.specs.Images.{piece, byte_at}
use Rattle.rvm_asm.specs.Pieces.{HasAt, IsWithin}
use Rattle.rvm_dis.proofs.Reading.{first_of, second_of}

-- they stand at its address
pub bytes_there : (a : ℕ) (bs : List ℕ) → HasAt (piece a bs ∷ []) a bs
bytes_there a bs k inside =
    let from : nat_le a (a + k) ≡ true = grind (arith, nat_tests) in
    let to : nat_lt (a + k) (a + (length bs + 0)) ≡ true = grind (arith, nat_tests) in
    let back : a + k - a ≡ k = omega arith in
    rw (from, to, back) refl

passed : (b : Bool) (v : ℕ) → IsSome (cond b (Some v) None) → b ≡ true
passed true v some = refl
passed false v some = some

-- and no others
pub only_there : (a : ℕ) (bs : List ℕ) (x : ℕ) → IsSome (byte_at (piece a bs ∷ []) x) →
    IsWithin x a bs
only_there a bs x some =
    let end = a + (length bs + 0) in
    let test = passed (nat_le a x && nat_lt x end) (get_or bs (x - a) 0) some in
    let from = first_of (nat_le a x) (nat_lt x end) test in
    let to = second_of (nat_le a x) (nat_lt x end) test in
    (grind (arith, nat_tests), grind (arith, nat_tests))
