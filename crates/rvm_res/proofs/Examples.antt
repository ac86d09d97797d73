-- Known values.
use Rattle.std.proofs.Common.{◌≡◌, ℕ, List, [], ◌∷◌, Option, Some, None, true, false, refl}
use Rattle.rvm_res.specs.Reservations.{held, poked, stored, released, holds}

abbrev two_harts : List (Option ℕ)
two_harts = held 0 0x8000_0100 (None ∷ None ∷ [])

-- another hart's store into the word ends the reservation
ends : stored 1 0x8000_0102 two_harts ≡ None ∷ None ∷ []
ends = refl

-- the hart's own store keeps it
keeps : stored 0 0x8000_0102 two_harts ≡ two_harts
keeps = refl

-- and its store-conditional succeeds
succeeds : holds 0 0x8000_0100 two_harts ≡ true
succeeds = refl

-- it does not succeed at another word
fails : holds 0 0x8000_0104 two_harts ≡ false
fails = refl

-- a store into the word after it leaves the reservation
another_word : stored 1 0x8000_0104 two_harts ≡ two_harts
another_word = refl

-- a debugger's write of one of its bytes ends it
is_poked : poked 0x8000_0103 two_harts ≡ None ∷ None ∷ []
is_poked = refl

-- so does the hart's store-conditional
is_released : released 0 two_harts ≡ None ∷ None ∷ []
is_released = refl

-- a hart has one reservation, the newest
newest : held 0 0x8000_0200 two_harts ≡ Some 0x8000_0200 ∷ None ∷ []
newest = refl
