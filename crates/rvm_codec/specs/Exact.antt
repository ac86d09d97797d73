-- What is read was written and fits, and what fits is read back.
use Rattle.std.specs.Prelude.{◌≡◌, ℕ, ◌<◌, true, List, ◌++◌, Some, slice_index}
use Rattle.rvm_codec.specs.Codec.{Codec}
use Rattle.rvm_codec.specs.Format.{Format}

-- each number is below 256
abbrev pub IsBytes : List ℕ → Type 0
IsBytes bytes = (i : ℕ) → slice_index bytes i < 256

-- the bytes are the text and the rest after it
pub record Takes (bytes text rest : List ℕ) : Type 0 where
  pub parts : bytes ≡ text ++ rest
  pub rest_fits : IsBytes rest

-- a codec whose reader and writer agree, whatever follows
pub record IsExact {A : Type 0} (c : Codec A) : Type 0 where
  pub takes : (bytes : List ℕ) (x : A × List ℕ) → IsBytes bytes → c.read bytes ≡ Some x
      → Takes bytes (c.write x.0) x.1 × (c.fits x.0 ≡ true)
  pub again : (a : A) (rest : List ℕ) → c.fits a ≡ true
      → c.read (c.write a ++ rest) ≡ Some (a, rest)

-- a format whose reader and writer agree
pub record IsExactFormat {A : Type 0} (f : Format A) : Type 0 where
  pub takes : (bytes : List ℕ) (a : A) → IsBytes bytes → f.read bytes ≡ Some a
      → (bytes ≡ f.write a) × (f.fits a ≡ true)
  pub again : (a : A) → f.fits a ≡ true → f.read (f.write a) ≡ Some a
