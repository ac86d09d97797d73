-- A spelling of values by all of the bytes.
use Rattle.std.specs.Prelude.{ℕ, Bool, ◌&&◌, ◌==◌, if◌then◌else◌, List, ◌++◌, length, Option, Some, None}
use Rattle.rvm_codec.specs.Codec.{◌>>=◌, Codec}

-- which values have a spelling, their bytes, and the value that all the bytes spell
pub record Format (A : Type 0) : Type 0 where
  pub fits : A → Bool
  pub write : A → List ℕ
  pub read : List ℕ → Option A

-- a value with nothing after it
abbrev pub alone : {A : Type 0} → Codec A → Format A
alone c = record {
  fits = c.fits;
  write = c.write;
  read = λ bytes. c.read bytes >>= λ x. if length x.1 == 0 then Some x.0 else None;
}

-- a value, and the bytes after it to the end
abbrev pub with_rest : {A : Type 0} → Codec A → Format (A × List ℕ)
with_rest c = record {
  fits = λ x. c.fits x.0;
  write = λ x. c.write x.0 ++ x.1;
  read = c.read;
}

-- only values that pass a test
abbrev pub only_if : {A : Type 0} → Format A → (A → Bool) → Format A
only_if f test = record {
  fits = λ x. f.fits x && test x;
  write = f.write;
  read = λ bytes. f.read bytes >>= λ x. if test x then Some x else None;
}
