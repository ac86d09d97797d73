-- A spelling of values at the front of bytes, put together from smaller ones.
use Rattle.std.specs.Prelude.{ℕ, zero, suc, ◌^◌, Bool, true, false, ◌&&◌, ◌==◌, nat_lt, take, drop, if◌then◌else◌, List, [], ◌∷◌, ◌++◌, length, Option, Some, None, option_and_then}
use Rattle.std.specs.List.{flat_map, list_all}
use Rattle.byteorder.specs.Endian.{little_bytes}
use Rattle.rvm_codec.specs.Numbers.{number_at, within}

infixl 10 ◌>>=◌
-- a step, and the next one with its value, if it has one
abbrev pub ◌>>=◌ : {A B : Type 0} → Option A → (A → Option B) → Option B
o >>= f = option_and_then f o

-- which values have a spelling, their bytes, and the value at the front with the bytes after it
pub record Codec (A : Type 0) : Type 0 where
  pub fits : A → Bool
  pub write : A → List ℕ
  pub read : List ℕ → Option (A × List ℕ)

-- no byte
abbrev pub nothing : Codec (Unit {0})
nothing = record {
  fits = λ x. true;
  write = λ x. [];
  read = λ bytes. Some (tt, bytes);
}

-- any number of this many bytes
abbrev pub any : ℕ → Codec ℕ
any size = record {
  fits = λ n. nat_lt n (256 ^ size);
  write = little_bytes size;
  read = number_at size;
}

-- a number of this many bytes that passes a test
abbrev pub number : ℕ → (ℕ → Bool) → Codec ℕ
number size test = record {
  fits = test;
  write = little_bytes size;
  read = λ bytes. number_at size bytes >>= λ n. if test n.0 then Some n else None;
}

-- this many bytes and those after them, if there are as many
abbrev pub bytes_at : ℕ → List ℕ → Option (List ℕ × List ℕ)
bytes_at count bytes =
    if nat_lt (length bytes) count then None else Some (take count bytes, drop count bytes)

-- a list of this many bytes
abbrev pub raw : ℕ → Codec (List ℕ)
raw count = record {
  fits = λ xs. length xs == count;
  write = λ xs. xs;
  read = bytes_at count;
}

-- a value of each codec, in order
abbrev pub both : {A B : Type 0} → Codec A → Codec B → Codec (A × B)
both c d = record {
  fits = λ x. c.fits x.0 && d.fits x.1;
  write = λ x. c.write x.0 ++ d.write x.1;
  read = λ bytes. c.read bytes >>= λ x. d.read x.1 >>= λ y. Some ((x.0, y.0), y.1);
}

-- only values that pass a test
abbrev pub only : {A : Type 0} → Codec A → (A → Bool) → Codec A
only c test = record {
  fits = λ x. c.fits x && test x;
  write = c.write;
  read = λ bytes. c.read bytes >>= λ x. if test x.0 then Some x else None;
}

-- the same bytes for values of another type
abbrev pub as_type : {A B : Type 0} → Codec A → (A → B) → (B → A) → Codec B
as_type c to from = record {
  fits = λ y. c.fits (from y);
  write = λ y. c.write (from y);
  read = λ bytes. c.read bytes >>= λ x. Some (to x.0, x.1);
}

-- this many consecutive values
unfoldable pub read_each : {A : Type 0} → (List ℕ → Option (A × List ℕ)) → ℕ → List ℕ
    → Option (List A × List ℕ)
read_each read zero bytes = Some ([], bytes)
read_each read (suc n) bytes =
    read bytes >>= λ x. read_each read n x.1 >>= λ y. Some (x.0 ∷ y.0, y.1)

-- a list of this many
abbrev pub times : {A : Type 0} → ℕ → Codec A → Codec (List A)
times n d = record {
  fits = λ xs. (length xs == n) && list_all d.fits xs;
  write = flat_map d.write;
  read = λ bytes. read_each d.read n bytes;
}

-- a value, and a list of as many others as the value says
abbrev pub then_each : {A B : Type 0} → Codec A → (A → ℕ) → Codec B → Codec (A × List B)
then_each c count d = record {
  fits = λ x. c.fits x.0 && ((length x.1 == count x.0) && list_all d.fits x.1);
  write = λ x. c.write x.0 ++ flat_map d.write x.1;
  read = λ bytes.
      c.read bytes >>= λ x. read_each d.read (count x.0) x.1 >>= λ y. Some ((x.0, y.0), y.1);
}

-- a count that passes a test, in this many bytes, and a list of as many
abbrev pub counted_each : {A : Type 0} → ℕ → (ℕ → Bool) → Codec A → Codec (List A)
counted_each size test d = record {
  fits = λ xs. test (length xs) && list_all d.fits xs;
  write = λ xs. little_bytes size (length xs) ++ flat_map d.write xs;
  read = λ bytes. (number size test).read bytes >>= λ x. read_each d.read x.0 x.1;
}

-- a count that passes a test, in this many bytes, and as many bytes
abbrev pub counted_bytes : ℕ → (ℕ → Bool) → Codec (List ℕ)
counted_bytes size test = record {
  fits = λ xs. test (length xs);
  write = λ xs. little_bytes size (length xs) ++ xs;
  read = λ bytes. (number size test).read bytes >>= λ x. bytes_at x.0 x.1;
}

-- the byte of a flag
abbrev pub flag_byte : Bool → ℕ
flag_byte true = 1
flag_byte false = 0

-- a flag: 0 or 1
abbrev pub flag : Codec Bool
flag = as_type (number 1 (within 0 1)) (λ n. n == 1) flag_byte

-- what a flag and a number stand for
abbrev pub option_of : Bool × ℕ → Option ℕ
option_of x = if x.0 then Some x.1 else None

-- the flag and the number of a value that may be missing
abbrev pub option_parts : Option ℕ → Bool × ℕ
option_parts None = (false, 0)
option_parts (Some n) = (true, n)

-- a flag and a number: if the flag is set, the number passes a test, else it is 0
abbrev pub optional : Codec ℕ → (ℕ → Bool) → Codec (Option ℕ)
optional c test =
    as_type (only (both flag c) (λ x. if x.0 then test x.1 else (x.1 == 0))) option_of option_parts
