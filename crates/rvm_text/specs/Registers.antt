-- The names of the registers (Unprivileged ISA, "RISC-V Assembly Programmer's Handbook").
use Rattle.std.specs.Prelude.{ℕ, ◌+◌, if◌then◌else◌, List, [], ◌∷◌, map, Option, Some, None, codes, slice_index_or}
use Rattle.std.specs.Option.{option_or}
use Rattle.std.specs.Str.{bytes_eq}
use denote.Ref.{Bor}

-- x0 to x31 by their names in the calling convention
unfoldable pub abi_names : List (List ℕ)
abi_names =
    codes "zero" ∷ codes "ra" ∷ codes "sp" ∷ codes "gp" ∷
    codes "tp" ∷ codes "t0" ∷ codes "t1" ∷ codes "t2" ∷
    codes "s0" ∷ codes "s1" ∷ codes "a0" ∷ codes "a1" ∷
    codes "a2" ∷ codes "a3" ∷ codes "a4" ∷ codes "a5" ∷
    codes "a6" ∷ codes "a7" ∷ codes "s2" ∷ codes "s3" ∷
    codes "s4" ∷ codes "s5" ∷ codes "s6" ∷ codes "s7" ∷
    codes "s8" ∷ codes "s9" ∷ codes "s10" ∷ codes "s11" ∷
    codes "t3" ∷ codes "t4" ∷ codes "t5" ∷ codes "t6" ∷ []

-- x0 to x31 by their numbers
unfoldable pub numbered_names : List (List ℕ)
numbered_names =
    codes "x0" ∷ codes "x1" ∷ codes "x2" ∷ codes "x3" ∷
    codes "x4" ∷ codes "x5" ∷ codes "x6" ∷ codes "x7" ∷
    codes "x8" ∷ codes "x9" ∷ codes "x10" ∷ codes "x11" ∷
    codes "x12" ∷ codes "x13" ∷ codes "x14" ∷ codes "x15" ∷
    codes "x16" ∷ codes "x17" ∷ codes "x18" ∷ codes "x19" ∷
    codes "x20" ∷ codes "x21" ∷ codes "x22" ∷ codes "x23" ∷
    codes "x24" ∷ codes "x25" ∷ codes "x26" ∷ codes "x27" ∷
    codes "x28" ∷ codes "x29" ∷ codes "x30" ∷ codes "x31" ∷ []

-- the place of a word in a list of names, the first of which has the place n
abbrev pub place_from : (n : ℕ) → List (List ℕ) → List ℕ → Option ℕ
place_from n [] word = None
place_from n (name ∷ names) word =
    if bytes_eq word name then Some n else place_from (n + 1) names word

-- the code's list of names
abbrev pub texts_of : List (Bor (List ℕ)) → List (List ℕ)
texts_of names = map (λ name. name.now) names

-- the number of the register that a word names, in either list or as fp, which is x8
unfoldable pub register_of : List ℕ → Option ℕ
register_of word =
    if bytes_eq word (codes "fp") then Some 8
    else option_or (place_from 0 abi_names word) (place_from 0 numbered_names word)

-- the name of the register with a number
unfoldable pub name_of : ℕ → List ℕ
name_of number = slice_index_or abi_names number []
