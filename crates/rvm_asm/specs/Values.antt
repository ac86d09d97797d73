-- The values of expressions, modulo 2 ^ 32 (for %hi and %lo RISC-V Assembly Programmer's Manual,
-- "Absolute addressing").
use Rattle.std.specs.Prelude.{ℕ, zero, suc, ◌+◌, ◌*◌, ◌-◌, ◌/◌, ◌%◌, ◌^◌, Bool, ◌&&◌, ◌||◌, ◌==◌}
use Rattle.std.specs.Prelude.{nat_le, nat_lt, if◌then◌else◌, List, ◌∷◌, drop, Option, Some, None}
use Rattle.std.specs.Prelude.{option_map, Result, Ok, Err, codes}
use Rattle.std.specs.Str.{bytes_eq}
use Rattle.rvm_text.specs.Lexemes.{Lexeme, Word, Mark}
use Rattle.rvm_text.specs.Numbers.{number_of}
use Rattle.rvm_text.specs.Tokens.{is_name}
use Rattle.rvm_asm.specs.declared.faults.Fault.{Fault}
use Rattle.rvm_asm.specs.declared.faults.Fault.TheVariants.{BadToken, UnknownName}
use Rattle.rvm_asm.specs.declared.values.Half.{Half}
use Rattle.rvm_asm.specs.declared.values.Half.TheVariants.{High, Low}
use Rattle.rvm_asm.specs.Reading.{◌>>=◌, known, only_if, mark_at, ended}

-- the value of each name, if it has one
abbrev pub Names : Type 0
Names = List ℕ → Option ℕ

-- the number after a minus, at most 2 ^ 31, negated modulo 2 ^ 32
abbrev pub negative_at : List Lexeme → Result (ℕ × List Lexeme) Fault
negative_at (Word w ∷ ts) =
    known BadToken (number_of w) >>= λ n.
    only_if BadToken (nat_le n (2 ^ 31)) ((2 ^ 32 - n) % 2 ^ 32, ts)
negative_at ts = Err BadToken

-- a number with an optional minus
abbrev pub number_at : List Lexeme → Result (ℕ × List Lexeme) Fault
number_at (Word w ∷ ts) = known BadToken (number_of w) >>= λ n. Ok (n, ts)
number_at (Mark m ∷ ts) = if m == 45 then negative_at ts else Err BadToken
number_at ts = Err BadToken

-- what is added to a name's value or taken from it
abbrev pub sum_at : ℕ → List Lexeme → Result (ℕ × List Lexeme) Fault
sum_at v (Mark m ∷ ts) =
    if m == 43 then (number_at ts >>= λ n. Ok ((v + n.0) % 2 ^ 32, n.1))
    else (if m == 45 then (number_at ts >>= λ n. Ok ((v + 2 ^ 32 - n.0) % 2 ^ 32, n.1))
    else Ok (v, Mark m ∷ ts))
sum_at v ts = Ok (v, ts)

-- a number, or a name and what is added to it or taken from it
abbrev pub simple_at : Names → List Lexeme → Result (ℕ × List Lexeme) Fault
simple_at names (Word w ∷ ts) =
    if is_name w then (known UnknownName (names w) >>= λ v. sum_at v ts)
    else number_at (Word w ∷ ts)
simple_at names ts = number_at ts

-- %hi: the upper 20 bits, plus one if the lower 12 bits are a negative signed number
abbrev pub high : ℕ → ℕ
high v = (v + 0x800) % 2 ^ 32 / 2 ^ 12

-- %lo: the lower 12 bits as a signed number
abbrev pub low : ℕ → ℕ
low v = if nat_lt (v % 2 ^ 12) 2048 then v % 2 ^ 12 else v % 2 ^ 12 + (2 ^ 32 - 4096)

-- the half of a value
abbrev pub half_of : Half → ℕ → ℕ
half_of High v = high v
half_of Low v = low v

-- the half with a name
abbrev pub half_named : List ℕ → Option Half
half_named w =
    if bytes_eq w (codes "hi") then Some High
    else (if bytes_eq w (codes "lo") then Some Low else None)

-- the half whose name stands between '%' and '(', and what is after the '('
abbrev pub half_at : List Lexeme → Option (Half × List Lexeme)
half_at (Mark m ∷ Word w ∷ Mark p ∷ ts) =
    if m == 37 && p == 40 then option_map (λ h. (h, ts)) (half_named w) else None
half_at ts = None

-- what f makes of a half, or the other if there is none
abbrev pub chosen : {A : Type 0} → Option (Half × List Lexeme) → (Half × List Lexeme → A) → A → A
chosen None f other = other
chosen (Some h) f other = f h

-- a half of a value, closed by ')'
abbrev pub closed : Half → ℕ × List Lexeme → Result (ℕ × List Lexeme) Fault
closed h v = mark_at 41 v.1 >>= λ rest. Ok (half_of h v.0, rest)

-- an expression: a half of another, if it begins so, or a simple one
unfoldable pub value_at : Names → List Lexeme → Result (ℕ × List Lexeme) Fault
value_at names (Mark m ∷ Word w ∷ Mark p ∷ ts) =
    chosen (half_at (Mark m ∷ Word w ∷ Mark p ∷ ts)) (λ h. value_at names ts >>= closed h.0)
    (simple_at names (Mark m ∷ Word w ∷ Mark p ∷ ts))
value_at names ts = simple_at names ts

-- a value in the half that begins these, closed by ')'
abbrev pub in_half : List Lexeme → ℕ × List Lexeme → Result (ℕ × List Lexeme) Fault
in_half ts v = chosen (half_at ts) (λ h. closed h.0 v) (Ok v)

-- a value in the first n of the nested halves that these begin with, the innermost first
unfoldable pub in_halves : List Lexeme → ℕ → Result (ℕ × List Lexeme) Fault
    → Result (ℕ × List Lexeme) Fault
in_halves ts zero v = v
in_halves ts (suc n) v = in_halves ts n (v >>= in_half (drop (3 * n) ts))

-- an expression, and nothing after it
unfoldable pub last_value : Names → List Lexeme → Result ℕ Fault
last_value names ts = value_at names ts >>= ended

-- whether a value, as a signed number, fits this many bits
abbrev pub fits_signed : (bits value : ℕ) → Bool
fits_signed bits value = nat_lt value (2 ^ (bits - 1)) || nat_le (2 ^ 32 - 2 ^ (bits - 1)) value
