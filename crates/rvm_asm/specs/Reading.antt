-- The parts of a line that stand in any statement, each with what is after it. If such a part is missing, the fault is
-- BadToken.
use Rattle.std.specs.Prelude.{ℕ, Bool, false, ◌==◌, if◌then◌else◌, List, [], ◌∷◌, Option, Some, None}
use Rattle.std.specs.Prelude.{Result, Ok, Err}
use Rattle.rvm_text.specs.Lexemes.{Lexeme, Word, Mark, Quoted}
use Rattle.rvm_text.specs.Registers.{register_of}
use Rattle.rvm_text.specs.Tokens.{is_name}
use Rattle.rvm_asm.specs.declared.faults.Fault.{Fault}
use Rattle.rvm_asm.specs.declared.faults.Fault.TheVariants.{BadToken}

infixl 10 ◌>>=◌
-- the value, passed on to the next step, unless there is a fault
abbrev pub ◌>>=◌ : {A B : Type 0} → Result A Fault → (A → Result B Fault) → Result B Fault
(Ok x) >>= f = f x
(Err e) >>= f = Err e

-- the value, or this fault if there is none
abbrev pub known : {A : Type 0} → Fault → Option A → Result A Fault
known f None = Err f
known f (Some x) = Ok x

-- the value, or this fault if the test fails
abbrev pub only_if : {A : Type 0} → Fault → Bool → A → Result A Fault
only_if f b x = if b then Ok x else Err f

-- the first lexeme, and those after it
abbrev pub uncons : List Lexeme → Option (Lexeme × List Lexeme)
uncons [] = None
uncons (t ∷ ts) = Some (t, ts)

-- a mark
abbrev pub mark_at : ℕ → List Lexeme → Result (List Lexeme) Fault
mark_at m (Mark a ∷ ts) = if a == m then Ok ts else Err BadToken
mark_at m ts = Err BadToken

-- whether a lexeme is a comma
abbrev pub is_comma : Lexeme → Bool
is_comma (Mark m) = m == 44
is_comma (Word w) = false
is_comma (Quoted s) = false

-- a lexeme at the head of the first part
abbrev pub at_head : Lexeme → List (List Lexeme) → List (List Lexeme)
at_head t [] = (t ∷ []) ∷ []
at_head t (p ∷ ps) = (t ∷ p) ∷ ps

-- the parts between commas
unfoldable pub parts : List Lexeme → List (List Lexeme)
parts [] = [] ∷ []
parts (t ∷ ts) = if is_comma t then [] ∷ parts ts else at_head t (parts ts)

-- nothing is left
abbrev pub end_at : List Lexeme → Result (Unit {0}) Fault
end_at [] = Ok tt
end_at (t ∷ ts) = Err BadToken

-- a value after which nothing is left
abbrev pub ended : {A : Type 0} → A × List Lexeme → Result A Fault
ended x = end_at x.1 >>= λ _. Ok x.0

-- a name
abbrev pub name_at : List Lexeme → Result (List ℕ × List Lexeme) Fault
name_at (Word w ∷ ts) = if is_name w then Ok (w, ts) else Err BadToken
name_at ts = Err BadToken

-- a string, and nothing after it
abbrev pub last_string : List Lexeme → Result (List ℕ) Fault
last_string (Quoted s ∷ ts) = end_at ts >>= λ _. Ok s
last_string ts = Err BadToken

-- a register
abbrev pub register_at : List Lexeme → Result (ℕ × List Lexeme) Fault
register_at (Word w ∷ ts) = known BadToken (register_of w) >>= λ r. Ok (r, ts)
register_at ts = Err BadToken

-- a register and a comma
unfoldable pub register_comma : List Lexeme → Result (ℕ × List Lexeme) Fault
register_comma ts = register_at ts >>= λ r. mark_at 44 r.1 >>= λ rest. Ok (r.0, rest)

-- a register, and nothing after it
unfoldable pub last_register : List Lexeme → Result ℕ Fault
last_register ts = register_at ts >>= ended

-- a register in parentheses, and nothing after it
unfoldable pub last_address : List Lexeme → Result ℕ Fault
last_address ts =
    mark_at 40 ts >>= λ inner. register_at inner >>= λ r. mark_at 41 r.1 >>= λ rest.
    ended (r.0, rest)
