-- The bytes of a line that stands at a place.
use Rattle.std.specs.Prelude.{ℕ, ◌-◌, ◌%◌, ◌^◌, Bool, true, ◌||◌, ◌==◌, nat_le, nat_lt}
use Rattle.std.specs.Prelude.{if◌then◌else◌, List, [], ◌∷◌, ◌++◌, take, replicate, Result, Ok, Err}
use Rattle.std.specs.Int.{to_le_bytes, w32}
use Rattle.rvm_text.specs.Lexemes.{Lexeme}
use Rattle.rvm_text.specs.Strings.{text_of}
use Rattle.rvm_isa.specs.Words.{word_of}
use Rattle.rvm_asm.specs.declared.faults.Fault.{Fault}
use Rattle.rvm_asm.specs.declared.faults.Fault.TheVariants.{OutOfReach}
use Rattle.rvm_asm.specs.declared.instructions.Words.{Words}
use Rattle.rvm_asm.specs.declared.instructions.Words.TheVariants as words
use Rattle.rvm_asm.specs.declared.statements.Code.{Code}
use Rattle.rvm_asm.specs.declared.statements.Code.TheVariants as code
use Rattle.rvm_asm.specs.declared.statements.Keyword.{Keyword}
use Rattle.rvm_asm.specs.declared.statements.Keyword.TheVariants as keyword
use Rattle.rvm_asm.specs.declared.statements.Width.{Width}
use Rattle.rvm_asm.specs.declared.statements.Width.TheVariants as width
use Rattle.rvm_asm.specs.Instructions.{instruction_at, pseudo_at, li_at, li_words, la_at, call_at}
use Rattle.rvm_asm.specs.Instructions.{bytes_of}
use Rattle.rvm_asm.specs.Reading.{◌>>=◌, only_if, end_at, name_at, last_string, parts}
use Rattle.rvm_asm.specs.Statements.{bytes_in, statement_at, balign_at, space_at}
use Rattle.rvm_asm.specs.Values.{Names, last_value}

-- whether a value, as unsigned or as signed, has a width
abbrev pub has_width : Width → ℕ → Bool
has_width width.Word v = true
has_width width.Half v = nat_lt v (2 ^ 16) || nat_le (2 ^ 32 - 2 ^ 15) v
has_width width.Byte v = nat_lt v (2 ^ 8) || nat_le (2 ^ 32 - 2 ^ 7) v

-- a value of a width
unfoldable pub value_of_width : Names → Width → List Lexeme → Result ℕ Fault
value_of_width names width ts =
    last_value names ts >>= λ v. only_if OutOfReach (has_width width v) v

-- the bytes of a value of a width, the lowest first
abbrev pub value_bytes : Width → ℕ → List ℕ
value_bytes width v = take (bytes_in width) (to_le_bytes w32 v)

-- the bytes of values of a width
unfoldable pub list_bytes : Names → Width → List (List Lexeme) → Result (List ℕ) Fault
list_bytes names width [] = Ok []
list_bytes names width (p ∷ ps) =
    value_of_width names width p >>= λ v. list_bytes names width ps >>= λ more.
    Ok (value_bytes width v ++ more)

-- the words of a kind
abbrev pub words_of : Names → (place : ℕ) → Code → List Lexeme → Result Words Fault
words_of names place code.Li ts = li_at names ts >>= λ o. Ok (li_words o.0 o.1)
words_of names place code.La ts = la_at names place ts
words_of names place code.Call ts = call_at names place ts
words_of names place (code.Pseudo pseudo) ts =
    pseudo_at names place pseudo ts >>= λ i. Ok (words.One (word_of i))
words_of names place (code.Instruction operation) ts =
    instruction_at names place operation ts >>= λ i. Ok (words.One (word_of i))

-- the words at a place, which must be a multiple of four; a fault of the words counts first
unfoldable pub words_at : Names → (place : ℕ) → Code → List Lexeme → Result Words Fault
words_at names place kind ts =
    words_of names place kind ts >>= λ words. only_if OutOfReach (place % 4 == 0) words

-- a name, and nothing after it; it makes no bytes
abbrev pub global_at : List Lexeme → Result (Unit {0}) Fault
global_at ts = name_at ts >>= λ n. end_at n.1

-- the bytes of a statement of a kind
abbrev pub bytes_of_kind : Names → (place : ℕ) → Keyword → List Lexeme → Result (List ℕ) Fault
bytes_of_kind names place keyword.Org ts = Ok []
bytes_of_kind names place keyword.Space ts = space_at names ts >>= λ n. Ok (replicate n 0)
bytes_of_kind names place keyword.Balign ts = balign_at names place ts >>= λ n. Ok (replicate n 0)
bytes_of_kind names place keyword.Equ ts = Ok []
bytes_of_kind names place (keyword.List width) ts = list_bytes names width (parts ts)
bytes_of_kind names place keyword.Ascii ts = last_string ts >>= λ s. Ok (text_of s)
bytes_of_kind names place keyword.Asciz ts = last_string ts >>= λ s. Ok (text_of s ++ 0 ∷ [])
bytes_of_kind names place keyword.Text ts = end_at ts >>= λ _. Ok []
bytes_of_kind names place keyword.Global ts = global_at ts >>= λ _. Ok []
bytes_of_kind names place (keyword.Code kind) ts =
    words_at names place kind ts >>= λ words. Ok (bytes_of words)

-- the bytes of a statement
abbrev pub bytes_at : Names → (place : ℕ) → List Lexeme → Result (List ℕ) Fault
bytes_at names place [] = Ok []
bytes_at names place (t ∷ ts) =
    statement_at (t ∷ ts) >>= λ k. bytes_of_kind names place k.0 k.1
