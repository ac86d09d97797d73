-- What kind a line is, what it defines, and where the next line stands. A place is an address, or
-- 2 ^ 32 after the last byte.
use Rattle.std.specs.Prelude.{ℕ, ◌+◌, ◌-◌, ◌*◌, ◌%◌, ◌^◌, Bool, ◌&&◌, ◌||◌, ◌==◌, nat_le, count_by}
use Rattle.std.specs.Prelude.{if◌then◌else◌, List, [], ◌∷◌, length, Option, Some, None}
use Rattle.std.specs.Prelude.{option_map, Result, Ok, Err, codes}
use Rattle.std.specs.Option.{option_or}
use Rattle.rvm_text.specs.Lexemes.{Lexeme, Word, Mark}
use Rattle.rvm_text.specs.Strings.{text_of}
use Rattle.rvm_text.specs.Tokens.{is_name}
use Rattle.rvm_asm.specs.declared.faults.Fault.{Fault}
use Rattle.rvm_asm.specs.declared.faults.Fault.TheVariants.{BadToken, OutOfReach}
use Rattle.rvm_asm.specs.declared.pseudo.Pseudo.TheVariants as pseudo
use Rattle.rvm_asm.specs.declared.statements.Code.{Code}
use Rattle.rvm_asm.specs.declared.statements.Code.TheVariants as code
use Rattle.rvm_asm.specs.declared.statements.Keyword.{Keyword}
use Rattle.rvm_asm.specs.declared.statements.Keyword.TheVariants as keyword
use Rattle.rvm_asm.specs.declared.statements.Width.{Width}
use Rattle.rvm_asm.specs.declared.statements.Width.TheVariants as width
use Rattle.rvm_asm.specs.Grammar.{grammar_at}
use Rattle.rvm_asm.specs.Instructions.{li_at, li_size}
use Rattle.rvm_asm.specs.Operations.{operation_of}
use Rattle.rvm_asm.specs.Reading.{◌>>=◌, known, only_if, is_comma, mark_at, name_at}
use Rattle.rvm_asm.specs.Reading.{last_string}
use Rattle.rvm_asm.specs.Values.{Names, last_value}
use Rattle.rvm_asm.specs.Words.{named}

-- the directives
unfoldable pub directives : List (List ℕ × Keyword)
directives =
    (codes ".org", keyword.Org) ∷
    (codes ".space", keyword.Space) ∷
    (codes ".balign", keyword.Balign) ∷
    (codes ".equ", keyword.Equ) ∷
    (codes ".word", keyword.List width.Word) ∷
    (codes ".half", keyword.List width.Half) ∷
    (codes ".byte", keyword.List width.Byte) ∷
    (codes ".ascii", keyword.Ascii) ∷
    (codes ".asciz", keyword.Asciz) ∷
    (codes ".text", keyword.Text) ∷
    (codes ".globl", keyword.Global) ∷
    (codes ".global", keyword.Global) ∷
    []

-- the pseudo-instructions
unfoldable pub pseudo_instructions : List (List ℕ × Keyword)
pseudo_instructions =
    (codes "nop", keyword.Code (code.Pseudo pseudo.Nop)) ∷
    (codes "mv", keyword.Code (code.Pseudo pseudo.Mv)) ∷
    (codes "not", keyword.Code (code.Pseudo pseudo.Not)) ∷
    (codes "neg", keyword.Code (code.Pseudo pseudo.Neg)) ∷
    (codes "seqz", keyword.Code (code.Pseudo pseudo.Seqz)) ∷
    (codes "snez", keyword.Code (code.Pseudo pseudo.Snez)) ∷
    (codes "beqz", keyword.Code (code.Pseudo pseudo.Beqz)) ∷
    (codes "bnez", keyword.Code (code.Pseudo pseudo.Bnez)) ∷
    (codes "j", keyword.Code (code.Pseudo pseudo.J)) ∷
    (codes "jr", keyword.Code (code.Pseudo pseudo.Jr)) ∷
    (codes "ret", keyword.Code (code.Pseudo pseudo.Ret)) ∷
    (codes "csrr", keyword.Code (code.Pseudo pseudo.Csrr)) ∷
    (codes "csrw", keyword.Code (code.Pseudo pseudo.Csrw)) ∷
    (codes "li", keyword.Code code.Li) ∷
    (codes "la", keyword.Code code.La) ∷
    (codes "call", keyword.Code code.Call) ∷
    []

-- the kind of line that a word names
unfoldable pub keyword_of : List ℕ → Option Keyword
keyword_of word =
    option_or (named directives word)
    (option_or (named pseudo_instructions word)
    (option_map (λ o. keyword.Code (code.Instruction o)) (operation_of word)))

-- a kind of line, and what is after it
abbrev pub keyword_at : List Lexeme → Result (Keyword × List Lexeme) Fault
keyword_at (Word w ∷ ts) = known BadToken (keyword_of w) >>= λ k. Ok (k, ts)
keyword_at ts = Err BadToken

-- a line's kind, and its operands, if the line is in the grammar
abbrev pub statement_at : List Lexeme → Result (Keyword × List Lexeme) Fault
statement_at ts = keyword_at ts >>= λ k. grammar_at k.0 k.1 >>= λ _. Ok k

-- a name and the value that a line gives it
abbrev pub Definition : Type 0
Definition = List ℕ × ℕ

-- the label of a line that stands at a place, if it has one, and the statement after it
abbrev pub label_of : (place : ℕ) → List Lexeme → Option Definition × List Lexeme
label_of place (Word w ∷ Mark m ∷ ts) =
    if is_name w && m == 58 then (Some (w, place % 2 ^ 32), ts) else (None, Word w ∷ Mark m ∷ ts)
label_of place ts = (None, ts)

-- the place this many bytes after another, at most 2 ^ 32
abbrev pub advanced : (place size : ℕ) → Result ℕ Fault
advanced place size = only_if OutOfReach (nat_le (place + size) (2 ^ 32)) (place + size)

-- how many bytes a value of a width takes
abbrev pub bytes_in : Width → ℕ
bytes_in width.Word = 4
bytes_in width.Half = 2
bytes_in width.Byte = 1

-- the place after a string and this many bytes more
abbrev pub behind_string : (place more : ℕ) → List Lexeme → Result ℕ Fault
behind_string place more ts = last_string ts >>= λ s. advanced place (length (text_of s) + more)

-- how many bytes a list of values takes, one more than it has commas
abbrev pub list_size : Width → List Lexeme → ℕ
list_size width ts = bytes_in width * count_by is_comma ts + bytes_in width

-- whether places can be made multiples of a number
abbrev pub is_alignment : ℕ → Bool
is_alignment n =
    n == 1 || n == 2 || n == 4 || n == 8 || n == 16 || n == 32 || n == 64 || n == 128 || n == 256
    || n == 512 || n == 1024 || n == 2048 || n == 4096

-- how many zeros `.balign` places: up to the next multiple of a number
abbrev pub padding : (place number : ℕ) → ℕ
padding place number = (number - place % number) % number

-- how many zeros a line of `.balign` places
unfoldable pub balign_at : Names → (place : ℕ) → List Lexeme → Result ℕ Fault
balign_at names place ts =
    last_value names ts >>= λ n. only_if OutOfReach (is_alignment n) (padding place n)

-- how many zeros a line of `.space` places
unfoldable pub space_at : Names → List Lexeme → Result ℕ Fault
space_at names ts = last_value names ts >>= λ n. only_if OutOfReach (nat_le n (2 ^ 24)) n

-- how many bytes the words of a line have
abbrev pub size_of : Names → Code → List Lexeme → Result ℕ Fault
size_of names code.Li ts = li_at names ts >>= λ o. Ok (li_size o.1)
size_of names code.La ts = Ok 8
size_of names code.Call ts = Ok 8
size_of names (code.Pseudo pseudo) ts = Ok 4
size_of names (code.Instruction operation) ts = Ok 4

-- where the next line stands, after a statement of a kind
abbrev pub place_after : Names → (place : ℕ) → Keyword → List Lexeme → Result ℕ Fault
place_after names place keyword.Org ts = last_value names ts
place_after names place keyword.Space ts = space_at names ts >>= advanced place
place_after names place keyword.Balign ts = balign_at names place ts >>= advanced place
place_after names place keyword.Equ ts = Ok place
place_after names place (keyword.List width) ts = advanced place (list_size width ts)
place_after names place keyword.Ascii ts = behind_string place 0 ts
place_after names place keyword.Asciz ts = behind_string place 1 ts
place_after names place keyword.Text ts = Ok place
place_after names place keyword.Global ts = Ok place
place_after names place (keyword.Code kind) ts = size_of names kind ts >>= advanced place

-- where the next line stands
abbrev pub next_place : Names → (place : ℕ) → List Lexeme → Result ℕ Fault
next_place names place [] = Ok place
next_place names place (t ∷ ts) = statement_at (t ∷ ts) >>= λ k. place_after names place k.0 k.1

-- what an `.equ` defines; any other kind defines nothing
abbrev pub equ_of : Names → Keyword → List Lexeme → Result (Option Definition) Fault
equ_of names keyword.Equ ts =
    name_at ts >>= λ n. mark_at 44 n.1 >>= λ e. last_value names e >>= λ v. Ok (Some (n.0, v))
equ_of names k ts = Ok None

-- what a statement defines
abbrev pub equ_at : Names → List Lexeme → Result (Option Definition) Fault
equ_at names [] = Ok None
equ_at names (t ∷ ts) = statement_at (t ∷ ts) >>= λ k. equ_of names k.0 k.1
