-- What the code's values stand for.
use Rattle.std.specs.Prelude.{◌≡◌, ℕ, ◌+◌, length, List, [], Option, Some, None}
use Rattle.std.specs.Prelude.{Result, Ok, Err}
use denote.Ref.{Bor}
use Rattle.std.specs.Prelude.{Vec}
use Rattle.std.specs.declared.alloc.Global.{Global}
use Rattle.std.specs.BTreeMap.{BTreeMap, get_by}
use Rattle.std.specs.Cmp.Lexicographic.{slice_cmp}
use Rattle.std.specs.Ordering.{nat_cmp}
use Rattle.rvm_text.specs.Lexemes as grammar
use Rattle.rvm_text.specs.Tokens.{lexeme_of, lexemes_of}
use Rattle.rvm_text.specs.declared.token.Token.{Token}
use Rattle.rvm_asm.specs.declared.faults.Fault.{Fault}
use Rattle.rvm_asm.specs.declared.faults.LineError.{LineError}
use Rattle.rvm_asm.specs.declared.faults.LineError.TheVariants.{OutOfMemory, Faulty}
use Rattle.rvm_asm.specs.declared.symbols.Symbol.{Symbol}
use Rattle.rvm_asm.specs.declared.operations.Ordering.{Ordering}
use Rattle.rvm_asm.specs.declared.values.Half.{Half}
use Rattle.rvm_asm.specs.Reading.{parts}
use Rattle.rvm_asm.specs.Statements.{Definition}
use Rattle.rvm_asm.specs.Values.{Names}

-- the values of names in a map of symbols
unfoldable pub names_of : BTreeMap (Bor (List ℕ)) ℕ → Names
names_of symbols name = get_by (λ key. slice_cmp nat_cmp name key.now) symbols

-- this result, unless memory ran out
abbrev pub Gives : Result (Vec ℕ Global) LineError → Result (List ℕ) Fault → Type 0
Gives (Ok v) meant = meant ≡ Ok v.items
Gives (Err OutOfMemory) meant = Unit {0}
Gives (Err (Faulty f)) meant = meant ≡ Err f

-- a first token, and those after it, as lexemes
abbrev pub parted : Option (Token × Bor (List Token))
    → Option (grammar.Lexeme × List grammar.Lexeme)
parted None = None
parted (Some x) = Some (lexeme_of x.0, lexemes_of x.1.now)

-- a result with the tokens after it
abbrev pub seen : {A : Type 0} → Result (A × Bor (List Token)) Fault
    → Result (A × List grammar.Lexeme) Fault
seen (Ok x) = Ok (x.0, lexemes_of x.1.now)
seen (Err e) = Err e

-- the tokens after what was read
abbrev pub seen_rest : Result (Bor (List Token)) Fault → Result (List grammar.Lexeme) Fault
seen_rest (Ok x) = Ok (lexemes_of x.now)
seen_rest (Err e) = Err e

-- bytes of the line
abbrev pub seen_bytes : Result (Bor (List ℕ)) Fault → Result (List ℕ) Fault
seen_bytes (Ok x) = Ok x.now
seen_bytes (Err e) = Err e

-- a name with the tokens after it
abbrev pub seen_name : Result (Bor (List ℕ) × Bor (List Token)) Fault
    → Result (List ℕ × List grammar.Lexeme) Fault
seen_name (Ok x) = Ok (x.0.now, lexemes_of x.1.now)
seen_name (Err e) = Err e

-- a half with the tokens after it
abbrev pub seen_half : Option (Half × Bor (List Token)) → Option (Half × List grammar.Lexeme)
seen_half None = None
seen_half (Some x) = Some (x.0, lexemes_of x.1.now)

-- a word without its end
abbrev pub seen_stem : Option (Bor (List ℕ)) → Option (List ℕ)
seen_stem None = None
seen_stem (Some x) = Some x.now

-- a word without its end, and the ordering that the end names
abbrev pub seen_ordered : Bor (List ℕ) × Ordering → List ℕ × Ordering
seen_ordered x = (x.0.now, x.1)

-- a symbol as a definition
abbrev pub definition_of : Option Symbol → Option Definition
definition_of None = None
definition_of (Some s) = Some (s.name.now, s.value)

-- what a statement defines
abbrev pub seen_definition : Result (Option Symbol) Fault → Result (Option Definition) Fault
seen_definition (Ok s) = Ok (definition_of s)
seen_definition (Err e) = Err e

-- the parts of the tokens after a comma
abbrev pub seen_parts : Option (Bor (List Token)) → List (List grammar.Lexeme)
seen_parts None = []
seen_parts (Some x) = parts (lexemes_of x.now)

-- how many tokens are left, and one
abbrev pub tokens_left : Option (Bor (List Token)) → ℕ
tokens_left None = 0
tokens_left (Some x) = length x.now + 1
