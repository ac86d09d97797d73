-- The grammar of statements: the operands of each kind by their shapes, between commas. It asks
-- neither which values names have nor in what range a value is.
use Rattle.std.specs.Prelude.{List, [], ◌∷◌, Some, Result, Ok, Err}
use Rattle.rvm_text.specs.Lexemes.{Lexeme, Quoted}
use Rattle.rvm_asm.specs.declared.faults.Fault.{Fault}
use Rattle.rvm_asm.specs.declared.faults.Fault.TheVariants.{BadToken}
use Rattle.rvm_asm.specs.declared.grammar.Operand.{Operand}
use Rattle.rvm_asm.specs.declared.grammar.Operand.TheVariants as operand
use Rattle.rvm_asm.specs.declared.operations.Operation.{Operation}
use Rattle.rvm_asm.specs.declared.operations.Operation.TheVariants as operation
use Rattle.rvm_asm.specs.declared.pseudo.Pseudo.{Pseudo}
use Rattle.rvm_asm.specs.declared.pseudo.Pseudo.TheVariants as pseudo
use Rattle.rvm_asm.specs.declared.statements.Code.{Code}
use Rattle.rvm_asm.specs.declared.statements.Code.TheVariants as code
use Rattle.rvm_asm.specs.declared.statements.Keyword.{Keyword}
use Rattle.rvm_asm.specs.declared.statements.Keyword.TheVariants as keyword
use Rattle.rvm_asm.specs.Csrs.{csr_word_at}
use Rattle.rvm_asm.specs.Reading.{◌>>=◌, mark_at, end_at, name_at, register_at, parts}
use Rattle.rvm_asm.specs.Values.{Names, value_at}

-- each name has a value, so that an expression has one wherever it is in the grammar
abbrev pub any_names : Names
any_names name = Some 0

-- what is after an expression
abbrev pub behind_value : List Lexeme → Result (List Lexeme) Fault
behind_value ts = value_at any_names ts >>= λ v. Ok v.1

-- what is after a register in parentheses
abbrev pub behind_base : List Lexeme → Result (List Lexeme) Fault
behind_base ts = mark_at 40 ts >>= λ inner. register_at inner >>= λ r. mark_at 41 r.1

-- what is after a string
abbrev pub behind_text : List Lexeme → Result (List Lexeme) Fault
behind_text (Quoted s ∷ ts) = Ok ts
behind_text ts = Err BadToken

-- what is after an operand of a shape
unfoldable pub behind : Operand → List Lexeme → Result (List Lexeme) Fault
behind operand.Register ts = register_at ts >>= λ r. Ok r.1
behind operand.Base ts = behind_base ts
behind operand.Value ts = behind_value ts
behind operand.Address ts = behind_value ts >>= behind_base
behind operand.Csr ts = csr_word_at ts >>= λ c. Ok c.1
behind operand.Name ts = name_at ts >>= λ n. Ok n.1
behind operand.Text ts = behind_text ts

-- operands of these shapes, each after a comma, and nothing after them
unfoldable pub more_operands_at : List Operand → List Lexeme → Result (Unit {0}) Fault
more_operands_at [] ts = end_at ts
more_operands_at (o ∷ os) ts = mark_at 44 ts >>= behind o >>= more_operands_at os

-- operands of these shapes, with commas between them, and nothing after them
abbrev pub operands_at : List Operand → List Lexeme → Result (Unit {0}) Fault
operands_at [] ts = end_at ts
operands_at (o ∷ os) ts = behind o ts >>= more_operands_at os

-- an expression, and nothing after it
abbrev pub expression_at : List Lexeme → Result (Unit {0}) Fault
expression_at ts = behind_value ts >>= end_at

-- expressions
unfoldable pub expressions_at : List (List Lexeme) → Result (Unit {0}) Fault
expressions_at [] = Ok tt
expressions_at (p ∷ ps) = expression_at p >>= λ _. expressions_at ps

-- the operands of each instruction
abbrev pub shapes_of_operation : Operation → List Operand
shapes_of_operation operation.Jump = operand.Register ∷ operand.Value ∷ []
shapes_of_operation (operation.Upper op) = operand.Register ∷ operand.Value ∷ []
shapes_of_operation (operation.Branch op) =
    operand.Register ∷ operand.Register ∷ operand.Value ∷ []
shapes_of_operation (operation.Load op) = operand.Register ∷ operand.Address ∷ []
shapes_of_operation (operation.Store op) = operand.Register ∷ operand.Address ∷ []
shapes_of_operation (operation.Immediate op) =
    operand.Register ∷ operand.Register ∷ operand.Value ∷ []
shapes_of_operation (operation.Shift op) =
    operand.Register ∷ operand.Register ∷ operand.Value ∷ []
shapes_of_operation (operation.Register op) =
    operand.Register ∷ operand.Register ∷ operand.Register ∷ []
shapes_of_operation (operation.Whole op) = []
shapes_of_operation (operation.Csr op) = operand.Register ∷ operand.Csr ∷ operand.Register ∷ []
shapes_of_operation (operation.CsrImmediate op) =
    operand.Register ∷ operand.Csr ∷ operand.Value ∷ []
shapes_of_operation (operation.LoadReserved order) = operand.Register ∷ operand.Base ∷ []
shapes_of_operation (operation.Atomic op order) =
    operand.Register ∷ operand.Register ∷ operand.Base ∷ []

-- the operands of each pseudo-instruction of one word
abbrev pub shapes_of_pseudo : Pseudo → List Operand
shapes_of_pseudo pseudo.Nop = []
shapes_of_pseudo pseudo.Mv = operand.Register ∷ operand.Register ∷ []
shapes_of_pseudo pseudo.Not = operand.Register ∷ operand.Register ∷ []
shapes_of_pseudo pseudo.Neg = operand.Register ∷ operand.Register ∷ []
shapes_of_pseudo pseudo.Seqz = operand.Register ∷ operand.Register ∷ []
shapes_of_pseudo pseudo.Snez = operand.Register ∷ operand.Register ∷ []
shapes_of_pseudo pseudo.Beqz = operand.Register ∷ operand.Value ∷ []
shapes_of_pseudo pseudo.Bnez = operand.Register ∷ operand.Value ∷ []
shapes_of_pseudo pseudo.J = operand.Value ∷ []
shapes_of_pseudo pseudo.Jr = operand.Register ∷ []
shapes_of_pseudo pseudo.Ret = []
shapes_of_pseudo pseudo.Csrr = operand.Register ∷ operand.Csr ∷ []
shapes_of_pseudo pseudo.Csrw = operand.Csr ∷ operand.Register ∷ []

-- the operands of each statement that makes instructions
abbrev pub shapes_of_code : Code → List Operand
shapes_of_code code.Li = operand.Register ∷ operand.Value ∷ []
shapes_of_code code.La = operand.Register ∷ operand.Value ∷ []
shapes_of_code code.Call = operand.Value ∷ []
shapes_of_code (code.Pseudo pseudo) = shapes_of_pseudo pseudo
shapes_of_code (code.Instruction operation) = shapes_of_operation operation

-- the operands of a statement of a kind
unfoldable pub grammar_at : Keyword → List Lexeme → Result (Unit {0}) Fault
grammar_at keyword.Org ts = operands_at (operand.Value ∷ []) ts
grammar_at keyword.Space ts = operands_at (operand.Value ∷ []) ts
grammar_at keyword.Balign ts = operands_at (operand.Value ∷ []) ts
grammar_at keyword.Equ ts = operands_at (operand.Name ∷ operand.Value ∷ []) ts
grammar_at (keyword.List width) ts = expressions_at (parts ts)
grammar_at keyword.Ascii ts = operands_at (operand.Text ∷ []) ts
grammar_at keyword.Asciz ts = operands_at (operand.Text ∷ []) ts
grammar_at keyword.Text ts = operands_at [] ts
grammar_at keyword.Global ts = operands_at (operand.Name ∷ []) ts
grammar_at (keyword.Code kind) ts = operands_at (shapes_of_code kind) ts
