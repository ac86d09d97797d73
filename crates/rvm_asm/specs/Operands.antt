-- The operands of instructions, by their shape, each in its range. A place is where the
-- instruction stands; a target is reached by its distance from there.
use Rattle.std.specs.Prelude.{ℕ, ℤ, ◌+◌, ◌-◌, ◌%◌, ◌^◌, ◌&&◌, ◌==◌, nat_lt, List, Result, Ok}
use Rattle.rvm_text.specs.Lexemes.{Lexeme}
use Rattle.rvm_word.specs.Word.{signed_value}
use Rattle.rvm_asm.specs.declared.faults.Fault.{Fault}
use Rattle.rvm_asm.specs.declared.faults.Fault.TheVariants.{OutOfReach}
use Rattle.rvm_asm.specs.Csrs.{csr_comma}
use Rattle.rvm_asm.specs.Reading.{◌>>=◌, only_if, register_comma, last_register, last_address}
use Rattle.rvm_asm.specs.Values.{Names, value_at, last_value, fits_signed}

-- a value as a signed number of this many bits
abbrev pub signed_field : (bits value : ℕ) → Result ℤ Fault
signed_field bits value =
    only_if OutOfReach (fits_signed bits value) (signed_value bits (value % 2 ^ bits))

-- a value below a limit
abbrev pub below : (limit value : ℕ) → Result ℕ Fault
below limit value = only_if OutOfReach (nat_lt value limit) value

-- how far a target is from a place, modulo 2 ^ 32
abbrev pub distance : (target place : ℕ) → ℕ
distance target place = (target + 2 ^ 32 - place % 2 ^ 32) % 2 ^ 32

-- an even distance as a signed number of this many bits
abbrev pub offset_field : (bits distance : ℕ) → Result ℤ Fault
offset_field bits distance =
    only_if OutOfReach (distance % 2 == 0 && fits_signed bits distance)
    (signed_value bits (distance % 2 ^ bits))

-- a target, and nothing after it
unfoldable pub last_target : Names → (bits place : ℕ) → List Lexeme → Result ℤ Fault
last_target names bits place ts = last_value names ts >>= λ t. offset_field bits (distance t place)

-- an immediate of 12 bits, and nothing after it
unfoldable pub last_immediate : Names → List Lexeme → Result ℤ Fault
last_immediate names ts = last_value names ts >>= signed_field 12

-- a value below a limit, and nothing after it
unfoldable pub last_below : Names → (limit : ℕ) → List Lexeme → Result ℕ Fault
last_below names limit ts = last_value names ts >>= below limit

-- rd, upper bits
abbrev pub upper_at : Names → List Lexeme → Result (ℕ × ℕ) Fault
upper_at names ts =
    register_comma ts >>= λ rd. last_below names (2 ^ 20) rd.1 >>= λ imm. Ok (rd.0, imm)

-- rd, target
abbrev pub jump_at : Names → ℕ → List Lexeme → Result (ℕ × ℤ) Fault
jump_at names place ts =
    register_comma ts >>= λ rd. last_target names 21 place rd.1 >>= λ offset. Ok (rd.0, offset)

-- rs1, rs2, target
abbrev pub branch_at : Names → ℕ → List Lexeme → Result (ℕ × ℕ × ℤ) Fault
branch_at names place ts =
    register_comma ts >>= λ rs1. register_comma rs1.1 >>= λ rs2.
    last_target names 13 place rs2.1 >>= λ offset. Ok (rs1.0, rs2.0, offset)

-- a register, immediate(register)
abbrev pub address_at : Names → List Lexeme → Result (ℕ × ℕ × ℤ) Fault
address_at names ts =
    register_comma ts >>= λ r. value_at names r.1 >>= λ v. signed_field 12 v.0 >>= λ imm.
    last_address v.1 >>= λ rs1. Ok (r.0, rs1, imm)

-- rd, rs1, immediate
abbrev pub immediate_at : Names → List Lexeme → Result (ℕ × ℕ × ℤ) Fault
immediate_at names ts =
    register_comma ts >>= λ rd. register_comma rd.1 >>= λ rs1.
    last_immediate names rs1.1 >>= λ imm. Ok (rd.0, rs1.0, imm)

-- rd, rs1, amount
abbrev pub shift_at : Names → List Lexeme → Result (ℕ × ℕ × ℕ) Fault
shift_at names ts =
    register_comma ts >>= λ rd. register_comma rd.1 >>= λ rs1.
    last_below names 32 rs1.1 >>= λ amount. Ok (rd.0, rs1.0, amount)

-- rd, rs1, rs2
abbrev pub registers_at : List Lexeme → Result (ℕ × ℕ × ℕ) Fault
registers_at ts =
    register_comma ts >>= λ rd. register_comma rd.1 >>= λ rs1.
    last_register rs1.1 >>= λ rs2. Ok (rd.0, rs1.0, rs2)

-- a register, a register
abbrev pub two_registers_at : List Lexeme → Result (ℕ × ℕ) Fault
two_registers_at ts = register_comma ts >>= λ rd. last_register rd.1 >>= λ rs. Ok (rd.0, rs)

-- rd, csr, rs1
abbrev pub csr_register_at : List Lexeme → Result (ℕ × ℕ × ℕ) Fault
csr_register_at ts =
    register_comma ts >>= λ rd. csr_comma rd.1 >>= λ csr.
    last_register csr.1 >>= λ rs1. Ok (rd.0, csr.0, rs1)

-- rd, csr, immediate below 32
abbrev pub csr_immediate_at : Names → List Lexeme → Result (ℕ × ℕ × ℕ) Fault
csr_immediate_at names ts =
    register_comma ts >>= λ rd. csr_comma rd.1 >>= λ csr.
    last_below names 32 csr.1 >>= λ imm. Ok (rd.0, csr.0, imm)

-- rd, (rs1)
abbrev pub load_reserved_at : List Lexeme → Result (ℕ × ℕ) Fault
load_reserved_at ts = register_comma ts >>= λ rd. last_address rd.1 >>= λ rs1. Ok (rd.0, rs1)

-- rd, rs2, (rs1)
abbrev pub atomic_at : List Lexeme → Result (ℕ × ℕ × ℕ) Fault
atomic_at ts =
    register_comma ts >>= λ rd. register_comma rd.1 >>= λ rs2.
    last_address rs2.1 >>= λ rs1. Ok (rd.0, rs2.0, rs1)
