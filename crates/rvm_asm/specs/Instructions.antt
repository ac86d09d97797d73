-- The instruction of a line that stands at a place, by the shape of its operands; and the words of
-- the pseudo-instructions (Unprivileged ISA, "RISC-V Assembly Programmer's Handbook").
use Rattle.std.specs.Prelude.{ℕ, ℤ, pos, negsuc, ◌%◌, ◌^◌, ◌||◌, ◌==◌, if◌then◌else◌, List, ◌++◌}
use Rattle.std.specs.Prelude.{None, Result, Ok}
use Rattle.std.specs.Int.{to_le_bytes, w32}
use Rattle.rvm_text.specs.Lexemes.{Lexeme}
use Rattle.rvm_word.specs.Word.{signed_value}
use Rattle.rvm_isa.specs.declared.ins.Ins.{Ins}
use Rattle.rvm_isa.specs.declared.ins.Ins.TheVariants as ins
use Rattle.rvm_isa.specs.Words.{word_of}
use Rattle.rvm_asm.specs.declared.faults.Fault.{Fault}
use Rattle.rvm_asm.specs.declared.operations.Operation.{Operation}
use Rattle.rvm_asm.specs.declared.operations.Operation.TheVariants as operation
use Rattle.rvm_asm.specs.declared.pseudo.Pseudo.{Pseudo}
use Rattle.rvm_asm.specs.declared.pseudo.Pseudo.TheVariants as pseudo
use Rattle.rvm_asm.specs.declared.instructions.Words.{Words}
use Rattle.rvm_asm.specs.declared.instructions.Words.TheVariants as words
use Rattle.rvm_asm.specs.Csrs.{csr_comma, last_csr}
use Rattle.rvm_asm.specs.Operands.{distance, last_target, upper_at, jump_at, branch_at, address_at}
use Rattle.rvm_asm.specs.Operands.{immediate_at, shift_at, registers_at, two_registers_at}
use Rattle.rvm_asm.specs.Operands.{csr_register_at, csr_immediate_at, load_reserved_at, atomic_at}
use Rattle.rvm_asm.specs.Operations.{upper_ins, branch_ins, load_ins, store_ins, immediate_ins}
use Rattle.rvm_asm.specs.Operations.{shift_ins, register_ins, whole_ins, csr_ins}
use Rattle.rvm_asm.specs.Operations.{csr_immediate_ins, atomic_ins}
use Rattle.rvm_asm.specs.Reading.{◌>>=◌, end_at, register_comma, last_register}
use Rattle.rvm_asm.specs.Values.{Names, last_value, fits_signed, high, low}

-- the instruction of a name with its operands
abbrev pub instruction_at : Names → (place : ℕ) → Operation → List Lexeme → Result Ins Fault
instruction_at names place operation.Jump ts = jump_at names place ts >>= λ o. Ok (ins.Jal o.0 o.1)
instruction_at names place (operation.Upper op) ts =
    upper_at names ts >>= λ o. Ok (upper_ins op o.0 o.1)
instruction_at names place (operation.Branch op) ts =
    branch_at names place ts >>= λ o. Ok (branch_ins op o.0 o.1 o.2)
instruction_at names place (operation.Load op) ts =
    address_at names ts >>= λ o. Ok (load_ins op o.0 o.1 o.2)
instruction_at names place (operation.Store op) ts =
    address_at names ts >>= λ o. Ok (store_ins op o.1 o.0 o.2)
instruction_at names place (operation.Immediate op) ts =
    immediate_at names ts >>= λ o. Ok (immediate_ins op o.0 o.1 o.2)
instruction_at names place (operation.Shift op) ts =
    shift_at names ts >>= λ o. Ok (shift_ins op o.0 o.1 o.2)
instruction_at names place (operation.Register op) ts =
    registers_at ts >>= λ o. Ok (register_ins op o.0 o.1 o.2)
instruction_at names place (operation.Whole op) ts = end_at ts >>= λ _. Ok (whole_ins op)
instruction_at names place (operation.Csr op) ts =
    csr_register_at ts >>= λ o. Ok (csr_ins op o.0 o.2 o.1)
instruction_at names place (operation.CsrImmediate op) ts =
    csr_immediate_at names ts >>= λ o. Ok (csr_immediate_ins op o.0 o.2 o.1)
instruction_at names place (operation.LoadReserved order) ts =
    load_reserved_at ts >>= λ o. Ok (ins.LrW o.0 o.1 order.aq order.rl)
instruction_at names place (operation.Atomic op order) ts =
    atomic_at ts >>= λ o. Ok (atomic_ins op order o.0 o.2 o.1)

-- no name has a value
abbrev pub no_names : Names
no_names name = None

-- the instruction of a pseudo-instruction of one word
abbrev pub pseudo_at : Names → (place : ℕ) → Pseudo → List Lexeme → Result Ins Fault
pseudo_at names place pseudo.Nop ts = end_at ts >>= λ _. Ok (ins.Addi 0 0 (pos 0))
pseudo_at names place pseudo.Mv ts = two_registers_at ts >>= λ o. Ok (ins.Addi o.0 o.1 (pos 0))
pseudo_at names place pseudo.Not ts = two_registers_at ts >>= λ o. Ok (ins.Xori o.0 o.1 (negsuc 0))
pseudo_at names place pseudo.Neg ts = two_registers_at ts >>= λ o. Ok (ins.Sub o.0 0 o.1)
pseudo_at names place pseudo.Seqz ts = two_registers_at ts >>= λ o. Ok (ins.Sltiu o.0 o.1 (pos 1))
pseudo_at names place pseudo.Snez ts = two_registers_at ts >>= λ o. Ok (ins.Sltu o.0 0 o.1)
pseudo_at names place pseudo.Beqz ts =
    register_comma ts >>= λ r. last_target names 13 place r.1 >>= λ offset.
    Ok (ins.Beq r.0 0 offset)
pseudo_at names place pseudo.Bnez ts =
    register_comma ts >>= λ r. last_target names 13 place r.1 >>= λ offset.
    Ok (ins.Bne r.0 0 offset)
pseudo_at names place pseudo.J ts =
    last_target names 21 place ts >>= λ offset. Ok (ins.Jal 0 offset)
pseudo_at names place pseudo.Jr ts = last_register ts >>= λ rs. Ok (ins.Jalr 0 rs (pos 0))
pseudo_at names place pseudo.Ret ts = end_at ts >>= λ _. Ok (ins.Jalr 0 1 (pos 0))
pseudo_at names place pseudo.Csrr ts =
    register_comma ts >>= λ rd. last_csr rd.1 >>= λ csr. Ok (ins.Csrrs rd.0 0 csr)
pseudo_at names place pseudo.Csrw ts =
    csr_comma ts >>= λ csr. last_register csr.1 >>= λ rs. Ok (ins.Csrrw 0 rs csr.0)

-- the signed low 12 bits of a value
abbrev pub low_field : ℕ → ℤ
low_field v = signed_value 12 (v % 2 ^ 12)

-- li: rd, value
unfoldable pub li_at : Names → List Lexeme → Result (ℕ × ℕ) Fault
li_at names ts = register_comma ts >>= λ rd. last_value names rd.1 >>= λ v. Ok (rd.0, v)

-- the words of li: addi from zero if the value is a signed number of 12 bits, else lui, and addi if the lower 12 bits
-- are not zero
abbrev pub li_words : (rd value : ℕ) → Words
li_words rd v =
    if fits_signed 12 v then words.One (word_of (ins.Addi rd 0 (low_field v)))
    else (if low v == 0 then words.One (word_of (ins.Lui rd (high v)))
    else words.Two (word_of (ins.Lui rd (high v))) (word_of (ins.Addi rd rd (low_field v))))

-- how many bytes they have
abbrev pub li_size : (value : ℕ) → ℕ
li_size v = if fits_signed 12 v || low v == 0 then 4 else 8

-- la: rd := target, by auipc and addi
abbrev pub la_at : Names → (place : ℕ) → List Lexeme → Result Words Fault
la_at names place ts =
    li_at names ts >>= λ o.
    Ok (words.Two (word_of (ins.Auipc o.0 (high (distance o.1 place))))
    (word_of (ins.Addi o.0 o.0 (low_field (distance o.1 place)))))

-- call: to the target with the link in ra, by auipc and jalr
abbrev pub call_at : Names → (place : ℕ) → List Lexeme → Result Words Fault
call_at names place ts =
    last_value names ts >>= λ t.
    Ok (words.Two (word_of (ins.Auipc 1 (high (distance t place))))
    (word_of (ins.Jalr 1 1 (low_field (distance t place)))))

-- the bytes of words, each with its lowest byte first
abbrev pub bytes_of : Words → List ℕ
bytes_of (words.One a) = to_le_bytes w32 a
bytes_of (words.Two a b) = to_le_bytes w32 a ++ to_le_bytes w32 b
