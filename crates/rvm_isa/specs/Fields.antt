-- The fields of an instruction word (Unprivileged ISA, "Base Instruction Formats" and
-- "Immediate Encoding Variants").
use Rattle.std.specs.Prelude.{◌≡◌, ℕ, ℤ, ◌+◌, ◌*◌, ◌/◌, ◌%◌, ◌^◌, Bool, ◌==◌}
use Rattle.rvm_word.specs.Word.{signed_value, modulo}

-- the `width` bits of a word from bit `low` up, as a number
abbrev pub part : (low width : ℕ) → ℕ → ℕ
part low width w = w / 2 ^ low % 2 ^ width

-- FIXED PARTS AND REGISTERS

-- the opcode, bits 6 to 0
abbrev pub opcode : ℕ → ℕ
opcode w = w % 2 ^ 7

-- the function field of three bits, 14 to 12
abbrev pub funct3 : ℕ → ℕ
funct3 w = part 12 3 w

-- the function field of seven bits, 31 to 25
abbrev pub funct7 : ℕ → ℕ
funct7 w = part 25 7 w

-- the function field of an atomic instruction, bits 31 to 27
abbrev pub funct5 : ℕ → ℕ
funct5 w = part 27 5 w

-- the destination register, bits 11 to 7
abbrev pub rd : ℕ → ℕ
rd w = part 7 5 w

-- the first source register, bits 19 to 15
abbrev pub rs1 : ℕ → ℕ
rs1 w = part 15 5 w

-- the second source register, bits 24 to 20
abbrev pub rs2 : ℕ → ℕ
rs2 w = part 20 5 w

-- the number of a CSR, bits 31 to 20
abbrev pub csr : ℕ → ℕ
csr w = part 20 12 w

-- whether an atomic instruction acquires, bit 26
abbrev pub aq : ℕ → Bool
aq w = part 26 1 w == 1

-- whether an atomic instruction releases, bit 25
abbrev pub rl : ℕ → Bool
rl w = part 25 1 w == 1

-- the bits of the immediates: each part times the weight of its lowest bit

-- U: 31 to 12, which is not sign-extended
abbrev pub u_bits : ℕ → ℕ
u_bits w = part 12 20 w

-- I: 31 to 20
abbrev pub i_bits : ℕ → ℕ
i_bits w = part 20 12 w

-- S: bits 4 to 0 stand at 7, bits 11 to 5 at 25
abbrev pub s_bits : ℕ → ℕ
s_bits w = part 7 5 w + 2 ^ 5 * part 25 7 w

-- B: bits 4 to 1 stand at 8, bits 10 to 5 at 25, bit 11 at 7, bit 12 at 31; bit 0 is zero
abbrev pub b_bits : ℕ → ℕ
b_bits w = 2 * part 8 4 w + 2 ^ 5 * part 25 6 w + 2 ^ 11 * part 7 1 w + 2 ^ 12 * part 31 1 w

-- J: bits 10 to 1 stand at 21, bit 11 at 20, bits 19 to 12 at 12, bit 20 at 31; bit 0 is zero
abbrev pub j_bits : ℕ → ℕ
j_bits w = 2 * part 21 10 w + 2 ^ 11 * part 20 1 w + 2 ^ 12 * part 12 8 w + 2 ^ 20 * part 31 1 w

-- the immediates themselves: the topmost bit is the sign

-- I: the immediate, a signed number of 12 bits
abbrev pub i_imm : ℕ → ℤ
i_imm w = signed_value 12 (i_bits w)

-- S: the immediate, a signed number of 12 bits
abbrev pub s_imm : ℕ → ℤ
s_imm w = signed_value 12 (s_bits w)

-- B: a branch's offset, an even signed number of 13 bits
abbrev pub b_offset : ℕ → ℤ
b_offset w = signed_value 13 (b_bits w)

-- J: a jump's offset, an even signed number of 21 bits
abbrev pub j_offset : ℕ → ℤ
j_offset w = signed_value 21 (j_bits w)

-- a whole number is even
abbrev pub IsEven : ℤ → Type 0
IsEven z = modulo 1 z ≡ 0
