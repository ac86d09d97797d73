-- The word of each instruction: the bits of its row, and its fields, each times the weight of its
-- lowest bit.
use Rattle.std.specs.Prelude.{ℕ, ℤ, ◌+◌, ◌*◌, ◌/◌, ◌%◌, ◌^◌, Bool, if◌then◌else◌}
use Rattle.rvm_word.specs.Word.{modulo}
use Rattle.rvm_isa.specs.declared.ins.Ins.{Ins}
use Rattle.rvm_isa.specs.declared.ins.Ins.TheVariants.{Lui, Auipc, Jal, Jalr, Beq, Bne, Blt, Bge}
use Rattle.rvm_isa.specs.declared.ins.Ins.TheVariants.{Bltu, Bgeu, Lb, Lh, Lw, Lbu, Lhu, Sb, Sh}
use Rattle.rvm_isa.specs.declared.ins.Ins.TheVariants.{Sw, Addi, Slti, Sltiu, Xori, Ori, Andi}
use Rattle.rvm_isa.specs.declared.ins.Ins.TheVariants.{Slli, Srli, Srai, Add, Sub, Sll, Slt, Sltu}
use Rattle.rvm_isa.specs.declared.ins.Ins.TheVariants.{Xor, Srl, Sra, Or, And, Mul, Mulh, Mulhsu}
use Rattle.rvm_isa.specs.declared.ins.Ins.TheVariants.{Mulhu, Div, Divu, Rem, Remu, Fence, FenceI}
use Rattle.rvm_isa.specs.declared.ins.Ins.TheVariants.{Ecall, Ebreak, Mret, Wfi, Csrrw, Csrrs}
use Rattle.rvm_isa.specs.declared.ins.Ins.TheVariants.{Csrrc, Csrrwi, Csrrsi, Csrrci, LrW, ScW}
use Rattle.rvm_isa.specs.declared.ins.Ins.TheVariants.{AmoswapW, AmoaddW, AmoxorW, AmoandW, AmoorW}
use Rattle.rvm_isa.specs.declared.ins.Ins.TheVariants.{AmominW, AmomaxW, AmominuW, AmomaxuW}

-- The words of each shape: the bits of the row, and the fields. An immediate is split into the
-- parts that stand together in the word.

-- rd, rs1 and a third field at bit 20: rs2, a shift amount or a CSR
abbrev r_word : (bits rd rs1 third : ℕ) → ℕ
r_word bits rd rs1 third = bits + 2 ^ 7 * rd + 2 ^ 15 * rs1 + 2 ^ 20 * third

-- I: rd, rs1 and a signed immediate
abbrev i_word : (bits rd rs1 : ℕ) → ℤ → ℕ
i_word bits rd rs1 imm = r_word bits rd rs1 (modulo 12 imm)

-- U: rd and the upper bits
abbrev u_word : (bits rd imm : ℕ) → ℕ
u_word bits rd imm = bits + 2 ^ 7 * rd + 2 ^ 12 * imm

-- J: rd and a jump's offset, by its bits
abbrev j_bits_word : (bits rd o : ℕ) → ℕ
j_bits_word bits rd o =
    bits + 2 ^ 7 * rd + 2 ^ 12 * (o / 2 ^ 12 % 2 ^ 8) + 2 ^ 20 * (o / 2 ^ 11 % 2)
    + 2 ^ 21 * (o / 2 % 2 ^ 10) + 2 ^ 31 * (o / 2 ^ 20)

-- J: rd and a jump's signed offset
abbrev j_word : (bits rd : ℕ) → ℤ → ℕ
j_word bits rd offset = j_bits_word bits rd (modulo 21 offset)

-- B: two sources and a branch's offset, by its bits
abbrev b_bits_word : (bits rs1 rs2 o : ℕ) → ℕ
b_bits_word bits rs1 rs2 o =
    bits + 2 ^ 7 * (o / 2 ^ 11 % 2) + 2 ^ 8 * (o / 2 % 2 ^ 4) + 2 ^ 15 * rs1 + 2 ^ 20 * rs2
    + 2 ^ 25 * (o / 2 ^ 5 % 2 ^ 6) + 2 ^ 31 * (o / 2 ^ 12)

-- B: two sources and a branch's signed offset
abbrev b_word : (bits rs1 rs2 : ℕ) → ℤ → ℕ
b_word bits rs1 rs2 offset = b_bits_word bits rs1 rs2 (modulo 13 offset)

-- S: two sources and an immediate, by its bits
abbrev s_bits_word : (bits rs1 rs2 imm : ℕ) → ℕ
s_bits_word bits rs1 rs2 imm =
    bits + 2 ^ 7 * (imm % 2 ^ 5) + 2 ^ 15 * rs1 + 2 ^ 20 * rs2 + 2 ^ 25 * (imm / 2 ^ 5)

-- S: two sources and a signed immediate
abbrev s_word : (bits rs1 rs2 : ℕ) → ℤ → ℕ
s_word bits rs1 rs2 imm = s_bits_word bits rs1 rs2 (modulo 12 imm)

-- an atomic access: a word of three registers with the bits aq and rl
abbrev amo_word : (bits rd rs1 rs2 : ℕ) → (aq rl : Bool) → ℕ
amo_word bits rd rs1 rs2 aq rl =
    r_word bits rd rs1 rs2 + (if rl then 2 ^ 25 else 0) + (if aq then 2 ^ 26 else 0)

-- the word of an instruction
unfoldable pub word_of : Ins → ℕ
word_of (Lui rd imm) = u_word 0x00000037 rd imm
word_of (Auipc rd imm) = u_word 0x00000017 rd imm
word_of (Jal rd offset) = j_word 0x0000006F rd offset
word_of (Jalr rd rs1 imm) = i_word 0x00000067 rd rs1 imm
word_of (Beq rs1 rs2 offset) = b_word 0x00000063 rs1 rs2 offset
word_of (Bne rs1 rs2 offset) = b_word 0x00001063 rs1 rs2 offset
word_of (Blt rs1 rs2 offset) = b_word 0x00004063 rs1 rs2 offset
word_of (Bge rs1 rs2 offset) = b_word 0x00005063 rs1 rs2 offset
word_of (Bltu rs1 rs2 offset) = b_word 0x00006063 rs1 rs2 offset
word_of (Bgeu rs1 rs2 offset) = b_word 0x00007063 rs1 rs2 offset
word_of (Lb rd rs1 imm) = i_word 0x00000003 rd rs1 imm
word_of (Lh rd rs1 imm) = i_word 0x00001003 rd rs1 imm
word_of (Lw rd rs1 imm) = i_word 0x00002003 rd rs1 imm
word_of (Lbu rd rs1 imm) = i_word 0x00004003 rd rs1 imm
word_of (Lhu rd rs1 imm) = i_word 0x00005003 rd rs1 imm
word_of (Sb rs1 rs2 imm) = s_word 0x00000023 rs1 rs2 imm
word_of (Sh rs1 rs2 imm) = s_word 0x00001023 rs1 rs2 imm
word_of (Sw rs1 rs2 imm) = s_word 0x00002023 rs1 rs2 imm
word_of (Addi rd rs1 imm) = i_word 0x00000013 rd rs1 imm
word_of (Slti rd rs1 imm) = i_word 0x00002013 rd rs1 imm
word_of (Sltiu rd rs1 imm) = i_word 0x00003013 rd rs1 imm
word_of (Xori rd rs1 imm) = i_word 0x00004013 rd rs1 imm
word_of (Ori rd rs1 imm) = i_word 0x00006013 rd rs1 imm
word_of (Andi rd rs1 imm) = i_word 0x00007013 rd rs1 imm
word_of (Slli rd rs1 amount) = r_word 0x00001013 rd rs1 amount
word_of (Srli rd rs1 amount) = r_word 0x00005013 rd rs1 amount
word_of (Srai rd rs1 amount) = r_word 0x40005013 rd rs1 amount
word_of (Add rd rs1 rs2) = r_word 0x00000033 rd rs1 rs2
word_of (Sub rd rs1 rs2) = r_word 0x40000033 rd rs1 rs2
word_of (Sll rd rs1 rs2) = r_word 0x00001033 rd rs1 rs2
word_of (Slt rd rs1 rs2) = r_word 0x00002033 rd rs1 rs2
word_of (Sltu rd rs1 rs2) = r_word 0x00003033 rd rs1 rs2
word_of (Xor rd rs1 rs2) = r_word 0x00004033 rd rs1 rs2
word_of (Srl rd rs1 rs2) = r_word 0x00005033 rd rs1 rs2
word_of (Sra rd rs1 rs2) = r_word 0x40005033 rd rs1 rs2
word_of (Or rd rs1 rs2) = r_word 0x00006033 rd rs1 rs2
word_of (And rd rs1 rs2) = r_word 0x00007033 rd rs1 rs2
word_of (Mul rd rs1 rs2) = r_word 0x02000033 rd rs1 rs2
word_of (Mulh rd rs1 rs2) = r_word 0x02001033 rd rs1 rs2
word_of (Mulhsu rd rs1 rs2) = r_word 0x02002033 rd rs1 rs2
word_of (Mulhu rd rs1 rs2) = r_word 0x02003033 rd rs1 rs2
word_of (Div rd rs1 rs2) = r_word 0x02004033 rd rs1 rs2
word_of (Divu rd rs1 rs2) = r_word 0x02005033 rd rs1 rs2
word_of (Rem rd rs1 rs2) = r_word 0x02006033 rd rs1 rs2
word_of (Remu rd rs1 rs2) = r_word 0x02007033 rd rs1 rs2
word_of (Fence rd rs1 imm) = i_word 0x0000000F rd rs1 imm
word_of (FenceI rd rs1 imm) = i_word 0x0000100F rd rs1 imm
word_of Ecall = 0x00000073
word_of Ebreak = 0x00100073
word_of Mret = 0x30200073
word_of Wfi = 0x10500073
word_of (Csrrw rd rs1 csr) = r_word 0x00001073 rd rs1 csr
word_of (Csrrs rd rs1 csr) = r_word 0x00002073 rd rs1 csr
word_of (Csrrc rd rs1 csr) = r_word 0x00003073 rd rs1 csr
word_of (Csrrwi rd imm csr) = r_word 0x00005073 rd imm csr
word_of (Csrrsi rd imm csr) = r_word 0x00006073 rd imm csr
word_of (Csrrci rd imm csr) = r_word 0x00007073 rd imm csr
word_of (LrW rd rs1 aq rl) = amo_word 0x1000202F rd rs1 0 aq rl
word_of (ScW rd rs1 rs2 aq rl) = amo_word 0x1800202F rd rs1 rs2 aq rl
word_of (AmoswapW rd rs1 rs2 aq rl) = amo_word 0x0800202F rd rs1 rs2 aq rl
word_of (AmoaddW rd rs1 rs2 aq rl) = amo_word 0x0000202F rd rs1 rs2 aq rl
word_of (AmoxorW rd rs1 rs2 aq rl) = amo_word 0x2000202F rd rs1 rs2 aq rl
word_of (AmoandW rd rs1 rs2 aq rl) = amo_word 0x6000202F rd rs1 rs2 aq rl
word_of (AmoorW rd rs1 rs2 aq rl) = amo_word 0x4000202F rd rs1 rs2 aq rl
word_of (AmominW rd rs1 rs2 aq rl) = amo_word 0x8000202F rd rs1 rs2 aq rl
word_of (AmomaxW rd rs1 rs2 aq rl) = amo_word 0xA000202F rd rs1 rs2 aq rl
word_of (AmominuW rd rs1 rs2 aq rl) = amo_word 0xC000202F rd rs1 rs2 aq rl
word_of (AmomaxuW rd rs1 rs2 aq rl) = amo_word 0xE000202F rd rs1 rs2 aq rl
