-- The instruction table: each row is a mask, the bits that a word has under it, and the instruction
-- that such a word is, with its fields (Unprivileged ISA, "RV32/64G Instruction Set Listings";
-- for mret and wfi Privileged ISA, "RISC-V Privileged Instruction Set Listings").
use Rattle.std.specs.Prelude.{ℕ, ℤ, Bool, ◌==◌, List, [], ◌∷◌, Option, find, option_map, bit_and}
use Rattle.rvm_isa.specs.Fields.{rd, rs1, rs2, csr, aq, rl, u_bits, i_imm, s_imm, b_offset}
use Rattle.rvm_isa.specs.Fields.{j_offset}
use Rattle.rvm_isa.specs.declared.ins.Ins.{Ins}
use Rattle.rvm_isa.specs.declared.ins.Ins.TheVariants.{Lui, Auipc, Jal, Jalr, Beq, Bne, Blt, Bge}
use Rattle.rvm_isa.specs.declared.ins.Ins.TheVariants.{Bltu, Bgeu, Lb, Lh, Lw, Lbu, Lhu, Sb, Sh}
use Rattle.rvm_isa.specs.declared.ins.Ins.TheVariants.{Sw, Addi, Slti, Sltiu, Xori, Ori, Andi}
use Rattle.rvm_isa.specs.declared.ins.Ins.TheVariants.{Slli, Srli, Srai, Add, Sub, Sll, Slt, Sltu}
use Rattle.rvm_isa.specs.declared.ins.Ins.TheVariants.{Xor, Srl, Sra, Or, And, Mul, Mulh, Mulhsu}
use Rattle.rvm_isa.specs.declared.ins.Ins.TheVariants.{Mulhu, Div, Divu, Rem, Remu, Fence, FenceI}
use Rattle.rvm_isa.specs.declared.ins.Ins.TheVariants.{Ecall, Ebreak, Mret, Wfi, Csrrw, Csrrs}
use Rattle.rvm_isa.specs.declared.ins.Ins.TheVariants.{Csrrc, Csrrwi, Csrrsi, Csrrci, LrW, ScW}
use Rattle.rvm_isa.specs.declared.ins.Ins.TheVariants.{AmoswapW, AmoaddW, AmoxorW, AmoandW, AmoorW}
use Rattle.rvm_isa.specs.declared.ins.Ins.TheVariants.{AmominW, AmomaxW, AmominuW, AmomaxuW}

-- which fields an instruction has, with the instruction that they make
pub data Shape : Type 0 where
  U : (ℕ → ℕ → Ins) → Shape
  J : (ℕ → ℤ → Ins) → Shape
  I : (ℕ → ℕ → ℤ → Ins) → Shape
  B : (ℕ → ℕ → ℤ → Ins) → Shape
  S : (ℕ → ℕ → ℤ → Ins) → Shape
  Shift : (ℕ → ℕ → ℕ → Ins) → Shape
  R : (ℕ → ℕ → ℕ → Ins) → Shape
  Whole : Ins → Shape
  Csr : (ℕ → ℕ → ℕ → Ins) → Shape
  CsrImm : (ℕ → ℕ → ℕ → Ins) → Shape
  Lr : (ℕ → ℕ → Bool → Bool → Ins) → Shape
  Amo : (ℕ → ℕ → ℕ → Bool → Bool → Ins) → Shape

-- the instruction of this shape with the fields of a word
abbrev pub ins_of : Shape → ℕ → Ins
ins_of (U make) w = make (rd w) (u_bits w)
ins_of (J make) w = make (rd w) (j_offset w)
ins_of (I make) w = make (rd w) (rs1 w) (i_imm w)
ins_of (B make) w = make (rs1 w) (rs2 w) (b_offset w)
ins_of (S make) w = make (rs1 w) (rs2 w) (s_imm w)
ins_of (Shift make) w = make (rd w) (rs1 w) (rs2 w)
ins_of (R make) w = make (rd w) (rs1 w) (rs2 w)
ins_of (Whole ins) w = ins
ins_of (Csr make) w = make (rd w) (rs1 w) (csr w)
ins_of (CsrImm make) w = make (rd w) (rs1 w) (csr w)
ins_of (Lr make) w = make (rd w) (rs1 w) (aq w) (rl w)
ins_of (Amo make) w = make (rd w) (rs1 w) (rs2 w) (aq w) (rl w)

-- a row of the table
pub record Row : Type 0 where
  pub mask : ℕ
  pub bits : ℕ
  pub shape : Shape

-- the row with a mask, the bits under it, and a shape
abbrev pub row : ℕ → ℕ → Shape → Row
row mask bits shape = record { mask = mask; bits = bits; shape = shape }

-- all 68 rows
unfoldable pub table : List Row
table =
    row 0x0000007F 0x00000037 (U Lui) ∷
    row 0x0000007F 0x00000017 (U Auipc) ∷
    row 0x0000007F 0x0000006F (J Jal) ∷
    row 0x0000707F 0x00000067 (I Jalr) ∷
    row 0x0000707F 0x00000063 (B Beq) ∷
    row 0x0000707F 0x00001063 (B Bne) ∷
    row 0x0000707F 0x00004063 (B Blt) ∷
    row 0x0000707F 0x00005063 (B Bge) ∷
    row 0x0000707F 0x00006063 (B Bltu) ∷
    row 0x0000707F 0x00007063 (B Bgeu) ∷
    row 0x0000707F 0x00000003 (I Lb) ∷
    row 0x0000707F 0x00001003 (I Lh) ∷
    row 0x0000707F 0x00002003 (I Lw) ∷
    row 0x0000707F 0x00004003 (I Lbu) ∷
    row 0x0000707F 0x00005003 (I Lhu) ∷
    row 0x0000707F 0x00000023 (S Sb) ∷
    row 0x0000707F 0x00001023 (S Sh) ∷
    row 0x0000707F 0x00002023 (S Sw) ∷
    row 0x0000707F 0x00000013 (I Addi) ∷
    row 0x0000707F 0x00002013 (I Slti) ∷
    row 0x0000707F 0x00003013 (I Sltiu) ∷
    row 0x0000707F 0x00004013 (I Xori) ∷
    row 0x0000707F 0x00006013 (I Ori) ∷
    row 0x0000707F 0x00007013 (I Andi) ∷
    row 0xFE00707F 0x00001013 (Shift Slli) ∷
    row 0xFE00707F 0x00005013 (Shift Srli) ∷
    row 0xFE00707F 0x40005013 (Shift Srai) ∷
    row 0xFE00707F 0x00000033 (R Add) ∷
    row 0xFE00707F 0x40000033 (R Sub) ∷
    row 0xFE00707F 0x00001033 (R Sll) ∷
    row 0xFE00707F 0x00002033 (R Slt) ∷
    row 0xFE00707F 0x00003033 (R Sltu) ∷
    row 0xFE00707F 0x00004033 (R Xor) ∷
    row 0xFE00707F 0x00005033 (R Srl) ∷
    row 0xFE00707F 0x40005033 (R Sra) ∷
    row 0xFE00707F 0x00006033 (R Or) ∷
    row 0xFE00707F 0x00007033 (R And) ∷
    row 0xFE00707F 0x02000033 (R Mul) ∷
    row 0xFE00707F 0x02001033 (R Mulh) ∷
    row 0xFE00707F 0x02002033 (R Mulhsu) ∷
    row 0xFE00707F 0x02003033 (R Mulhu) ∷
    row 0xFE00707F 0x02004033 (R Div) ∷
    row 0xFE00707F 0x02005033 (R Divu) ∷
    row 0xFE00707F 0x02006033 (R Rem) ∷
    row 0xFE00707F 0x02007033 (R Remu) ∷
    row 0x0000707F 0x0000000F (I Fence) ∷
    row 0x0000707F 0x0000100F (I FenceI) ∷
    row 0xFFFFFFFF 0x00000073 (Whole Ecall) ∷
    row 0xFFFFFFFF 0x00100073 (Whole Ebreak) ∷
    row 0xFFFFFFFF 0x30200073 (Whole Mret) ∷
    row 0xFFFFFFFF 0x10500073 (Whole Wfi) ∷
    row 0x0000707F 0x00001073 (Csr Csrrw) ∷
    row 0x0000707F 0x00002073 (Csr Csrrs) ∷
    row 0x0000707F 0x00003073 (Csr Csrrc) ∷
    row 0x0000707F 0x00005073 (CsrImm Csrrwi) ∷
    row 0x0000707F 0x00006073 (CsrImm Csrrsi) ∷
    row 0x0000707F 0x00007073 (CsrImm Csrrci) ∷
    row 0xF9F0707F 0x1000202F (Lr LrW) ∷
    row 0xF800707F 0x1800202F (Amo ScW) ∷
    row 0xF800707F 0x0800202F (Amo AmoswapW) ∷
    row 0xF800707F 0x0000202F (Amo AmoaddW) ∷
    row 0xF800707F 0x2000202F (Amo AmoxorW) ∷
    row 0xF800707F 0x6000202F (Amo AmoandW) ∷
    row 0xF800707F 0x4000202F (Amo AmoorW) ∷
    row 0xF800707F 0x8000202F (Amo AmominW) ∷
    row 0xF800707F 0xA000202F (Amo AmomaxW) ∷
    row 0xF800707F 0xC000202F (Amo AmominuW) ∷
    row 0xF800707F 0xE000202F (Amo AmomaxuW) ∷
    []

-- whether a word has a row: its bits under the mask are the row's
abbrev pub has_row : ℕ → Row → Bool
has_row w r = bit_and w r.mask == r.bits

-- the row of a word, if it has one
unfoldable pub row_of : ℕ → Option Row
row_of w = find (has_row w) table

-- the instruction of a word that has a row
unfoldable pub decoded : ℕ → Option Ins
decoded w = option_map (λ r. ins_of r.shape w) (row_of w)
