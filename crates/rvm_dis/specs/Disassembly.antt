-- The text of a word that stands at an address: a table from instructions to their mnemonics and
-- the shapes of their operands (Unprivileged ISA, "RV32/64G Instruction Set Listings"; Privileged
-- ISA, "RISC-V Privileged Instruction Set Listings").
use Rattle.std.specs.Prelude.{ℕ, ◌++◌, List, Option, Some, None, codes}
use Rattle.rvm_isa.specs.declared.ins.Ins.{Ins}
use Rattle.rvm_isa.specs.declared.ins.Ins.TheVariants.{Lui, Auipc, Jal, Jalr, Beq, Bne, Blt, Bge}
use Rattle.rvm_isa.specs.declared.ins.Ins.TheVariants.{Bltu, Bgeu, Lb, Lh, Lw, Lbu, Lhu, Sb, Sh}
use Rattle.rvm_isa.specs.declared.ins.Ins.TheVariants.{Sw, Addi, Slti, Sltiu, Xori, Ori, Andi}
use Rattle.rvm_isa.specs.declared.ins.Ins.TheVariants.{Slli, Srli, Srai, Add, Sub, Sll, Slt, Sltu}
use Rattle.rvm_isa.specs.declared.ins.Ins.TheVariants.{Xor, Srl, Sra, Or, And, Mul, Mulh, Mulhsu}
use Rattle.rvm_isa.specs.declared.ins.Ins.TheVariants.{Mulhu, Div, Divu, Rem, Remu, Fence, FenceI}
use Rattle.rvm_isa.specs.declared.ins.Ins.TheVariants.{Ecall, Ebreak, Mret, Wfi, Csrrw, Csrrs}
use Rattle.rvm_isa.specs.declared.ins.Ins.TheVariants.{Csrrc, Csrrwi, Csrrsi, Csrrci, LrW, ScW}
use Rattle.rvm_isa.specs.declared.ins.Ins.TheVariants.{AmoswapW, AmoaddW, AmoxorW, AmoandW, AmoorW}
use Rattle.rvm_isa.specs.declared.ins.Ins.TheVariants.{AmominW, AmomaxW, AmominuW, AmomaxuW}
use Rattle.rvm_isa.specs.Table.{decoded}
use Rattle.rvm_isa.specs.Words.{word_of}
use Rattle.rvm_dis.specs.Pieces.{listed}
use Rattle.rvm_dis.specs.Texts.{upper_text, jump_text, branch_text, access_text, immediate_text, shift_text, registers_text, csr_text, csr_immediate_text, load_reserved_text, atomic_text, word_text, fence_text}

-- the text of an instruction; a fence has one only if it orders all accesses and has the fields that the assembler
-- gives it, else its word is written as data
unfoldable pub text_of : (address : ℕ) → Ins → List ℕ
text_of address (Lui rd imm) = upper_text (codes "lui") rd imm
text_of address (Auipc rd imm) = upper_text (codes "auipc") rd imm
text_of address (Jal rd offset) = jump_text (codes "jal") address rd offset
text_of address (Jalr rd rs1 imm) = access_text (codes "jalr") rd rs1 imm
text_of address (Beq rs1 rs2 offset) = branch_text (codes "beq") address rs1 rs2 offset
text_of address (Bne rs1 rs2 offset) = branch_text (codes "bne") address rs1 rs2 offset
text_of address (Blt rs1 rs2 offset) = branch_text (codes "blt") address rs1 rs2 offset
text_of address (Bge rs1 rs2 offset) = branch_text (codes "bge") address rs1 rs2 offset
text_of address (Bltu rs1 rs2 offset) = branch_text (codes "bltu") address rs1 rs2 offset
text_of address (Bgeu rs1 rs2 offset) = branch_text (codes "bgeu") address rs1 rs2 offset
text_of address (Lb rd rs1 imm) = access_text (codes "lb") rd rs1 imm
text_of address (Lh rd rs1 imm) = access_text (codes "lh") rd rs1 imm
text_of address (Lw rd rs1 imm) = access_text (codes "lw") rd rs1 imm
text_of address (Lbu rd rs1 imm) = access_text (codes "lbu") rd rs1 imm
text_of address (Lhu rd rs1 imm) = access_text (codes "lhu") rd rs1 imm
text_of address (Sb rs1 rs2 imm) = access_text (codes "sb") rs2 rs1 imm
text_of address (Sh rs1 rs2 imm) = access_text (codes "sh") rs2 rs1 imm
text_of address (Sw rs1 rs2 imm) = access_text (codes "sw") rs2 rs1 imm
text_of address (Addi rd rs1 imm) = immediate_text (codes "addi") rd rs1 imm
text_of address (Slti rd rs1 imm) = immediate_text (codes "slti") rd rs1 imm
text_of address (Sltiu rd rs1 imm) = immediate_text (codes "sltiu") rd rs1 imm
text_of address (Xori rd rs1 imm) = immediate_text (codes "xori") rd rs1 imm
text_of address (Ori rd rs1 imm) = immediate_text (codes "ori") rd rs1 imm
text_of address (Andi rd rs1 imm) = immediate_text (codes "andi") rd rs1 imm
text_of address (Slli rd rs1 amount) = shift_text (codes "slli") rd rs1 amount
text_of address (Srli rd rs1 amount) = shift_text (codes "srli") rd rs1 amount
text_of address (Srai rd rs1 amount) = shift_text (codes "srai") rd rs1 amount
text_of address (Add rd rs1 rs2) = registers_text (codes "add") rd rs1 rs2
text_of address (Sub rd rs1 rs2) = registers_text (codes "sub") rd rs1 rs2
text_of address (Sll rd rs1 rs2) = registers_text (codes "sll") rd rs1 rs2
text_of address (Slt rd rs1 rs2) = registers_text (codes "slt") rd rs1 rs2
text_of address (Sltu rd rs1 rs2) = registers_text (codes "sltu") rd rs1 rs2
text_of address (Xor rd rs1 rs2) = registers_text (codes "xor") rd rs1 rs2
text_of address (Srl rd rs1 rs2) = registers_text (codes "srl") rd rs1 rs2
text_of address (Sra rd rs1 rs2) = registers_text (codes "sra") rd rs1 rs2
text_of address (Or rd rs1 rs2) = registers_text (codes "or") rd rs1 rs2
text_of address (And rd rs1 rs2) = registers_text (codes "and") rd rs1 rs2
text_of address (Mul rd rs1 rs2) = registers_text (codes "mul") rd rs1 rs2
text_of address (Mulh rd rs1 rs2) = registers_text (codes "mulh") rd rs1 rs2
text_of address (Mulhsu rd rs1 rs2) = registers_text (codes "mulhsu") rd rs1 rs2
text_of address (Mulhu rd rs1 rs2) = registers_text (codes "mulhu") rd rs1 rs2
text_of address (Div rd rs1 rs2) = registers_text (codes "div") rd rs1 rs2
text_of address (Divu rd rs1 rs2) = registers_text (codes "divu") rd rs1 rs2
text_of address (Rem rd rs1 rs2) = registers_text (codes "rem") rd rs1 rs2
text_of address (Remu rd rs1 rs2) = registers_text (codes "remu") rd rs1 rs2
text_of address (Fence rd rs1 imm) =
    fence_text (codes "fence") 0x0FF0000F (word_of (Fence rd rs1 imm))
text_of address (FenceI rd rs1 imm) =
    fence_text (codes "fence.i") 0x0000100F (word_of (FenceI rd rs1 imm))
text_of address Ecall = codes "ecall"
text_of address Ebreak = codes "ebreak"
text_of address Mret = codes "mret"
text_of address Wfi = codes "wfi"
text_of address (Csrrw rd rs1 csr) = csr_text (codes "csrrw") rd rs1 csr
text_of address (Csrrs rd rs1 csr) = csr_text (codes "csrrs") rd rs1 csr
text_of address (Csrrc rd rs1 csr) = csr_text (codes "csrrc") rd rs1 csr
text_of address (Csrrwi rd imm csr) = csr_immediate_text (codes "csrrwi") rd imm csr
text_of address (Csrrsi rd imm csr) = csr_immediate_text (codes "csrrsi") rd imm csr
text_of address (Csrrci rd imm csr) = csr_immediate_text (codes "csrrci") rd imm csr
text_of address (LrW rd rs1 aq rl) = load_reserved_text (codes "lr.w") rd rs1 aq rl
text_of address (ScW rd rs1 rs2 aq rl) = atomic_text (codes "sc.w") rd rs1 rs2 aq rl
text_of address (AmoswapW rd rs1 rs2 aq rl) = atomic_text (codes "amoswap.w") rd rs1 rs2 aq rl
text_of address (AmoaddW rd rs1 rs2 aq rl) = atomic_text (codes "amoadd.w") rd rs1 rs2 aq rl
text_of address (AmoxorW rd rs1 rs2 aq rl) = atomic_text (codes "amoxor.w") rd rs1 rs2 aq rl
text_of address (AmoandW rd rs1 rs2 aq rl) = atomic_text (codes "amoand.w") rd rs1 rs2 aq rl
text_of address (AmoorW rd rs1 rs2 aq rl) = atomic_text (codes "amoor.w") rd rs1 rs2 aq rl
text_of address (AmominW rd rs1 rs2 aq rl) = atomic_text (codes "amomin.w") rd rs1 rs2 aq rl
text_of address (AmomaxW rd rs1 rs2 aq rl) = atomic_text (codes "amomax.w") rd rs1 rs2 aq rl
text_of address (AmominuW rd rs1 rs2 aq rl) = atomic_text (codes "amominu.w") rd rs1 rs2 aq rl
text_of address (AmomaxuW rd rs1 rs2 aq rl) = atomic_text (codes "amomaxu.w") rd rs1 rs2 aq rl

-- the text of the instruction that a word is decoded as, or of a word that is none
abbrev pub text_of_decoded : (address word : ℕ) → Option Ins → List ℕ
text_of_decoded address word None = word_text word
text_of_decoded address word (Some ins) = text_of address ins

-- the text of a word
abbrev pub text_at : (address word : ℕ) → List ℕ
text_at address word = text_of_decoded address word (decoded word)

-- the line of a word in a listing
abbrev pub line_at : (address word : ℕ) → List ℕ
line_at address word = listed address word ++ text_at address word
