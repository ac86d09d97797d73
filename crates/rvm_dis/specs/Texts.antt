-- The texts of instructions, by the shape of their operands. Registers have their names in the
-- calling convention (Unprivileged ISA, "RISC-V Assembly Programmer's Handbook").
use Rattle.std.specs.Prelude.{ℕ, ℤ, Bool, ◌==◌, if◌then◌else◌, List, ◌++◌, codes}
use Rattle.std.specs.Fmt.{decimal, signed_decimal}
use Rattle.rvm_text.specs.Registers.{name_of}
use Rattle.rvm_dis.specs.Pieces.{hex, short_hex, comma, target, ordered}

-- rd, upper bits
abbrev pub upper_text : (mnemonic : List ℕ) → (rd imm : ℕ) → List ℕ
upper_text mnemonic rd imm = mnemonic ++ codes " " ++ name_of rd ++ comma ++ short_hex imm

-- rd, target
abbrev pub jump_text : (mnemonic : List ℕ) → (address rd : ℕ) → (offset : ℤ) → List ℕ
jump_text mnemonic address rd offset =
    mnemonic ++ codes " " ++ name_of rd ++ comma ++ hex 8 (target address offset)

-- rs1, rs2, target
abbrev pub branch_text : (mnemonic : List ℕ) → (address rs1 rs2 : ℕ) → (offset : ℤ) → List ℕ
branch_text mnemonic address rs1 rs2 offset =
    mnemonic ++ codes " " ++ name_of rs1 ++ comma ++ name_of rs2 ++ comma
    ++ hex 8 (target address offset)

-- a register, immediate(register): rd of a load and rs2 of a store stand first
abbrev pub access_text : (mnemonic : List ℕ) → (first rs1 : ℕ) → (imm : ℤ) → List ℕ
access_text mnemonic first rs1 imm =
    mnemonic ++ codes " " ++ name_of first ++ comma ++ signed_decimal imm
    ++ codes "(" ++ name_of rs1 ++ codes ")"

-- rd, rs1, immediate
abbrev pub immediate_text : (mnemonic : List ℕ) → (rd rs1 : ℕ) → (imm : ℤ) → List ℕ
immediate_text mnemonic rd rs1 imm =
    mnemonic ++ codes " " ++ name_of rd ++ comma ++ name_of rs1 ++ comma ++ signed_decimal imm

-- rd, rs1, amount
abbrev pub shift_text : (mnemonic : List ℕ) → (rd rs1 amount : ℕ) → List ℕ
shift_text mnemonic rd rs1 amount =
    mnemonic ++ codes " " ++ name_of rd ++ comma ++ name_of rs1 ++ comma ++ decimal amount

-- rd, rs1, rs2
abbrev pub registers_text : (mnemonic : List ℕ) → (rd rs1 rs2 : ℕ) → List ℕ
registers_text mnemonic rd rs1 rs2 =
    mnemonic ++ codes " " ++ name_of rd ++ comma ++ name_of rs1 ++ comma ++ name_of rs2

-- rd, CSR, rs1
abbrev pub csr_text : (mnemonic : List ℕ) → (rd rs1 csr : ℕ) → List ℕ
csr_text mnemonic rd rs1 csr =
    mnemonic ++ codes " " ++ name_of rd ++ comma ++ hex 3 csr ++ comma ++ name_of rs1

-- rd, CSR, immediate
abbrev pub csr_immediate_text : (mnemonic : List ℕ) → (rd imm csr : ℕ) → List ℕ
csr_immediate_text mnemonic rd imm csr =
    mnemonic ++ codes " " ++ name_of rd ++ comma ++ hex 3 csr ++ comma ++ decimal imm

-- rd, (rs1)
abbrev pub load_reserved_text : (mnemonic : List ℕ) → (rd rs1 : ℕ) → (aq rl : Bool) → List ℕ
load_reserved_text mnemonic rd rs1 aq rl =
    ordered mnemonic aq rl ++ codes " " ++ name_of rd ++ codes ", (" ++ name_of rs1
    ++ codes ")"

-- rd, rs2, (rs1)
abbrev pub atomic_text : (mnemonic : List ℕ) → (rd rs1 rs2 : ℕ) → (aq rl : Bool) → List ℕ
atomic_text mnemonic rd rs1 rs2 aq rl =
    ordered mnemonic aq rl ++ codes " " ++ name_of rd ++ comma ++ name_of rs2
    ++ codes ", (" ++ name_of rs1 ++ codes ")"

-- a word as data
abbrev pub word_text : (word : ℕ) → List ℕ
word_text word = codes ".word " ++ hex 8 word

-- the mnemonic, which names one word alone, or any other word as data
abbrev pub fence_text : (mnemonic : List ℕ) → (named word : ℕ) → List ℕ
fence_text mnemonic named word = if word == named then mnemonic else word_text word
