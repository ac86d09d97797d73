-- The instructions by the shape of their operands, and their names (Unprivileged ISA, "RV32/64G
-- Instruction Set Listings"; for mret and wfi Privileged ISA, "RISC-V Privileged Instruction Set
-- Listings").
use Rattle.std.specs.Prelude.{ℕ, ℤ, pos, Bool, true, false, ◌-◌, if◌then◌else◌, List, [], ◌∷◌}
use Rattle.std.specs.Prelude.{length, take, Option, Some, None, option_map, codes, nat_eq}
use Rattle.std.specs.List.{ends_with}
use Rattle.std.specs.Option.{option_or}
use Rattle.std.specs.Str.{bytes_eq}
use Rattle.rvm_isa.specs.declared.ins.Ins.{Ins}
use Rattle.rvm_isa.specs.declared.ins.Ins.TheVariants as ins
use Rattle.rvm_asm.specs.Words.{named}
use Rattle.rvm_asm.specs.declared.operations.Operation.{Operation}
use Rattle.rvm_asm.specs.declared.operations.Operation.TheVariants as operation
use Rattle.rvm_asm.specs.declared.operations.Ordering.{Ordering}
use Rattle.rvm_asm.specs.declared.operations.Upper.{Upper}
use Rattle.rvm_asm.specs.declared.operations.Upper.TheVariants as upper
use Rattle.rvm_asm.specs.declared.operations.Branch.{Branch}
use Rattle.rvm_asm.specs.declared.operations.Branch.TheVariants as branch
use Rattle.rvm_asm.specs.declared.operations.Load.{Load}
use Rattle.rvm_asm.specs.declared.operations.Load.TheVariants as load
use Rattle.rvm_asm.specs.declared.operations.Store.{Store}
use Rattle.rvm_asm.specs.declared.operations.Store.TheVariants as store
use Rattle.rvm_asm.specs.declared.operations.Immediate.{Immediate}
use Rattle.rvm_asm.specs.declared.operations.Immediate.TheVariants as immediate
use Rattle.rvm_asm.specs.declared.operations.Shift.{Shift}
use Rattle.rvm_asm.specs.declared.operations.Shift.TheVariants as shift
use Rattle.rvm_asm.specs.declared.operations.Register.{Register}
use Rattle.rvm_asm.specs.declared.operations.Register.TheVariants as register
use Rattle.rvm_asm.specs.declared.operations.Whole.{Whole}
use Rattle.rvm_asm.specs.declared.operations.Whole.TheVariants as whole
use Rattle.rvm_asm.specs.declared.operations.Csr.{Csr}
use Rattle.rvm_asm.specs.declared.operations.Csr.TheVariants as csr
use Rattle.rvm_asm.specs.declared.operations.CsrImmediate.{CsrImmediate}
use Rattle.rvm_asm.specs.declared.operations.CsrImmediate.TheVariants as csr_immediate
use Rattle.rvm_asm.specs.declared.operations.Atomic.{Atomic}
use Rattle.rvm_asm.specs.declared.operations.Atomic.TheVariants as atomic

-- the instructions but the atomic ones
unfoldable pub operations : List (List ℕ × Operation)
operations =
    (codes "jal", operation.Jump) ∷
    (codes "lui", operation.Upper upper.Lui) ∷
    (codes "auipc", operation.Upper upper.Auipc) ∷
    (codes "beq", operation.Branch branch.Beq) ∷
    (codes "bne", operation.Branch branch.Bne) ∷
    (codes "blt", operation.Branch branch.Blt) ∷
    (codes "bge", operation.Branch branch.Bge) ∷
    (codes "bltu", operation.Branch branch.Bltu) ∷
    (codes "bgeu", operation.Branch branch.Bgeu) ∷
    (codes "jalr", operation.Load load.Jalr) ∷
    (codes "lb", operation.Load load.Lb) ∷
    (codes "lh", operation.Load load.Lh) ∷
    (codes "lw", operation.Load load.Lw) ∷
    (codes "lbu", operation.Load load.Lbu) ∷
    (codes "lhu", operation.Load load.Lhu) ∷
    (codes "sb", operation.Store store.Sb) ∷
    (codes "sh", operation.Store store.Sh) ∷
    (codes "sw", operation.Store store.Sw) ∷
    (codes "addi", operation.Immediate immediate.Addi) ∷
    (codes "slti", operation.Immediate immediate.Slti) ∷
    (codes "sltiu", operation.Immediate immediate.Sltiu) ∷
    (codes "xori", operation.Immediate immediate.Xori) ∷
    (codes "ori", operation.Immediate immediate.Ori) ∷
    (codes "andi", operation.Immediate immediate.Andi) ∷
    (codes "slli", operation.Shift shift.Slli) ∷
    (codes "srli", operation.Shift shift.Srli) ∷
    (codes "srai", operation.Shift shift.Srai) ∷
    (codes "add", operation.Register register.Add) ∷
    (codes "sub", operation.Register register.Sub) ∷
    (codes "sll", operation.Register register.Sll) ∷
    (codes "slt", operation.Register register.Slt) ∷
    (codes "sltu", operation.Register register.Sltu) ∷
    (codes "xor", operation.Register register.Xor) ∷
    (codes "srl", operation.Register register.Srl) ∷
    (codes "sra", operation.Register register.Sra) ∷
    (codes "or", operation.Register register.Or) ∷
    (codes "and", operation.Register register.And) ∷
    (codes "mul", operation.Register register.Mul) ∷
    (codes "mulh", operation.Register register.Mulh) ∷
    (codes "mulhsu", operation.Register register.Mulhsu) ∷
    (codes "mulhu", operation.Register register.Mulhu) ∷
    (codes "div", operation.Register register.Div) ∷
    (codes "divu", operation.Register register.Divu) ∷
    (codes "rem", operation.Register register.Rem) ∷
    (codes "remu", operation.Register register.Remu) ∷
    (codes "fence", operation.Whole whole.Fence) ∷
    (codes "fence.i", operation.Whole whole.FenceI) ∷
    (codes "ecall", operation.Whole whole.Ecall) ∷
    (codes "ebreak", operation.Whole whole.Ebreak) ∷
    (codes "mret", operation.Whole whole.Mret) ∷
    (codes "wfi", operation.Whole whole.Wfi) ∷
    (codes "csrrw", operation.Csr csr.Csrrw) ∷
    (codes "csrrs", operation.Csr csr.Csrrs) ∷
    (codes "csrrc", operation.Csr csr.Csrrc) ∷
    (codes "csrrwi", operation.CsrImmediate csr_immediate.Csrrwi) ∷
    (codes "csrrsi", operation.CsrImmediate csr_immediate.Csrrsi) ∷
    (codes "csrrci", operation.CsrImmediate csr_immediate.Csrrci) ∷
    []

-- the atomic instructions with rd, rs2 and rs1, without their ordering
unfoldable pub atomics : List (List ℕ × Atomic)
atomics =
    (codes "sc.w", atomic.ScW) ∷
    (codes "amoswap.w", atomic.AmoswapW) ∷
    (codes "amoadd.w", atomic.AmoaddW) ∷
    (codes "amoxor.w", atomic.AmoxorW) ∷
    (codes "amoand.w", atomic.AmoandW) ∷
    (codes "amoor.w", atomic.AmoorW) ∷
    (codes "amomin.w", atomic.AmominW) ∷
    (codes "amomax.w", atomic.AmomaxW) ∷
    (codes "amominu.w", atomic.AmominuW) ∷
    (codes "amomaxu.w", atomic.AmomaxuW) ∷
    []

-- whether an atomic instruction acquires and whether it releases
abbrev pub ordering : (aq rl : Bool) → Ordering
ordering aq rl = record { aq = aq; rl = rl }

-- a word without this end, if it has it
abbrev pub without : List ℕ → List ℕ → Option (List ℕ)
without word suffix =
    if ends_with nat_eq word suffix then Some (take (length word - length suffix) word) else None

-- a word without its end .aqrl, .aq or .rl, and the ordering that the end names
abbrev pub ordered : List ℕ → List ℕ × Ordering
ordered word =
    cut (without word (codes ".aqrl")) (ordering true true)
    (cut (without word (codes ".aq")) (ordering true false)
    (cut (without word (codes ".rl")) (ordering false true) (word, ordering false false)))
  where
    cut : Option (List ℕ) → Ordering → List ℕ × Ordering → List ℕ × Ordering
    cut None o other = other
    cut (Some stem) o other = (stem, o)

-- the atomic instruction that a word without its end names
abbrev pub atomic_of : List ℕ × Ordering → Option Operation
atomic_of w =
    if bytes_eq w.0 (codes "lr.w") then Some (operation.LoadReserved w.1)
    else option_map (λ a. operation.Atomic a w.1) (named atomics w.0)

-- the instruction that a word names
unfoldable pub operation_of : List ℕ → Option Operation
operation_of word = option_or (named operations word) (atomic_of (ordered word))

-- the instructions with rd and the upper bits of a word, as instructions
abbrev pub upper_ins : Upper → (rd imm : ℕ) → Ins
upper_ins upper.Lui rd imm = ins.Lui rd imm
upper_ins upper.Auipc rd imm = ins.Auipc rd imm

-- the branches, as instructions
abbrev pub branch_ins : Branch → (rs1 rs2 : ℕ) → (offset : ℤ) → Ins
branch_ins branch.Beq rs1 rs2 offset = ins.Beq rs1 rs2 offset
branch_ins branch.Bne rs1 rs2 offset = ins.Bne rs1 rs2 offset
branch_ins branch.Blt rs1 rs2 offset = ins.Blt rs1 rs2 offset
branch_ins branch.Bge rs1 rs2 offset = ins.Bge rs1 rs2 offset
branch_ins branch.Bltu rs1 rs2 offset = ins.Bltu rs1 rs2 offset
branch_ins branch.Bgeu rs1 rs2 offset = ins.Bgeu rs1 rs2 offset

-- the loads, and jalr, whose operands are the same, as instructions
abbrev pub load_ins : Load → (rd rs1 : ℕ) → (imm : ℤ) → Ins
load_ins load.Jalr rd rs1 imm = ins.Jalr rd rs1 imm
load_ins load.Lb rd rs1 imm = ins.Lb rd rs1 imm
load_ins load.Lh rd rs1 imm = ins.Lh rd rs1 imm
load_ins load.Lw rd rs1 imm = ins.Lw rd rs1 imm
load_ins load.Lbu rd rs1 imm = ins.Lbu rd rs1 imm
load_ins load.Lhu rd rs1 imm = ins.Lhu rd rs1 imm

-- the stores, as instructions
abbrev pub store_ins : Store → (rs1 rs2 : ℕ) → (imm : ℤ) → Ins
store_ins store.Sb rs1 rs2 imm = ins.Sb rs1 rs2 imm
store_ins store.Sh rs1 rs2 imm = ins.Sh rs1 rs2 imm
store_ins store.Sw rs1 rs2 imm = ins.Sw rs1 rs2 imm

-- the instructions with rd, rs1 and a signed immediate, as instructions
abbrev pub immediate_ins : Immediate → (rd rs1 : ℕ) → (imm : ℤ) → Ins
immediate_ins immediate.Addi rd rs1 imm = ins.Addi rd rs1 imm
immediate_ins immediate.Slti rd rs1 imm = ins.Slti rd rs1 imm
immediate_ins immediate.Sltiu rd rs1 imm = ins.Sltiu rd rs1 imm
immediate_ins immediate.Xori rd rs1 imm = ins.Xori rd rs1 imm
immediate_ins immediate.Ori rd rs1 imm = ins.Ori rd rs1 imm
immediate_ins immediate.Andi rd rs1 imm = ins.Andi rd rs1 imm

-- the shifts by an immediate, as instructions
abbrev pub shift_ins : Shift → (rd rs1 amount : ℕ) → Ins
shift_ins shift.Slli rd rs1 amount = ins.Slli rd rs1 amount
shift_ins shift.Srli rd rs1 amount = ins.Srli rd rs1 amount
shift_ins shift.Srai rd rs1 amount = ins.Srai rd rs1 amount

-- the instructions with rd, rs1 and rs2, as instructions
abbrev pub register_ins : Register → (rd rs1 rs2 : ℕ) → Ins
register_ins register.Add rd rs1 rs2 = ins.Add rd rs1 rs2
register_ins register.Sub rd rs1 rs2 = ins.Sub rd rs1 rs2
register_ins register.Sll rd rs1 rs2 = ins.Sll rd rs1 rs2
register_ins register.Slt rd rs1 rs2 = ins.Slt rd rs1 rs2
register_ins register.Sltu rd rs1 rs2 = ins.Sltu rd rs1 rs2
register_ins register.Xor rd rs1 rs2 = ins.Xor rd rs1 rs2
register_ins register.Srl rd rs1 rs2 = ins.Srl rd rs1 rs2
register_ins register.Sra rd rs1 rs2 = ins.Sra rd rs1 rs2
register_ins register.Or rd rs1 rs2 = ins.Or rd rs1 rs2
register_ins register.And rd rs1 rs2 = ins.And rd rs1 rs2
register_ins register.Mul rd rs1 rs2 = ins.Mul rd rs1 rs2
register_ins register.Mulh rd rs1 rs2 = ins.Mulh rd rs1 rs2
register_ins register.Mulhsu rd rs1 rs2 = ins.Mulhsu rd rs1 rs2
register_ins register.Mulhu rd rs1 rs2 = ins.Mulhu rd rs1 rs2
register_ins register.Div rd rs1 rs2 = ins.Div rd rs1 rs2
register_ins register.Divu rd rs1 rs2 = ins.Divu rd rs1 rs2
register_ins register.Rem rd rs1 rs2 = ins.Rem rd rs1 rs2
register_ins register.Remu rd rs1 rs2 = ins.Remu rd rs1 rs2

-- the instructions without operands, as instructions; a fence orders all accesses before it
-- with all after it
abbrev pub whole_ins : Whole → Ins
whole_ins whole.Fence = ins.Fence 0 0 (pos 0xFF)
whole_ins whole.FenceI = ins.FenceI 0 0 (pos 0)
whole_ins whole.Ecall = ins.Ecall
whole_ins whole.Ebreak = ins.Ebreak
whole_ins whole.Mret = ins.Mret
whole_ins whole.Wfi = ins.Wfi

-- the instructions on a control and status register with rs1, as instructions
abbrev pub csr_ins : Csr → (rd rs1 csr : ℕ) → Ins
csr_ins csr.Csrrw rd rs1 csr = ins.Csrrw rd rs1 csr
csr_ins csr.Csrrs rd rs1 csr = ins.Csrrs rd rs1 csr
csr_ins csr.Csrrc rd rs1 csr = ins.Csrrc rd rs1 csr

-- those with an immediate, as instructions
abbrev pub csr_immediate_ins : CsrImmediate → (rd imm csr : ℕ) → Ins
csr_immediate_ins csr_immediate.Csrrwi rd imm csr = ins.Csrrwi rd imm csr
csr_immediate_ins csr_immediate.Csrrsi rd imm csr = ins.Csrrsi rd imm csr
csr_immediate_ins csr_immediate.Csrrci rd imm csr = ins.Csrrci rd imm csr

-- the atomic instructions with rd, rs2 and rs1, as instructions
abbrev pub atomic_ins : Atomic → Ordering → (rd rs1 rs2 : ℕ) → Ins
atomic_ins atomic.ScW o rd rs1 rs2 = ins.ScW rd rs1 rs2 o.aq o.rl
atomic_ins atomic.AmoswapW o rd rs1 rs2 = ins.AmoswapW rd rs1 rs2 o.aq o.rl
atomic_ins atomic.AmoaddW o rd rs1 rs2 = ins.AmoaddW rd rs1 rs2 o.aq o.rl
atomic_ins atomic.AmoxorW o rd rs1 rs2 = ins.AmoxorW rd rs1 rs2 o.aq o.rl
atomic_ins atomic.AmoandW o rd rs1 rs2 = ins.AmoandW rd rs1 rs2 o.aq o.rl
atomic_ins atomic.AmoorW o rd rs1 rs2 = ins.AmoorW rd rs1 rs2 o.aq o.rl
atomic_ins atomic.AmominW o rd rs1 rs2 = ins.AmominW rd rs1 rs2 o.aq o.rl
atomic_ins atomic.AmomaxW o rd rs1 rs2 = ins.AmomaxW rd rs1 rs2 o.aq o.rl
atomic_ins atomic.AmominuW o rd rs1 rs2 = ins.AmominuW rd rs1 rs2 o.aq o.rl
atomic_ins atomic.AmomaxuW o rd rs1 rs2 = ins.AmomaxuW rd rs1 rs2 o.aq o.rl
