-- What each row of the instruction table does. Sources are read before rd is written; values are whole numbers,
-- reduced modulo 2 ^ 32.
use Rattle.std.specs.Prelude.{ℕ, ◌+◌, ◌*◌, ◌%◌, ◌^◌, []}
use Rattle.rvm_word.specs.Word.{signed_value, modulo}
use Rattle.rvm_isa.specs.declared.ins.Ins.{Ins}
use Rattle.rvm_isa.specs.declared.ins.Ins.TheVariants.{Lui, Auipc, Jal, Jalr, Beq, Bne, Blt, Bge, Bltu, Bgeu, Lb, Lh, Lw, Lbu, Lhu, Sb, Sh, Sw, Addi, Slti, Sltiu, Xori, Ori, Andi, Slli, Srli, Srai, Add, Sub, Sll, Slt, Sltu, Xor, Srl, Sra, Or, And, Mul, Mulh, Mulhsu, Mulhu, Div, Divu, Rem, Remu, Fence, FenceI, Ecall, Ebreak, Mret, Wfi, Csrrw, Csrrs, Csrrc, Csrrwi, Csrrsi, Csrrci, LrW, ScW, AmoswapW, AmoaddW, AmoxorW, AmoandW, AmoorW, AmominW, AmomaxW, AmominuW, AmomaxuW}
use Rattle.rvm_csr.specs.declared.cause.Exception.TheVariants.{EnvironmentCall, Breakpoint}
use Rattle.rvm_csr.specs.Traps.{trap_left}
use Rattle.rvm_hart.specs.declared.arithmetic.Operation.TheVariants as op
use Rattle.rvm_hart.specs.declared.jumps.Comparison.TheVariants as test
use Rattle.rvm_hart.specs.declared.atomics.Amo.TheVariants as amo
use Rattle.rvm_hart.specs.declared.csrs.CsrChange.TheVariants as change
use Rattle.rvm_hart.specs.declared.outcome.Written.TheVariants.{Other}
use Rattle.rvm_hart.specs.Machine.{Machine}
use Rattle.rvm_hart.specs.Outcome.{Outcome, Done, Traps, reg, done_with, done}
use Rattle.rvm_hart.specs.Kinds as kind

-- a byte, sign-extended to a word
abbrev pub sign_extended_byte : ℕ → ℕ
sign_extended_byte v = modulo 32 (signed_value 8 v)

-- a half, sign-extended to a word
abbrev pub sign_extended_half : ℕ → ℕ
sign_extended_half v = modulo 32 (signed_value 16 v)

-- a byte or half, zero-extended to a word
abbrev pub zero_extended : ℕ → ℕ
zero_extended v = v

-- MRET: returns from a trap
abbrev pub trap_return : Machine → Outcome
trap_return m = Done (record m { hart = record m.hart { pc = m.hart.csrs.mepc; csrs = trap_left m.hart.csrs } }) [] Other

-- the outcome of an instruction; word is the one that it was decoded from
unfoldable pub effect : (word : ℕ) → Ins → Machine → Outcome
effect w (Lui rd i) m = done_with rd (i * 2 ^ 12) m
effect w (Auipc rd i) m = done_with rd ((m.hart.pc + i * 2 ^ 12) % 2 ^ 32) m
effect w (Jal rd i) m = kind.jump rd (kind.sum m.hart.pc i) m
effect w (Jalr rd rs1 i) m = kind.jump rd (kind.even (kind.sum (reg rs1 m.hart) i)) m
effect w (Beq rs1 rs2 i) m = kind.branch (kind.holds test.Eq (reg rs1 m.hart) (reg rs2 m.hart)) i m
effect w (Bne rs1 rs2 i) m = kind.branch (kind.holds test.Ne (reg rs1 m.hart) (reg rs2 m.hart)) i m
effect w (Blt rs1 rs2 i) m = kind.branch (kind.holds test.Lt (reg rs1 m.hart) (reg rs2 m.hart)) i m
effect w (Bge rs1 rs2 i) m = kind.branch (kind.holds test.Ge (reg rs1 m.hart) (reg rs2 m.hart)) i m
effect w (Bltu rs1 rs2 i) m = kind.branch (kind.holds test.Ltu (reg rs1 m.hart) (reg rs2 m.hart)) i m
effect w (Bgeu rs1 rs2 i) m = kind.branch (kind.holds test.Geu (reg rs1 m.hart) (reg rs2 m.hart)) i m
effect w (Lb rd rs1 i) m = kind.load_byte sign_extended_byte rd (kind.sum (reg rs1 m.hart) i) m
effect w (Lh rd rs1 i) m = kind.load_half sign_extended_half rd (kind.sum (reg rs1 m.hart) i) m
effect w (Lw rd rs1 i) m = kind.load_word rd (kind.sum (reg rs1 m.hart) i) m
effect w (Lbu rd rs1 i) m = kind.load_byte zero_extended rd (kind.sum (reg rs1 m.hart) i) m
effect w (Lhu rd rs1 i) m = kind.load_half zero_extended rd (kind.sum (reg rs1 m.hart) i) m
effect w (Sb rs1 rs2 i) m = kind.store_byte (kind.sum (reg rs1 m.hart) i) (reg rs2 m.hart) m
effect w (Sh rs1 rs2 i) m = kind.store_half (kind.sum (reg rs1 m.hart) i) (reg rs2 m.hart) m
effect w (Sw rs1 rs2 i) m = kind.store_word (kind.sum (reg rs1 m.hart) i) (reg rs2 m.hart) m
effect w (Addi rd rs1 i) m = kind.arithmetic op.Add rd (reg rs1 m.hart) (modulo 32 i) m
effect w (Slti rd rs1 i) m = kind.arithmetic op.Slt rd (reg rs1 m.hart) (modulo 32 i) m
effect w (Sltiu rd rs1 i) m = kind.arithmetic op.Sltu rd (reg rs1 m.hart) (modulo 32 i) m
effect w (Xori rd rs1 i) m = kind.arithmetic op.Xor rd (reg rs1 m.hart) (modulo 32 i) m
effect w (Ori rd rs1 i) m = kind.arithmetic op.Or rd (reg rs1 m.hart) (modulo 32 i) m
effect w (Andi rd rs1 i) m = kind.arithmetic op.And rd (reg rs1 m.hart) (modulo 32 i) m
effect w (Slli rd rs1 n) m = kind.arithmetic op.Sll rd (reg rs1 m.hart) n m
effect w (Srli rd rs1 n) m = kind.arithmetic op.Srl rd (reg rs1 m.hart) n m
effect w (Srai rd rs1 n) m = kind.arithmetic op.Sra rd (reg rs1 m.hart) n m
effect w (Add rd rs1 rs2) m = kind.arithmetic op.Add rd (reg rs1 m.hart) (reg rs2 m.hart) m
effect w (Sub rd rs1 rs2) m = kind.arithmetic op.Sub rd (reg rs1 m.hart) (reg rs2 m.hart) m
effect w (Sll rd rs1 rs2) m = kind.arithmetic op.Sll rd (reg rs1 m.hart) (reg rs2 m.hart) m
effect w (Slt rd rs1 rs2) m = kind.arithmetic op.Slt rd (reg rs1 m.hart) (reg rs2 m.hart) m
effect w (Sltu rd rs1 rs2) m = kind.arithmetic op.Sltu rd (reg rs1 m.hart) (reg rs2 m.hart) m
effect w (Xor rd rs1 rs2) m = kind.arithmetic op.Xor rd (reg rs1 m.hart) (reg rs2 m.hart) m
effect w (Srl rd rs1 rs2) m = kind.arithmetic op.Srl rd (reg rs1 m.hart) (reg rs2 m.hart) m
effect w (Sra rd rs1 rs2) m = kind.arithmetic op.Sra rd (reg rs1 m.hart) (reg rs2 m.hart) m
effect w (Or rd rs1 rs2) m = kind.arithmetic op.Or rd (reg rs1 m.hart) (reg rs2 m.hart) m
effect w (And rd rs1 rs2) m = kind.arithmetic op.And rd (reg rs1 m.hart) (reg rs2 m.hart) m
effect w (Mul rd rs1 rs2) m = kind.arithmetic op.Mul rd (reg rs1 m.hart) (reg rs2 m.hart) m
effect w (Mulh rd rs1 rs2) m = kind.arithmetic op.Mulh rd (reg rs1 m.hart) (reg rs2 m.hart) m
effect w (Mulhsu rd rs1 rs2) m = kind.arithmetic op.Mulhsu rd (reg rs1 m.hart) (reg rs2 m.hart) m
effect w (Mulhu rd rs1 rs2) m = kind.arithmetic op.Mulhu rd (reg rs1 m.hart) (reg rs2 m.hart) m
effect w (Div rd rs1 rs2) m = kind.arithmetic op.Div rd (reg rs1 m.hart) (reg rs2 m.hart) m
effect w (Divu rd rs1 rs2) m = kind.arithmetic op.Divu rd (reg rs1 m.hart) (reg rs2 m.hart) m
effect w (Rem rd rs1 rs2) m = kind.arithmetic op.Rem rd (reg rs1 m.hart) (reg rs2 m.hart) m
effect w (Remu rd rs1 rs2) m = kind.arithmetic op.Remu rd (reg rs1 m.hart) (reg rs2 m.hart) m
effect w (Fence rd rs1 i) m = done m
effect w (FenceI rd rs1 i) m = done m
effect w Ecall m = Traps EnvironmentCall 0
effect w Ebreak m = Traps Breakpoint 0
effect w Mret m = trap_return m
effect w Wfi m = done m
effect w (Csrrw rd rs1 n) m = kind.access_csr w rd n change.Write rs1 (reg rs1 m.hart) m
effect w (Csrrs rd rs1 n) m = kind.access_csr w rd n change.Set rs1 (reg rs1 m.hart) m
effect w (Csrrc rd rs1 n) m = kind.access_csr w rd n change.Clear rs1 (reg rs1 m.hart) m
effect w (Csrrwi rd i n) m = kind.access_csr w rd n change.Write i i m
effect w (Csrrsi rd i n) m = kind.access_csr w rd n change.Set i i m
effect w (Csrrci rd i n) m = kind.access_csr w rd n change.Clear i i m
effect w (LrW rd rs1 aq rl) m = kind.load_reserved rd (reg rs1 m.hart) m
effect w (ScW rd rs1 rs2 aq rl) m = kind.store_conditional rd (reg rs1 m.hart) (reg rs2 m.hart) m
effect w (AmoswapW rd rs1 rs2 aq rl) m = kind.atomic amo.Swap rd (reg rs1 m.hart) (reg rs2 m.hart) m
effect w (AmoaddW rd rs1 rs2 aq rl) m = kind.atomic amo.Add rd (reg rs1 m.hart) (reg rs2 m.hart) m
effect w (AmoxorW rd rs1 rs2 aq rl) m = kind.atomic amo.Xor rd (reg rs1 m.hart) (reg rs2 m.hart) m
effect w (AmoandW rd rs1 rs2 aq rl) m = kind.atomic amo.And rd (reg rs1 m.hart) (reg rs2 m.hart) m
effect w (AmoorW rd rs1 rs2 aq rl) m = kind.atomic amo.Or rd (reg rs1 m.hart) (reg rs2 m.hart) m
effect w (AmominW rd rs1 rs2 aq rl) m = kind.atomic amo.Min rd (reg rs1 m.hart) (reg rs2 m.hart) m
effect w (AmomaxW rd rs1 rs2 aq rl) m = kind.atomic amo.Max rd (reg rs1 m.hart) (reg rs2 m.hart) m
effect w (AmominuW rd rs1 rs2 aq rl) m = kind.atomic amo.Minu rd (reg rs1 m.hart) (reg rs2 m.hart) m
effect w (AmomaxuW rd rs1 rs2 aq rl) m = kind.atomic amo.Maxu rd (reg rs1 m.hart) (reg rs2 m.hart) m
