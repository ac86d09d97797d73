-- A step keeps the registers: 32 of them, of which x0 is 0.
use Rattle.std.proofs.Common.{◌≡◌, ℕ, ◌+◌, ◌*◌, ◌%◌, ◌^◌, Bool, true, false, List, Option, Some, None, set, refl, sym, subst, ◌∙◌, ℤ, if◌then◌else◌, option_map, ◌==◌}
use Rattle.std.proofs.lemmas.Bool.{eqb-false}
use Rattle.std.proofs.lemmas.List.{length-set, get_or-set_other}
use Rattle.rvm_csr.specs.declared.cause.Exception.{Exception}
use Rattle.rvm_csr.specs.Registers.{CsrState}
use Rattle.rvm_csr.specs.Table.{csr_write}
use Rattle.rvm_csr.specs.Traps.{pending}
use Rattle.rvm_res.specs.Reservations as res
use Rattle.rvm_isa.specs.declared.ins.Ins.{Ins}
use Rattle.rvm_isa.specs.declared.ins.Ins.TheVariants.{Lui, Auipc, Jal, Jalr, Beq, Bne, Blt, Bge, Bltu, Bgeu, Lb, Lh, Lw, Lbu, Lhu, Sb, Sh, Sw, Addi, Slti, Sltiu, Xori, Ori, Andi, Slli, Srli, Srai, Add, Sub, Sll, Slt, Sltu, Xor, Srl, Sra, Or, And, Mul, Mulh, Mulhsu, Mulhu, Div, Divu, Rem, Remu, Fence, FenceI, Ecall, Ebreak, Mret, Wfi, Csrrw, Csrrs, Csrrc, Csrrwi, Csrrsi, Csrrci, LrW, ScW, AmoswapW, AmoaddW, AmoxorW, AmoandW, AmoorW, AmominW, AmomaxW, AmominuW, AmomaxuW}
use Rattle.rvm_isa.specs.Table.{decoded}
use Rattle.rvm_hart.specs.declared.atomics.Amo.{Amo}
use Rattle.rvm_hart.specs.declared.arithmetic.Operation.{Operation}
use Rattle.rvm_hart.specs.declared.arithmetic.Operation.TheVariants as op
use Rattle.rvm_hart.specs.declared.csrs.CsrChange.{CsrChange}
use Rattle.rvm_hart.specs.Machine.{Machine, number_of}
use Rattle.rvm_hart.specs.Registers.{AreRegisters}
use Rattle.rvm_hart.specs.Bus.{in_ram, ram_load, ram_stored, word_stored, word_loaded, after_word_load, Stored, mip_of}
use Rattle.rvm_hart.specs.Outcome.{Outcome, Done, Traps, machine_after, with_register, next_pc, done_with, done, reg}
use Rattle.rvm_hart.specs.Kinds as kind
use Rattle.rvm_hart.specs.Rows.{effect, sign_extended_byte, sign_extended_half, zero_extended}
use Rattle.rvm_word.specs.Word.{modulo}
use Rattle.rvm_hart.specs.declared.atomics.Amo.TheVariants as amo
use Rattle.rvm_hart.specs.declared.csrs.CsrChange.TheVariants as change
use Rattle.rvm_hart.specs.declared.jumps.Comparison.TheVariants as test
use Rattle.rvm_hart.specs.Step.{decoded_outcome, fetched_outcome, execute, after_outcome, unless_pending, unless_halted, step}
use Rattle.rvm_csr.specs.declared.cause.Interrupt.{Interrupt}

-- an outcome leaves 32 registers, of which x0 is 0, if the machine had them
abbrev Keeps : Outcome → Machine → Type 0
Keeps o m = AreRegisters m.hart.regs → AreRegisters (machine_after o m).hart.regs

with_register_cases : (b : Bool) (rd v : ℕ) (regs : List ℕ) → (rd == 0) ≡ b → AreRegisters regs → AreRegisters (if b then regs else set regs rd v)
with_register_cases true rd v regs is are = are
with_register_cases false rd v regs is are =
    (length-set regs rd v ∙ are.0, get_or-set_other regs rd 0 v 0 (λ e. eqb-false rd 0 is (sym e)) ∙ are.1)

pub with_register_registers : (rd v : ℕ) (regs : List ℕ) → AreRegisters regs → AreRegisters (with_register rd v regs)
with_register_registers rd v regs are = with_register_cases (rd == 0) rd v regs refl are

done_with_registers : (rd v : ℕ) (m : Machine) → Keeps (done_with rd v m) m
done_with_registers rd v m = with_register_registers rd v m.hart.regs

-- if a test fails, the instruction traps
guarded : (b : Bool) (o : Outcome) (e : Exception) (v : ℕ) (m : Machine) → Keeps o m → Keeps (if b then o else Traps e v) m
guarded true o e v m keeps = keeps
guarded false o e v m keeps = λ are. are

one_of : (b : Bool) (o n : Outcome) (m : Machine) → Keeps o m → Keeps n m → Keeps (if b then o else n) m
one_of true o n m first second = first
one_of false o n m first second = second

arithmetic_registers : (op : Operation) (rd a b : ℕ) (m : Machine) → Keeps (kind.arithmetic op rd a b m) m
arithmetic_registers op rd a b m = with_register_registers rd (kind.value_of op a b) m.hart.regs

jump_registers : (rd target : ℕ) (m : Machine) → Keeps (kind.jump rd target m) m
jump_registers rd target m = guarded (target % 4 == 0) _ _ target m (with_register_registers rd (next_pc m.hart) m.hart.regs)

branch_registers : (taken : Bool) (offset : ℤ) (m : Machine) → Keeps (kind.branch taken offset m) m
branch_registers taken offset m =
    one_of taken (kind.jump 0 (kind.sum m.hart.pc offset) m) (done m) m (jump_registers 0 (kind.sum m.hart.pc offset) m) (λ are. are)

-- LOADS AND STORES

load_outcome_registers : (rd : ℕ) (o : Option ℕ) (a : ℕ) (l m : Machine) → l.hart.regs ≡ m.hart.regs → Keeps (kind.load_outcome rd o a l) m
load_outcome_registers rd None a l m same = λ are. are
load_outcome_registers rd (Some v) a l m same = λ are. with_register_registers rd v l.hart.regs (subst AreRegisters (sym same) are)

load_byte_registers : (f : ℕ → ℕ) (rd a : ℕ) (m : Machine) → Keeps (kind.load_byte f rd a m) m
load_byte_registers f rd a m = load_outcome_registers rd (option_map f (ram_load 1 a m.shared.bytes)) a m m refl

load_half_registers : (f : ℕ → ℕ) (rd a : ℕ) (m : Machine) → Keeps (kind.load_half f rd a m) m
load_half_registers f rd a m = guarded (a % 2 == 0) _ _ a m (load_outcome_registers rd (option_map f (ram_load 2 a m.shared.bytes)) a m m refl)

load_word_registers : (rd a : ℕ) (m : Machine) → Keeps (kind.load_word rd a m) m
load_word_registers rd a m =
    guarded (a % 4 == 0) _ _ a m (load_outcome_registers rd (word_loaded a m.shared) a (record m { shared = after_word_load a m.shared }) m refl)

store_outcome_registers : (o : Option Stored) (a : ℕ) (m : Machine) → Keeps (kind.store_outcome o a m) m
store_outcome_registers None a m = λ are. are
store_outcome_registers (Some s) a m = λ are. are

store_byte_registers : (a v : ℕ) (m : Machine) → Keeps (kind.store_byte a v m) m
store_byte_registers a v m = store_outcome_registers (ram_stored 1 (number_of m) a (v % 2 ^ 8) m.shared) a m

store_half_registers : (a v : ℕ) (m : Machine) → Keeps (kind.store_half a v m) m
store_half_registers a v m = guarded (a % 2 == 0) _ _ a m (store_outcome_registers (ram_stored 2 (number_of m) a (v % 2 ^ 16) m.shared) a m)

store_word_registers : (a v : ℕ) (m : Machine) → Keeps (kind.store_word a v m) m
store_word_registers a v m = guarded (a % 4 == 0) _ _ a m (store_outcome_registers (word_stored (number_of m) a v m.shared) a m)

-- ATOMICS

load_reserved_registers : (rd a : ℕ) (m : Machine) → Keeps (kind.load_reserved rd a m) m
load_reserved_registers rd a m =
    guarded (a % 4 == 0) _ _ a m (load_outcome_registers rd (ram_load 4 a m.shared.bytes) a (kind.with_reservations_of (res.held (number_of m) a m.shared.reservations) m) m refl)

exchange_outcome_registers : (rd v : ℕ) (o : Option Stored) (a : ℕ) (l m : Machine) → l.hart.regs ≡ m.hart.regs → Keeps (kind.exchange_outcome rd v o a l) m
exchange_outcome_registers rd v None a l m same = λ are. are
exchange_outcome_registers rd v (Some s) a l m same = λ are. with_register_registers rd v l.hart.regs (subst AreRegisters (sym same) are)

store_conditional_registers : (rd a v : ℕ) (m : Machine) → Keeps (kind.store_conditional rd a v m) m
store_conditional_registers rd a v m =
    let u : Machine = kind.without_reservation m in
    guarded (a % 4 == 0) _ _ a m (guarded (in_ram 4 a m.shared.bytes) _ _ a m
    (one_of (res.holds (number_of m) a m.shared.reservations) (kind.exchange_outcome rd 0 (ram_stored 4 (number_of m) a v u.shared) a u) (done_with rd 1 u) m
    (exchange_outcome_registers rd 0 (ram_stored 4 (number_of m) a v u.shared) a u m refl)
    (with_register_registers rd 1 m.hart.regs)))

atomic_outcome_registers : (op : Amo) (rd a v : ℕ) (o : Option ℕ) (m : Machine) → Keeps (kind.atomic_outcome op rd a v o m) m
atomic_outcome_registers op rd a v None m = λ are. are
atomic_outcome_registers op rd a v (Some old) m = exchange_outcome_registers rd old (ram_stored 4 (number_of m) a (kind.atomic_value op old v) m.shared) a m m refl

atomic_registers : (op : Amo) (rd a v : ℕ) (m : Machine) → Keeps (kind.atomic op rd a v m) m
atomic_registers op rd a v m = guarded (a % 4 == 0) _ _ a m (atomic_outcome_registers op rd a v (ram_load 4 a m.shared.bytes) m)

-- CSR INSTRUCTIONS

csr_write_outcome_registers : (w rd n old : ℕ) (o : Option CsrState) (m : Machine) → Keeps (kind.csr_write_outcome w rd n old o m) m
csr_write_outcome_registers w rd n old None m = λ are. are
csr_write_outcome_registers w rd n old (Some s) m = with_register_registers rd old m.hart.regs

csr_read_outcome_registers : (w rd : ℕ) (o : Option ℕ) (m : Machine) → Keeps (kind.csr_read_outcome w rd o m) m
csr_read_outcome_registers w rd None m = λ are. are
csr_read_outcome_registers w rd (Some value) m = with_register_registers rd value m.hart.regs

csr_change_outcome_registers : (w rd n : ℕ) (c : CsrChange) (source : ℕ) (o : Option ℕ) (m : Machine) → Keeps (kind.csr_change_outcome w rd n c source o m) m
csr_change_outcome_registers w rd n c source None m = λ are. are
csr_change_outcome_registers w rd n c source (Some old) m = csr_write_outcome_registers w rd n old (csr_write n (kind.changed_value c old source) m.hart.csrs) m

access_csr_registers : (w rd n : ℕ) (c : CsrChange) (field source : ℕ) (m : Machine) → Keeps (kind.access_csr w rd n c field source m) m
access_csr_registers w rd n c field source m =
    one_of (kind.writes c field) _ _ m (csr_change_outcome_registers w rd n c source (kind.csr_value n m) m) (csr_read_outcome_registers w rd (kind.csr_value n m) m)

-- ROWS

effect_registers : (w : ℕ) (i : Ins) (m : Machine) → Keeps (effect w i m) m
unfolding effect
effect_registers w (Lui rd i) m = done_with_registers rd (i * 2 ^ 12) m
effect_registers w (Auipc rd i) m = done_with_registers rd ((m.hart.pc + i * 2 ^ 12) % 2 ^ 32) m
effect_registers w (Jal rd i) m = jump_registers rd (kind.sum m.hart.pc i) m
effect_registers w (Jalr rd rs1 i) m = jump_registers rd (kind.even (kind.sum (reg rs1 m.hart) i)) m
effect_registers w (Beq rs1 rs2 i) m = branch_registers (kind.holds test.Eq (reg rs1 m.hart) (reg rs2 m.hart)) i m
effect_registers w (Bne rs1 rs2 i) m = branch_registers (kind.holds test.Ne (reg rs1 m.hart) (reg rs2 m.hart)) i m
effect_registers w (Blt rs1 rs2 i) m = branch_registers (kind.holds test.Lt (reg rs1 m.hart) (reg rs2 m.hart)) i m
effect_registers w (Bge rs1 rs2 i) m = branch_registers (kind.holds test.Ge (reg rs1 m.hart) (reg rs2 m.hart)) i m
effect_registers w (Bltu rs1 rs2 i) m = branch_registers (kind.holds test.Ltu (reg rs1 m.hart) (reg rs2 m.hart)) i m
effect_registers w (Bgeu rs1 rs2 i) m = branch_registers (kind.holds test.Geu (reg rs1 m.hart) (reg rs2 m.hart)) i m
effect_registers w (Lb rd rs1 i) m = load_byte_registers sign_extended_byte rd (kind.sum (reg rs1 m.hart) i) m
effect_registers w (Lh rd rs1 i) m = load_half_registers sign_extended_half rd (kind.sum (reg rs1 m.hart) i) m
effect_registers w (Lw rd rs1 i) m = load_word_registers rd (kind.sum (reg rs1 m.hart) i) m
effect_registers w (Lbu rd rs1 i) m = load_byte_registers zero_extended rd (kind.sum (reg rs1 m.hart) i) m
effect_registers w (Lhu rd rs1 i) m = load_half_registers zero_extended rd (kind.sum (reg rs1 m.hart) i) m
effect_registers w (Sb rs1 rs2 i) m = store_byte_registers (kind.sum (reg rs1 m.hart) i) (reg rs2 m.hart) m
effect_registers w (Sh rs1 rs2 i) m = store_half_registers (kind.sum (reg rs1 m.hart) i) (reg rs2 m.hart) m
effect_registers w (Sw rs1 rs2 i) m = store_word_registers (kind.sum (reg rs1 m.hart) i) (reg rs2 m.hart) m
effect_registers w (Addi rd rs1 i) m = arithmetic_registers op.Add rd (reg rs1 m.hart) (modulo 32 i) m
effect_registers w (Slti rd rs1 i) m = arithmetic_registers op.Slt rd (reg rs1 m.hart) (modulo 32 i) m
effect_registers w (Sltiu rd rs1 i) m = arithmetic_registers op.Sltu rd (reg rs1 m.hart) (modulo 32 i) m
effect_registers w (Xori rd rs1 i) m = arithmetic_registers op.Xor rd (reg rs1 m.hart) (modulo 32 i) m
effect_registers w (Ori rd rs1 i) m = arithmetic_registers op.Or rd (reg rs1 m.hart) (modulo 32 i) m
effect_registers w (Andi rd rs1 i) m = arithmetic_registers op.And rd (reg rs1 m.hart) (modulo 32 i) m
effect_registers w (Slli rd rs1 n) m = arithmetic_registers op.Sll rd (reg rs1 m.hart) n m
effect_registers w (Srli rd rs1 n) m = arithmetic_registers op.Srl rd (reg rs1 m.hart) n m
effect_registers w (Srai rd rs1 n) m = arithmetic_registers op.Sra rd (reg rs1 m.hart) n m
effect_registers w (Add rd rs1 rs2) m = arithmetic_registers op.Add rd (reg rs1 m.hart) (reg rs2 m.hart) m
effect_registers w (Sub rd rs1 rs2) m = arithmetic_registers op.Sub rd (reg rs1 m.hart) (reg rs2 m.hart) m
effect_registers w (Sll rd rs1 rs2) m = arithmetic_registers op.Sll rd (reg rs1 m.hart) (reg rs2 m.hart) m
effect_registers w (Slt rd rs1 rs2) m = arithmetic_registers op.Slt rd (reg rs1 m.hart) (reg rs2 m.hart) m
effect_registers w (Sltu rd rs1 rs2) m = arithmetic_registers op.Sltu rd (reg rs1 m.hart) (reg rs2 m.hart) m
effect_registers w (Xor rd rs1 rs2) m = arithmetic_registers op.Xor rd (reg rs1 m.hart) (reg rs2 m.hart) m
effect_registers w (Srl rd rs1 rs2) m = arithmetic_registers op.Srl rd (reg rs1 m.hart) (reg rs2 m.hart) m
effect_registers w (Sra rd rs1 rs2) m = arithmetic_registers op.Sra rd (reg rs1 m.hart) (reg rs2 m.hart) m
effect_registers w (Or rd rs1 rs2) m = arithmetic_registers op.Or rd (reg rs1 m.hart) (reg rs2 m.hart) m
effect_registers w (And rd rs1 rs2) m = arithmetic_registers op.And rd (reg rs1 m.hart) (reg rs2 m.hart) m
effect_registers w (Mul rd rs1 rs2) m = arithmetic_registers op.Mul rd (reg rs1 m.hart) (reg rs2 m.hart) m
effect_registers w (Mulh rd rs1 rs2) m = arithmetic_registers op.Mulh rd (reg rs1 m.hart) (reg rs2 m.hart) m
effect_registers w (Mulhsu rd rs1 rs2) m = arithmetic_registers op.Mulhsu rd (reg rs1 m.hart) (reg rs2 m.hart) m
effect_registers w (Mulhu rd rs1 rs2) m = arithmetic_registers op.Mulhu rd (reg rs1 m.hart) (reg rs2 m.hart) m
effect_registers w (Div rd rs1 rs2) m = arithmetic_registers op.Div rd (reg rs1 m.hart) (reg rs2 m.hart) m
effect_registers w (Divu rd rs1 rs2) m = arithmetic_registers op.Divu rd (reg rs1 m.hart) (reg rs2 m.hart) m
effect_registers w (Rem rd rs1 rs2) m = arithmetic_registers op.Rem rd (reg rs1 m.hart) (reg rs2 m.hart) m
effect_registers w (Remu rd rs1 rs2) m = arithmetic_registers op.Remu rd (reg rs1 m.hart) (reg rs2 m.hart) m
effect_registers w (Fence rd rs1 i) m = λ are. are
effect_registers w (FenceI rd rs1 i) m = λ are. are
effect_registers w Ecall m = λ are. are
effect_registers w Ebreak m = λ are. are
effect_registers w Mret m = λ are. are
effect_registers w Wfi m = λ are. are
effect_registers w (Csrrw rd rs1 n) m = access_csr_registers w rd n change.Write rs1 (reg rs1 m.hart) m
effect_registers w (Csrrs rd rs1 n) m = access_csr_registers w rd n change.Set rs1 (reg rs1 m.hart) m
effect_registers w (Csrrc rd rs1 n) m = access_csr_registers w rd n change.Clear rs1 (reg rs1 m.hart) m
effect_registers w (Csrrwi rd i n) m = access_csr_registers w rd n change.Write i i m
effect_registers w (Csrrsi rd i n) m = access_csr_registers w rd n change.Set i i m
effect_registers w (Csrrci rd i n) m = access_csr_registers w rd n change.Clear i i m
effect_registers w (LrW rd rs1 aq rl) m = load_reserved_registers rd (reg rs1 m.hart) m
effect_registers w (ScW rd rs1 rs2 aq rl) m = store_conditional_registers rd (reg rs1 m.hart) (reg rs2 m.hart) m
effect_registers w (AmoswapW rd rs1 rs2 aq rl) m = atomic_registers amo.Swap rd (reg rs1 m.hart) (reg rs2 m.hart) m
effect_registers w (AmoaddW rd rs1 rs2 aq rl) m = atomic_registers amo.Add rd (reg rs1 m.hart) (reg rs2 m.hart) m
effect_registers w (AmoxorW rd rs1 rs2 aq rl) m = atomic_registers amo.Xor rd (reg rs1 m.hart) (reg rs2 m.hart) m
effect_registers w (AmoandW rd rs1 rs2 aq rl) m = atomic_registers amo.And rd (reg rs1 m.hart) (reg rs2 m.hart) m
effect_registers w (AmoorW rd rs1 rs2 aq rl) m = atomic_registers amo.Or rd (reg rs1 m.hart) (reg rs2 m.hart) m
effect_registers w (AmominW rd rs1 rs2 aq rl) m = atomic_registers amo.Min rd (reg rs1 m.hart) (reg rs2 m.hart) m
effect_registers w (AmomaxW rd rs1 rs2 aq rl) m = atomic_registers amo.Max rd (reg rs1 m.hart) (reg rs2 m.hart) m
effect_registers w (AmominuW rd rs1 rs2 aq rl) m = atomic_registers amo.Minu rd (reg rs1 m.hart) (reg rs2 m.hart) m
effect_registers w (AmomaxuW rd rs1 rs2 aq rl) m = atomic_registers amo.Maxu rd (reg rs1 m.hart) (reg rs2 m.hart) m

-- STEPS

decoded_registers : (w : ℕ) (o : Option Ins) (m : Machine) → Keeps (decoded_outcome w o m) m
decoded_registers w None m = λ are. are
decoded_registers w (Some i) m = effect_registers w i m

fetched_registers : (o : Option ℕ) (m : Machine) → Keeps (fetched_outcome o m) m
fetched_registers None m = λ are. are
fetched_registers (Some w) m = decoded_registers w (decoded w) m

after_outcome_registers : (o : Outcome) (m : Machine) → Keeps o m → AreRegisters m.hart.regs → AreRegisters (after_outcome o m).machine.hart.regs
after_outcome_registers (Done after pages w) m keeps are = keeps are
after_outcome_registers (Traps e v) m keeps are = are

pending_registers : (o : Option Interrupt) (m : Machine) → AreRegisters m.hart.regs → AreRegisters (unless_pending o m).machine.hart.regs
pending_registers None m = after_outcome_registers (execute m) m (fetched_registers (ram_load 4 m.hart.pc m.shared.bytes) m)
pending_registers (Some i) m = λ are. are

halted_registers : (o : Option ℕ) (m : Machine) → AreRegisters m.hart.regs → AreRegisters (unless_halted o m).machine.hart.regs
halted_registers None m = pending_registers (pending (mip_of (number_of m) m.shared.devices) m.hart.csrs) m
halted_registers (Some s) m = λ are. are

pub step_registers : (m : Machine) → AreRegisters m.hart.regs → AreRegisters (step m).machine.hart.regs
step_registers m = halted_registers m.shared.devices.halted m
