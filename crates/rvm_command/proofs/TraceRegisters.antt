-- The register that a trace shows is the one that a step changes: one lemma for each kind of instruction, and one line
-- for each row.
use Rattle.std.proofs.Common.{◌≡◌, ℕ, ◌+◌, ◌*◌, ◌%◌, ◌^◌, Bool, true, false, Option, Some, None, refl, ap, ℤ, if◌then◌else◌, option_map, ◌==◌}
use Rattle.rvm_csr.specs.declared.cause.Exception.{Exception}
use Rattle.rvm_csr.specs.declared.cause.Interrupt.{Interrupt}
use Rattle.rvm_csr.specs.Registers.{CsrState}
use Rattle.rvm_csr.specs.Table.{csr_write}
use Rattle.rvm_csr.specs.Traps.{pending}
use Rattle.rvm_res.specs.Reservations as res
use Rattle.rvm_isa.specs.declared.ins.Ins.{Ins}
use Rattle.rvm_isa.specs.declared.ins.Ins.TheVariants.{Lui, Auipc, Jal, Jalr, Beq, Bne, Blt, Bge, Bltu, Bgeu, Lb, Lh, Lw, Lbu, Lhu, Sb, Sh, Sw, Addi, Slti, Sltiu, Xori, Ori, Andi, Slli, Srli, Srai, Add, Sub, Sll, Slt, Sltu, Xor, Srl, Sra, Or, And, Mul, Mulh, Mulhsu, Mulhu, Div, Divu, Rem, Remu, Fence, FenceI, Ecall, Ebreak, Mret, Wfi, Csrrw, Csrrs, Csrrc, Csrrwi, Csrrsi, Csrrci, LrW, ScW, AmoswapW, AmoaddW, AmoxorW, AmoandW, AmoorW, AmominW, AmomaxW, AmominuW, AmomaxuW}
use Rattle.rvm_isa.specs.Table.{decoded}
use Rattle.rvm_hart.specs.declared.atomics.Amo.{Amo}
use Rattle.rvm_hart.specs.declared.arithmetic.Operation.{Operation}
use Rattle.rvm_hart.specs.declared.arithmetic.Operation.TheVariants as op
use Rattle.rvm_hart.specs.declared.csrs.CsrChange.{CsrChange}
use Rattle.rvm_hart.specs.Machine.{Machine, number_of}
use Rattle.rvm_hart.specs.Bus.{in_ram, ram_load, ram_stored, word_stored, word_loaded, after_word_load, Stored, mip_of}
use Rattle.rvm_hart.specs.Kinds as kind
use Rattle.rvm_hart.specs.Rows.{effect, sign_extended_byte, sign_extended_half, zero_extended}
use Rattle.rvm_word.specs.Word.{modulo}
use Rattle.rvm_hart.specs.declared.atomics.Amo.TheVariants as amo
use Rattle.rvm_hart.specs.declared.csrs.CsrChange.TheVariants as change
use Rattle.rvm_hart.specs.declared.jumps.Comparison.TheVariants as test
use Rattle.rvm_hart.specs.declared.outcome.Stepped.TheVariants.{Retired}
use Rattle.rvm_hart.specs.Outcome.{Outcome, Done, Traps, with_register, next_pc, done_with, done, reg}
use Rattle.rvm_hart.specs.Step.{decoded_outcome, fetched_outcome, execute, after_outcome, unless_pending, unless_halted, step}
use Rattle.rvm_command.specs.Trace.{destination, writes_of, writes_of_decoded, writes_of_word}
use Rattle.rvm_command.specs.TraceLaw.{GivesRegister}

-- an instruction that retires changes no register but this one
abbrev Gives : (rd : ℕ) → Outcome → Machine → Type 0
Gives rd (Done after pages wrote) m = GivesRegister rd after.hart.regs m.hart.regs
Gives rd (Traps e v) m = Unit {0}

done_with_gives : (rd v : ℕ) (m : Machine) → Gives rd (done_with rd v m) m
done_with_gives rd v m = (v, refl)

done_gives : (m : Machine) → Gives 0 (done m) m
done_gives m = (0, refl)

-- if a test fails, the instruction traps
guarded : (b : Bool) (rd : ℕ) (o : Outcome) (e : Exception) (v : ℕ) (m : Machine) → Gives rd o m → Gives rd (if b then o else Traps e v) m
guarded true rd o e v m gives = gives
guarded false rd o e v m gives = tt

one_of : (b : Bool) (rd : ℕ) (o n : Outcome) (m : Machine) → Gives rd o m → Gives rd n m → Gives rd (if b then o else n) m
one_of true rd o n m first second = first
one_of false rd o n m first second = second

arithmetic_gives : (op : Operation) (rd a b : ℕ) (m : Machine) → Gives rd (kind.arithmetic op rd a b m) m
arithmetic_gives op rd a b m = (kind.value_of op a b, refl)

jump_gives : (rd target : ℕ) (m : Machine) → Gives rd (kind.jump rd target m) m
jump_gives rd target m = guarded (target % 4 == 0) rd _ _ target m (next_pc m.hart, refl)

branch_gives : (taken : Bool) (offset : ℤ) (m : Machine) → Gives 0 (kind.branch taken offset m) m
branch_gives taken offset m =
    one_of taken 0 (kind.jump 0 (kind.sum m.hart.pc offset) m) (done m) m (jump_gives 0 (kind.sum m.hart.pc offset) m) (done_gives m)

-- LOADS AND STORES

load_outcome_gives : (rd : ℕ) (o : Option ℕ) (a : ℕ) (l m : Machine) → l.hart.regs ≡ m.hart.regs → Gives rd (kind.load_outcome rd o a l) m
load_outcome_gives rd None a l m same = tt
load_outcome_gives rd (Some v) a l m same = (v, ap (with_register rd v) same)

load_byte_gives : (f : ℕ → ℕ) (rd a : ℕ) (m : Machine) → Gives rd (kind.load_byte f rd a m) m
load_byte_gives f rd a m = load_outcome_gives rd (option_map f (ram_load 1 a m.shared.bytes)) a m m refl

load_half_gives : (f : ℕ → ℕ) (rd a : ℕ) (m : Machine) → Gives rd (kind.load_half f rd a m) m
load_half_gives f rd a m = guarded (a % 2 == 0) rd _ _ a m (load_outcome_gives rd (option_map f (ram_load 2 a m.shared.bytes)) a m m refl)

load_word_gives : (rd a : ℕ) (m : Machine) → Gives rd (kind.load_word rd a m) m
load_word_gives rd a m =
    guarded (a % 4 == 0) rd _ _ a m (load_outcome_gives rd (word_loaded a m.shared) a (record m { shared = after_word_load a m.shared }) m refl)

store_outcome_gives : (o : Option Stored) (a : ℕ) (m : Machine) → Gives 0 (kind.store_outcome o a m) m
store_outcome_gives None a m = tt
store_outcome_gives (Some s) a m = (0, refl)

store_byte_gives : (a v : ℕ) (m : Machine) → Gives 0 (kind.store_byte a v m) m
store_byte_gives a v m = store_outcome_gives (ram_stored 1 (number_of m) a (v % 2 ^ 8) m.shared) a m

store_half_gives : (a v : ℕ) (m : Machine) → Gives 0 (kind.store_half a v m) m
store_half_gives a v m = guarded (a % 2 == 0) 0 _ _ a m (store_outcome_gives (ram_stored 2 (number_of m) a (v % 2 ^ 16) m.shared) a m)

store_word_gives : (a v : ℕ) (m : Machine) → Gives 0 (kind.store_word a v m) m
store_word_gives a v m = guarded (a % 4 == 0) 0 _ _ a m (store_outcome_gives (word_stored (number_of m) a v m.shared) a m)

-- ATOMICS

load_reserved_gives : (rd a : ℕ) (m : Machine) → Gives rd (kind.load_reserved rd a m) m
load_reserved_gives rd a m =
    guarded (a % 4 == 0) rd _ _ a m (load_outcome_gives rd (ram_load 4 a m.shared.bytes) a (kind.with_reservations_of (res.held (number_of m) a m.shared.reservations) m) m refl)

exchange_outcome_gives : (rd v : ℕ) (o : Option Stored) (a : ℕ) (l m : Machine) → l.hart.regs ≡ m.hart.regs → Gives rd (kind.exchange_outcome rd v o a l) m
exchange_outcome_gives rd v None a l m same = tt
exchange_outcome_gives rd v (Some s) a l m same = (v, ap (with_register rd v) same)

store_conditional_gives : (rd a v : ℕ) (m : Machine) → Gives rd (kind.store_conditional rd a v m) m
store_conditional_gives rd a v m =
    let u : Machine = kind.without_reservation m in
    guarded (a % 4 == 0) rd _ _ a m (guarded (in_ram 4 a m.shared.bytes) rd _ _ a m
    (one_of (res.holds (number_of m) a m.shared.reservations) rd (kind.exchange_outcome rd 0 (ram_stored 4 (number_of m) a v u.shared) a u) (done_with rd 1 u) m
    (exchange_outcome_gives rd 0 (ram_stored 4 (number_of m) a v u.shared) a u m refl)
    (1, refl)))

atomic_outcome_gives : (op : Amo) (rd a v : ℕ) (o : Option ℕ) (m : Machine) → Gives rd (kind.atomic_outcome op rd a v o m) m
atomic_outcome_gives op rd a v None m = tt
atomic_outcome_gives op rd a v (Some old) m = exchange_outcome_gives rd old (ram_stored 4 (number_of m) a (kind.atomic_value op old v) m.shared) a m m refl

atomic_gives : (op : Amo) (rd a v : ℕ) (m : Machine) → Gives rd (kind.atomic op rd a v m) m
atomic_gives op rd a v m = guarded (a % 4 == 0) rd _ _ a m (atomic_outcome_gives op rd a v (ram_load 4 a m.shared.bytes) m)

-- CSR INSTRUCTIONS

csr_write_outcome_gives : (w rd n old : ℕ) (o : Option CsrState) (m : Machine) → Gives rd (kind.csr_write_outcome w rd n old o m) m
csr_write_outcome_gives w rd n old None m = tt
csr_write_outcome_gives w rd n old (Some s) m = (old, refl)

csr_read_outcome_gives : (w rd : ℕ) (o : Option ℕ) (m : Machine) → Gives rd (kind.csr_read_outcome w rd o m) m
csr_read_outcome_gives w rd None m = tt
csr_read_outcome_gives w rd (Some value) m = (value, refl)

csr_change_outcome_gives : (w rd n : ℕ) (c : CsrChange) (source : ℕ) (o : Option ℕ) (m : Machine) → Gives rd (kind.csr_change_outcome w rd n c source o m) m
csr_change_outcome_gives w rd n c source None m = tt
csr_change_outcome_gives w rd n c source (Some old) m = csr_write_outcome_gives w rd n old (csr_write n (kind.changed_value c old source) m.hart.csrs) m

access_csr_gives : (w rd n : ℕ) (c : CsrChange) (field source : ℕ) (m : Machine) → Gives rd (kind.access_csr w rd n c field source m) m
access_csr_gives w rd n c field source m =
    one_of (kind.writes c field) rd _ _ m (csr_change_outcome_gives w rd n c source (kind.csr_value n m) m) (csr_read_outcome_gives w rd (kind.csr_value n m) m)

-- ROWS

effect_gives : (w : ℕ) (i : Ins) (m : Machine) → Gives (destination (writes_of i)) (effect w i m) m
unfolding effect writes_of destination
effect_gives w (Lui rd i) m = done_with_gives rd (i * 2 ^ 12) m
effect_gives w (Auipc rd i) m = done_with_gives rd ((m.hart.pc + i * 2 ^ 12) % 2 ^ 32) m
effect_gives w (Jal rd i) m = jump_gives rd (kind.sum m.hart.pc i) m
effect_gives w (Jalr rd rs1 i) m = jump_gives rd (kind.even (kind.sum (reg rs1 m.hart) i)) m
effect_gives w (Beq rs1 rs2 i) m = branch_gives (kind.holds test.Eq (reg rs1 m.hart) (reg rs2 m.hart)) i m
effect_gives w (Bne rs1 rs2 i) m = branch_gives (kind.holds test.Ne (reg rs1 m.hart) (reg rs2 m.hart)) i m
effect_gives w (Blt rs1 rs2 i) m = branch_gives (kind.holds test.Lt (reg rs1 m.hart) (reg rs2 m.hart)) i m
effect_gives w (Bge rs1 rs2 i) m = branch_gives (kind.holds test.Ge (reg rs1 m.hart) (reg rs2 m.hart)) i m
effect_gives w (Bltu rs1 rs2 i) m = branch_gives (kind.holds test.Ltu (reg rs1 m.hart) (reg rs2 m.hart)) i m
effect_gives w (Bgeu rs1 rs2 i) m = branch_gives (kind.holds test.Geu (reg rs1 m.hart) (reg rs2 m.hart)) i m
effect_gives w (Lb rd rs1 i) m = load_byte_gives sign_extended_byte rd (kind.sum (reg rs1 m.hart) i) m
effect_gives w (Lh rd rs1 i) m = load_half_gives sign_extended_half rd (kind.sum (reg rs1 m.hart) i) m
effect_gives w (Lw rd rs1 i) m = load_word_gives rd (kind.sum (reg rs1 m.hart) i) m
effect_gives w (Lbu rd rs1 i) m = load_byte_gives zero_extended rd (kind.sum (reg rs1 m.hart) i) m
effect_gives w (Lhu rd rs1 i) m = load_half_gives zero_extended rd (kind.sum (reg rs1 m.hart) i) m
effect_gives w (Sb rs1 rs2 i) m = store_byte_gives (kind.sum (reg rs1 m.hart) i) (reg rs2 m.hart) m
effect_gives w (Sh rs1 rs2 i) m = store_half_gives (kind.sum (reg rs1 m.hart) i) (reg rs2 m.hart) m
effect_gives w (Sw rs1 rs2 i) m = store_word_gives (kind.sum (reg rs1 m.hart) i) (reg rs2 m.hart) m
effect_gives w (Addi rd rs1 i) m = arithmetic_gives op.Add rd (reg rs1 m.hart) (modulo 32 i) m
effect_gives w (Slti rd rs1 i) m = arithmetic_gives op.Slt rd (reg rs1 m.hart) (modulo 32 i) m
effect_gives w (Sltiu rd rs1 i) m = arithmetic_gives op.Sltu rd (reg rs1 m.hart) (modulo 32 i) m
effect_gives w (Xori rd rs1 i) m = arithmetic_gives op.Xor rd (reg rs1 m.hart) (modulo 32 i) m
effect_gives w (Ori rd rs1 i) m = arithmetic_gives op.Or rd (reg rs1 m.hart) (modulo 32 i) m
effect_gives w (Andi rd rs1 i) m = arithmetic_gives op.And rd (reg rs1 m.hart) (modulo 32 i) m
effect_gives w (Slli rd rs1 n) m = arithmetic_gives op.Sll rd (reg rs1 m.hart) n m
effect_gives w (Srli rd rs1 n) m = arithmetic_gives op.Srl rd (reg rs1 m.hart) n m
effect_gives w (Srai rd rs1 n) m = arithmetic_gives op.Sra rd (reg rs1 m.hart) n m
effect_gives w (Add rd rs1 rs2) m = arithmetic_gives op.Add rd (reg rs1 m.hart) (reg rs2 m.hart) m
effect_gives w (Sub rd rs1 rs2) m = arithmetic_gives op.Sub rd (reg rs1 m.hart) (reg rs2 m.hart) m
effect_gives w (Sll rd rs1 rs2) m = arithmetic_gives op.Sll rd (reg rs1 m.hart) (reg rs2 m.hart) m
effect_gives w (Slt rd rs1 rs2) m = arithmetic_gives op.Slt rd (reg rs1 m.hart) (reg rs2 m.hart) m
effect_gives w (Sltu rd rs1 rs2) m = arithmetic_gives op.Sltu rd (reg rs1 m.hart) (reg rs2 m.hart) m
effect_gives w (Xor rd rs1 rs2) m = arithmetic_gives op.Xor rd (reg rs1 m.hart) (reg rs2 m.hart) m
effect_gives w (Srl rd rs1 rs2) m = arithmetic_gives op.Srl rd (reg rs1 m.hart) (reg rs2 m.hart) m
effect_gives w (Sra rd rs1 rs2) m = arithmetic_gives op.Sra rd (reg rs1 m.hart) (reg rs2 m.hart) m
effect_gives w (Or rd rs1 rs2) m = arithmetic_gives op.Or rd (reg rs1 m.hart) (reg rs2 m.hart) m
effect_gives w (And rd rs1 rs2) m = arithmetic_gives op.And rd (reg rs1 m.hart) (reg rs2 m.hart) m
effect_gives w (Mul rd rs1 rs2) m = arithmetic_gives op.Mul rd (reg rs1 m.hart) (reg rs2 m.hart) m
effect_gives w (Mulh rd rs1 rs2) m = arithmetic_gives op.Mulh rd (reg rs1 m.hart) (reg rs2 m.hart) m
effect_gives w (Mulhsu rd rs1 rs2) m = arithmetic_gives op.Mulhsu rd (reg rs1 m.hart) (reg rs2 m.hart) m
effect_gives w (Mulhu rd rs1 rs2) m = arithmetic_gives op.Mulhu rd (reg rs1 m.hart) (reg rs2 m.hart) m
effect_gives w (Div rd rs1 rs2) m = arithmetic_gives op.Div rd (reg rs1 m.hart) (reg rs2 m.hart) m
effect_gives w (Divu rd rs1 rs2) m = arithmetic_gives op.Divu rd (reg rs1 m.hart) (reg rs2 m.hart) m
effect_gives w (Rem rd rs1 rs2) m = arithmetic_gives op.Rem rd (reg rs1 m.hart) (reg rs2 m.hart) m
effect_gives w (Remu rd rs1 rs2) m = arithmetic_gives op.Remu rd (reg rs1 m.hart) (reg rs2 m.hart) m
effect_gives w (Fence rd rs1 i) m = (0, refl)
effect_gives w (FenceI rd rs1 i) m = (0, refl)
effect_gives w Ecall m = tt
effect_gives w Ebreak m = tt
effect_gives w Mret m = (0, refl)
effect_gives w Wfi m = (0, refl)
effect_gives w (Csrrw rd rs1 n) m = access_csr_gives w rd n change.Write rs1 (reg rs1 m.hart) m
effect_gives w (Csrrs rd rs1 n) m = access_csr_gives w rd n change.Set rs1 (reg rs1 m.hart) m
effect_gives w (Csrrc rd rs1 n) m = access_csr_gives w rd n change.Clear rs1 (reg rs1 m.hart) m
effect_gives w (Csrrwi rd i n) m = access_csr_gives w rd n change.Write i i m
effect_gives w (Csrrsi rd i n) m = access_csr_gives w rd n change.Set i i m
effect_gives w (Csrrci rd i n) m = access_csr_gives w rd n change.Clear i i m
effect_gives w (LrW rd rs1 aq rl) m = load_reserved_gives rd (reg rs1 m.hart) m
effect_gives w (ScW rd rs1 rs2 aq rl) m = store_conditional_gives rd (reg rs1 m.hart) (reg rs2 m.hart) m
effect_gives w (AmoswapW rd rs1 rs2 aq rl) m = atomic_gives amo.Swap rd (reg rs1 m.hart) (reg rs2 m.hart) m
effect_gives w (AmoaddW rd rs1 rs2 aq rl) m = atomic_gives amo.Add rd (reg rs1 m.hart) (reg rs2 m.hart) m
effect_gives w (AmoxorW rd rs1 rs2 aq rl) m = atomic_gives amo.Xor rd (reg rs1 m.hart) (reg rs2 m.hart) m
effect_gives w (AmoandW rd rs1 rs2 aq rl) m = atomic_gives amo.And rd (reg rs1 m.hart) (reg rs2 m.hart) m
effect_gives w (AmoorW rd rs1 rs2 aq rl) m = atomic_gives amo.Or rd (reg rs1 m.hart) (reg rs2 m.hart) m
effect_gives w (AmominW rd rs1 rs2 aq rl) m = atomic_gives amo.Min rd (reg rs1 m.hart) (reg rs2 m.hart) m
effect_gives w (AmomaxW rd rs1 rs2 aq rl) m = atomic_gives amo.Max rd (reg rs1 m.hart) (reg rs2 m.hart) m
effect_gives w (AmominuW rd rs1 rs2 aq rl) m = atomic_gives amo.Minu rd (reg rs1 m.hart) (reg rs2 m.hart) m
effect_gives w (AmomaxuW rd rs1 rs2 aq rl) m = atomic_gives amo.Maxu rd (reg rs1 m.hart) (reg rs2 m.hart) m

-- STEPS

decoded_gives : (w : ℕ) (o : Option Ins) (m : Machine) → Gives (destination (writes_of_decoded o)) (decoded_outcome w o m) m
unfolding destination
decoded_gives w None m = tt
decoded_gives w (Some i) m = effect_gives w i m

fetched_gives : (o : Option ℕ) (m : Machine) → Gives (destination (writes_of_word o)) (fetched_outcome o m) m
unfolding writes_of_word
fetched_gives None m = tt
fetched_gives (Some w) m = decoded_gives w (decoded w) m

-- the registers of a machine that a step leaves, if its instruction retired
after_outcome_gives : (rd : ℕ) (o : Outcome) (m : Machine) → Gives rd o m → (after_outcome o m).answer ≡ Retired → GivesRegister rd (after_outcome o m).machine.hart.regs m.hart.regs
after_outcome_gives rd (Done after pages wrote) m gives retired = gives
after_outcome_gives rd (Traps e v) m gives retired = absurd (cc retired)

abbrev shown : Machine → ℕ
shown m = destination (writes_of_word (ram_load 4 m.hart.pc m.shared.bytes))

pending_gives : (o : Option Interrupt) (m : Machine) → (unless_pending o m).answer ≡ Retired → GivesRegister (shown m) (unless_pending o m).machine.hart.regs m.hart.regs
pending_gives None m retired = after_outcome_gives (shown m) (execute m) m (fetched_gives (ram_load 4 m.hart.pc m.shared.bytes) m) retired
pending_gives (Some i) m retired = absurd (cc retired)

halted_gives : (o : Option ℕ) (m : Machine) → (unless_halted o m).answer ≡ Retired → GivesRegister (shown m) (unless_halted o m).machine.hart.regs m.hart.regs
halted_gives None m retired = pending_gives (pending (mip_of (number_of m) m.shared.devices) m.hart.csrs) m retired
halted_gives (Some s) m retired = absurd (cc retired)

pub step_gives : (m : Machine) → (step m).answer ≡ Retired → GivesRegister (shown m) (step m).machine.hart.regs m.hart.regs
step_gives m retired = halted_gives m.shared.devices.halted m retired
