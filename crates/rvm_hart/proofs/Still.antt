-- Instructions that reach registers, RAM and reservations alone do the same at any values of the counters, and change
-- neither CSRs nor devices.
use Rattle.std.proofs.Common.{◌≡◌, ℕ, ◌+◌, ◌*◌, ◌-◌, ◌%◌, ◌^◌, Bool, true, false, [], Option, Some, None, refl, ℤ, if◌then◌else◌, option_map, ◌==◌}
use Rattle.rvm_mem.specs.Bytes.{load}
use Rattle.rvm_csr.specs.declared.cause.Exception.{Exception}
use Rattle.rvm_csr.specs.declared.cause.Exception.TheVariants.{InstructionAddressMisaligned, LoadAddressMisaligned, StoreAddressMisaligned, StoreAccessFault}
use Rattle.rvm_dev.specs.Devices as dev
use Rattle.rvm_isa.specs.declared.ins.Ins.{Ins}
use Rattle.rvm_isa.specs.declared.ins.Ins.TheVariants.{Lui, Auipc, Jal, Jalr, Beq, Bne, Blt, Bge, Bltu, Bgeu, Lb, Lh, Lw, Lbu, Lhu, Sb, Sh, Sw, Addi, Slti, Sltiu, Xori, Ori, Andi, Slli, Srli, Srai, Add, Sub, Sll, Slt, Sltu, Xor, Srl, Sra, Or, And, Mul, Mulh, Mulhsu, Mulhu, Div, Divu, Rem, Remu, Fence, FenceI, Ecall, Ebreak, Mret, Wfi, Csrrw, Csrrs, Csrrc, Csrrwi, Csrrsi, Csrrci, LrW, ScW, AmoswapW, AmoaddW, AmoxorW, AmoandW, AmoorW, AmominW, AmomaxW, AmominuW, AmomaxuW}
use Rattle.rvm_isa.specs.Table.{decoded}
use Rattle.rvm_hart.specs.declared.arithmetic.Operation.{Operation}
use Rattle.rvm_hart.specs.declared.arithmetic.Operation.TheVariants as op
use Rattle.rvm_hart.specs.declared.jumps.Comparison.TheVariants as test
use Rattle.rvm_hart.specs.declared.atomics.Amo.{Amo}
use Rattle.rvm_hart.specs.declared.atomics.Amo.TheVariants as amo
use Rattle.rvm_res.specs.Reservations as res
use Rattle.rvm_hart.specs.Machine.{Machine, number_of}
use Rattle.rvm_hart.specs.Bus.{in_ram, ram_base, ram_load, in_ram_stored, device_stored}
use Rattle.rvm_hart.specs.declared.outcome.Written.TheVariants.{Other}
use Rattle.rvm_hart.specs.Outcome.{Outcome, Done, Traps, machine_after, with_register, next_pc, done_with, done, reg}
use Rattle.rvm_hart.specs.Kinds as kind
use Rattle.rvm_hart.specs.Rows.{effect, sign_extended_byte, sign_extended_half, zero_extended}
use Rattle.rvm_hart.specs.Step.{decoded_outcome, fetched_outcome, execute}
use Rattle.rvm_hart.specs.Straight.{timed, stays_in_ram, decoded_stays, fetched_stays, is_straight}
use Rattle.rvm_word.specs.Word.{modulo}

-- an outcome at other values of the counters
abbrev pub timed_outcome : (c i t : ℕ) → Outcome → Outcome
timed_outcome c i t (Done after pages wrote) = Done (timed c i t after) pages wrote
timed_outcome c i t (Traps e v) = Traps e v

-- the outcome here is also that at any values of the counters, and leaves csrs and devices
pub record Still (m : Machine) (here : Outcome) (there : (c i t : ℕ) → Outcome) : Type 0 where
  pub any : (c i t : ℕ) → there c i t ≡ timed_outcome c i t here
  pub csrs : (machine_after here m).hart.csrs ≡ m.hart.csrs
  pub devices : (machine_after here m).shared.devices ≡ m.shared.devices

-- if a test fails, the instruction traps
guarded : (b : Bool) (m : Machine) (here : Outcome) (there : (c i t : ℕ) → Outcome) (e : Exception) (v : ℕ) → Still m here there
    → Still m (if b then here else Traps e v) (λ c i t. if b then there c i t else Traps e v)
guarded true m here there e v still = still
guarded false m here there e v still = record { any = λ c i t. refl; csrs = refl; devices = refl }

-- rd gets a value
put_still : (rd v : ℕ) (m : Machine) → Still m (done_with rd v m) (λ c i t. done_with rd v (timed c i t m))
put_still rd v m = record { any = λ c i t. refl; csrs = refl; devices = refl }

-- a jump to a multiple of four
abbrev jumped : (rd target : ℕ) → Machine → Outcome
jumped rd target m = Done (record m { hart = record m.hart { regs = with_register rd (next_pc m.hart) m.hart.regs; pc = target } }) [] Other

jump_still : (rd target : ℕ) (m : Machine) → Still m (kind.jump rd target m) (λ c i t. kind.jump rd target (timed c i t m))
jump_still rd target m =
    guarded (target % 4 == 0) m (jumped rd target m) (λ c i t. jumped rd target (timed c i t m)) InstructionAddressMisaligned target
    (record { any = λ c i t. refl; csrs = refl; devices = refl })

branch_still : (taken : Bool) (offset : ℤ) (m : Machine) → Still m (kind.branch taken offset m) (λ c i t. kind.branch taken offset (timed c i t m))
branch_still true offset m = jump_still 0 (kind.sum m.hart.pc offset) m
branch_still false offset m = record { any = λ c i t. refl; csrs = refl; devices = refl }

value_still : (o : Operation) (rd a b : ℕ) (m : Machine) → Still m (kind.arithmetic o rd a b m) (λ c i t. kind.arithmetic o rd a b (timed c i t m))
value_still o rd a b m = put_still rd (kind.value_of o a b) m

-- LOADS

load_outcome_still : (rd : ℕ) (o : Option ℕ) (a : ℕ) (m : Machine) → Still m (kind.load_outcome rd o a m) (λ c i t. kind.load_outcome rd o a (timed c i t m))
load_outcome_still rd None a m = record { any = λ c i t. refl; csrs = refl; devices = refl }
load_outcome_still rd (Some v) a m = record { any = λ c i t. refl; csrs = refl; devices = refl }

load_byte_still : (f : ℕ → ℕ) (rd a : ℕ) (m : Machine) → Still m (kind.load_byte f rd a m) (λ c i t. kind.load_byte f rd a (timed c i t m))
load_byte_still f rd a m = load_outcome_still rd (option_map f (ram_load 1 a m.shared.bytes)) a m

load_half_still : (f : ℕ → ℕ) (rd a : ℕ) (m : Machine) → Still m (kind.load_half f rd a m) (λ c i t. kind.load_half f rd a (timed c i t m))
load_half_still f rd a m =
    let o : Option ℕ = option_map f (ram_load 2 a m.shared.bytes) in
    guarded (a % 2 == 0) m (kind.load_outcome rd o a m) (λ c i t. kind.load_outcome rd o a (timed c i t m)) LoadAddressMisaligned a (load_outcome_still rd o a m)

-- a load of a word, if it is known whether its address is in RAM
abbrev word_load : (b : Bool) → (rd a : ℕ) → Machine → Outcome
word_load b rd a m =
    kind.load_outcome rd (if b then Some (load 4 (a - ram_base) m.shared.bytes) else dev.value_loaded a m.shared.devices) a
    (record m { shared = if b then m.shared else record m.shared { devices = dev.loaded a m.shared.devices } })

word_load_still : (b : Bool) (rd a : ℕ) (m : Machine) → b ≡ true → Still m (word_load b rd a m) (λ c i t. word_load b rd a (timed c i t m))
word_load_still true rd a m inside = record { any = λ c i t. refl; csrs = refl; devices = refl }
word_load_still false rd a m inside = absurd cc

load_word_still : (rd a : ℕ) (m : Machine) → in_ram 4 a m.shared.bytes ≡ true → Still m (kind.load_word rd a m) (λ c i t. kind.load_word rd a (timed c i t m))
load_word_still rd a m inside =
    let b : Bool = in_ram 4 a m.shared.bytes in
    guarded (a % 4 == 0) m (word_load b rd a m) (λ c i t. word_load b rd a (timed c i t m)) LoadAddressMisaligned a (word_load_still b rd a m inside)

-- STORES

-- a store, if it is known whether its address is in RAM
abbrev ram_store : (b : Bool) → (n a v : ℕ) → Machine → Outcome
ram_store b n a v m = kind.store_outcome (if b then Some (in_ram_stored n (number_of m) a v m.shared) else None) a m

ram_store_still : (b : Bool) (n a v : ℕ) (m : Machine) → Still m (ram_store b n a v m) (λ c i t. ram_store b n a v (timed c i t m))
ram_store_still true n a v m = record { any = λ c i t. refl; csrs = refl; devices = refl }
ram_store_still false n a v m = record { any = λ c i t. refl; csrs = refl; devices = refl }

store_byte_still : (a v : ℕ) (m : Machine) → Still m (kind.store_byte a v m) (λ c i t. kind.store_byte a v (timed c i t m))
store_byte_still a v m = ram_store_still (in_ram 1 a m.shared.bytes) 1 a (v % 2 ^ 8) m

store_half_still : (a v : ℕ) (m : Machine) → Still m (kind.store_half a v m) (λ c i t. kind.store_half a v (timed c i t m))
store_half_still a v m =
    let b : Bool = in_ram 2 a m.shared.bytes in
    guarded (a % 2 == 0) m (ram_store b 2 a (v % 2 ^ 16) m) (λ c i t. ram_store b 2 a (v % 2 ^ 16) (timed c i t m)) StoreAddressMisaligned a (ram_store_still b 2 a (v % 2 ^ 16) m)

abbrev word_store : (b : Bool) → (a v : ℕ) → Machine → Outcome
word_store b a v m = kind.store_outcome (if b then Some (in_ram_stored 4 (number_of m) a v m.shared) else device_stored a v m.shared) a m

word_store_still : (b : Bool) (a v : ℕ) (m : Machine) → b ≡ true → Still m (word_store b a v m) (λ c i t. word_store b a v (timed c i t m))
word_store_still true a v m inside = record { any = λ c i t. refl; csrs = refl; devices = refl }
word_store_still false a v m inside = absurd cc

store_word_still : (a v : ℕ) (m : Machine) → in_ram 4 a m.shared.bytes ≡ true → Still m (kind.store_word a v m) (λ c i t. kind.store_word a v (timed c i t m))
store_word_still a v m inside =
    let b : Bool = in_ram 4 a m.shared.bytes in
    guarded (a % 4 == 0) m (word_store b a v m) (λ c i t. word_store b a v (timed c i t m)) StoreAddressMisaligned a (word_store_still b a v m inside)

-- FENCES AND ATOMICS

done_still : (m : Machine) → Still m (done m) (λ c i t. done (timed c i t m))
done_still m = record { any = λ c i t. refl; csrs = refl; devices = refl }

-- the machine with a word reserved
abbrev reserving : (address : ℕ) → Machine → Machine
reserving a m = kind.with_reservations_of (res.held (number_of m) a m.shared.reservations) m

reserving_still : (rd : ℕ) (o : Option ℕ) (a : ℕ) (m : Machine) → Still m (kind.load_outcome rd o a (reserving a m)) (λ c i t. kind.load_outcome rd o a (reserving a (timed c i t m)))
reserving_still rd None a m = record { any = λ c i t. refl; csrs = refl; devices = refl }
reserving_still rd (Some v) a m = record { any = λ c i t. refl; csrs = refl; devices = refl }

reserved_still : (rd a : ℕ) (m : Machine) → Still m (kind.load_reserved rd a m) (λ c i t. kind.load_reserved rd a (timed c i t m))
reserved_still rd a m =
    let o : Option ℕ = ram_load 4 a m.shared.bytes in
    guarded (a % 4 == 0) m (kind.load_outcome rd o a (reserving a m)) (λ c i t. kind.load_outcome rd o a (reserving a (timed c i t m))) LoadAddressMisaligned a (reserving_still rd o a m)

-- an exchange, if it is known whether its address is in RAM
abbrev exchanged : (b : Bool) → (rd old a v : ℕ) → Machine → Outcome
exchanged b rd old a v m = kind.exchange_outcome rd old (if b then Some (in_ram_stored 4 (number_of m) a v m.shared) else None) a m

exchanged_still : (b : Bool) (rd old a v : ℕ) (m : Machine) → Still m (exchanged b rd old a v m) (λ c i t. exchanged b rd old a v (timed c i t m))
exchanged_still true rd old a v m = record { any = λ c i t. refl; csrs = refl; devices = refl }
exchanged_still false rd old a v m = record { any = λ c i t. refl; csrs = refl; devices = refl }

atomic_outcome_still : (o : Amo) (rd a v : ℕ) (old : Option ℕ) (m : Machine) → Still m (kind.atomic_outcome o rd a v old m) (λ c i t. kind.atomic_outcome o rd a v old (timed c i t m))
atomic_outcome_still o rd a v None m = record { any = λ c i t. refl; csrs = refl; devices = refl }
atomic_outcome_still o rd a v (Some old) m = exchanged_still (in_ram 4 a m.shared.bytes) rd old a (kind.atomic_value o old v) m

atomic_still : (o : Amo) (rd a v : ℕ) (m : Machine) → Still m (kind.atomic o rd a v m) (λ c i t. kind.atomic o rd a v (timed c i t m))
atomic_still o rd a v m =
    let old : Option ℕ = ram_load 4 a m.shared.bytes in
    guarded (a % 4 == 0) m (kind.atomic_outcome o rd a v old m) (λ c i t. kind.atomic_outcome o rd a v old (timed c i t m)) StoreAddressMisaligned a (atomic_outcome_still o rd a v old m)

-- the end of SC, if it is known whether the word is reserved, and whether its address is in RAM
abbrev conditional : (held inside : Bool) → (rd a v : ℕ) → Machine → Outcome
conditional held inside rd a v m =
    if held
    then kind.exchange_outcome rd 0 (if inside then Some (in_ram_stored 4 (number_of m) a v (kind.without_reservation m).shared) else None) a (kind.without_reservation m)
    else done_with rd 1 (kind.without_reservation m)

held_still : (held inside : Bool) (rd a v : ℕ) (m : Machine) → Still m (conditional held inside rd a v m) (λ c i t. conditional held inside rd a v (timed c i t m))
held_still true true rd a v m = record { any = λ c i t. refl; csrs = refl; devices = refl }
held_still true false rd a v m = record { any = λ c i t. refl; csrs = refl; devices = refl }
held_still false inside rd a v m = record { any = λ c i t. refl; csrs = refl; devices = refl }

conditional_still : (rd a v : ℕ) (m : Machine) → Still m (kind.store_conditional rd a v m) (λ c i t. kind.store_conditional rd a v (timed c i t m))
conditional_still rd a v m =
    let b : Bool = in_ram 4 a m.shared.bytes in
    let h : Bool = res.holds (number_of m) a m.shared.reservations in
    guarded (a % 4 == 0) m
    (if b then conditional h b rd a v m else Traps StoreAccessFault a)
    (λ c i t. if b then conditional h b rd a v (timed c i t m) else Traps StoreAccessFault a)
    StoreAddressMisaligned a
    (guarded b m (conditional h b rd a v m) (λ c i t. conditional h b rd a v (timed c i t m)) StoreAccessFault a (held_still h b rd a v m))

-- ROWS

effect_still : (w : ℕ) (i : Ins) (m : Machine) → stays_in_ram i m ≡ true → Still m (effect w i m) (λ c r t. effect w i (timed c r t m))
unfolding effect stays_in_ram
effect_still w (Lui rd i) m stays = put_still rd (i * 2 ^ 12) m
effect_still w (Auipc rd i) m stays = put_still rd ((m.hart.pc + i * 2 ^ 12) % 2 ^ 32) m
effect_still w (Jal rd i) m stays = jump_still rd (kind.sum m.hart.pc i) m
effect_still w (Jalr rd rs1 i) m stays = jump_still rd (kind.even (kind.sum (reg rs1 m.hart) i)) m
effect_still w (Beq rs1 rs2 i) m stays = branch_still (kind.holds test.Eq (reg rs1 m.hart) (reg rs2 m.hart)) i m
effect_still w (Bne rs1 rs2 i) m stays = branch_still (kind.holds test.Ne (reg rs1 m.hart) (reg rs2 m.hart)) i m
effect_still w (Blt rs1 rs2 i) m stays = branch_still (kind.holds test.Lt (reg rs1 m.hart) (reg rs2 m.hart)) i m
effect_still w (Bge rs1 rs2 i) m stays = branch_still (kind.holds test.Ge (reg rs1 m.hart) (reg rs2 m.hart)) i m
effect_still w (Bltu rs1 rs2 i) m stays = branch_still (kind.holds test.Ltu (reg rs1 m.hart) (reg rs2 m.hart)) i m
effect_still w (Bgeu rs1 rs2 i) m stays = branch_still (kind.holds test.Geu (reg rs1 m.hart) (reg rs2 m.hart)) i m
effect_still w (Lb rd rs1 i) m stays = load_byte_still sign_extended_byte rd (kind.sum (reg rs1 m.hart) i) m
effect_still w (Lh rd rs1 i) m stays = load_half_still sign_extended_half rd (kind.sum (reg rs1 m.hart) i) m
effect_still w (Lw rd rs1 i) m stays = load_word_still rd (kind.sum (reg rs1 m.hart) i) m stays
effect_still w (Lbu rd rs1 i) m stays = load_byte_still zero_extended rd (kind.sum (reg rs1 m.hart) i) m
effect_still w (Lhu rd rs1 i) m stays = load_half_still zero_extended rd (kind.sum (reg rs1 m.hart) i) m
effect_still w (Sb rs1 rs2 i) m stays = store_byte_still (kind.sum (reg rs1 m.hart) i) (reg rs2 m.hart) m
effect_still w (Sh rs1 rs2 i) m stays = store_half_still (kind.sum (reg rs1 m.hart) i) (reg rs2 m.hart) m
effect_still w (Sw rs1 rs2 i) m stays = store_word_still (kind.sum (reg rs1 m.hart) i) (reg rs2 m.hart) m stays
effect_still w (Addi rd rs1 i) m stays = value_still op.Add rd (reg rs1 m.hart) (modulo 32 i) m
effect_still w (Slti rd rs1 i) m stays = value_still op.Slt rd (reg rs1 m.hart) (modulo 32 i) m
effect_still w (Sltiu rd rs1 i) m stays = value_still op.Sltu rd (reg rs1 m.hart) (modulo 32 i) m
effect_still w (Xori rd rs1 i) m stays = value_still op.Xor rd (reg rs1 m.hart) (modulo 32 i) m
effect_still w (Ori rd rs1 i) m stays = value_still op.Or rd (reg rs1 m.hart) (modulo 32 i) m
effect_still w (Andi rd rs1 i) m stays = value_still op.And rd (reg rs1 m.hart) (modulo 32 i) m
effect_still w (Slli rd rs1 n) m stays = value_still op.Sll rd (reg rs1 m.hart) n m
effect_still w (Srli rd rs1 n) m stays = value_still op.Srl rd (reg rs1 m.hart) n m
effect_still w (Srai rd rs1 n) m stays = value_still op.Sra rd (reg rs1 m.hart) n m
effect_still w (Add rd rs1 rs2) m stays = value_still op.Add rd (reg rs1 m.hart) (reg rs2 m.hart) m
effect_still w (Sub rd rs1 rs2) m stays = value_still op.Sub rd (reg rs1 m.hart) (reg rs2 m.hart) m
effect_still w (Sll rd rs1 rs2) m stays = value_still op.Sll rd (reg rs1 m.hart) (reg rs2 m.hart) m
effect_still w (Slt rd rs1 rs2) m stays = value_still op.Slt rd (reg rs1 m.hart) (reg rs2 m.hart) m
effect_still w (Sltu rd rs1 rs2) m stays = value_still op.Sltu rd (reg rs1 m.hart) (reg rs2 m.hart) m
effect_still w (Xor rd rs1 rs2) m stays = value_still op.Xor rd (reg rs1 m.hart) (reg rs2 m.hart) m
effect_still w (Srl rd rs1 rs2) m stays = value_still op.Srl rd (reg rs1 m.hart) (reg rs2 m.hart) m
effect_still w (Sra rd rs1 rs2) m stays = value_still op.Sra rd (reg rs1 m.hart) (reg rs2 m.hart) m
effect_still w (Or rd rs1 rs2) m stays = value_still op.Or rd (reg rs1 m.hart) (reg rs2 m.hart) m
effect_still w (And rd rs1 rs2) m stays = value_still op.And rd (reg rs1 m.hart) (reg rs2 m.hart) m
effect_still w (Mul rd rs1 rs2) m stays = value_still op.Mul rd (reg rs1 m.hart) (reg rs2 m.hart) m
effect_still w (Mulh rd rs1 rs2) m stays = value_still op.Mulh rd (reg rs1 m.hart) (reg rs2 m.hart) m
effect_still w (Mulhsu rd rs1 rs2) m stays = value_still op.Mulhsu rd (reg rs1 m.hart) (reg rs2 m.hart) m
effect_still w (Mulhu rd rs1 rs2) m stays = value_still op.Mulhu rd (reg rs1 m.hart) (reg rs2 m.hart) m
effect_still w (Div rd rs1 rs2) m stays = value_still op.Div rd (reg rs1 m.hart) (reg rs2 m.hart) m
effect_still w (Divu rd rs1 rs2) m stays = value_still op.Divu rd (reg rs1 m.hart) (reg rs2 m.hart) m
effect_still w (Rem rd rs1 rs2) m stays = value_still op.Rem rd (reg rs1 m.hart) (reg rs2 m.hart) m
effect_still w (Remu rd rs1 rs2) m stays = value_still op.Remu rd (reg rs1 m.hart) (reg rs2 m.hart) m
effect_still w (Fence rd rs1 i) m stays = done_still m
effect_still w (FenceI rd rs1 i) m stays = done_still m
effect_still w Ecall m stays = absurd cc
effect_still w Ebreak m stays = absurd cc
effect_still w Mret m stays = absurd cc
effect_still w Wfi m stays = done_still m
effect_still w (Csrrw rd rs1 n) m stays = absurd cc
effect_still w (Csrrs rd rs1 n) m stays = absurd cc
effect_still w (Csrrc rd rs1 n) m stays = absurd cc
effect_still w (Csrrwi rd i n) m stays = absurd cc
effect_still w (Csrrsi rd i n) m stays = absurd cc
effect_still w (Csrrci rd i n) m stays = absurd cc
effect_still w (LrW rd rs1 aq rl) m stays = reserved_still rd (reg rs1 m.hart) m
effect_still w (ScW rd rs1 rs2 aq rl) m stays = conditional_still rd (reg rs1 m.hart) (reg rs2 m.hart) m
effect_still w (AmoswapW rd rs1 rs2 aq rl) m stays = atomic_still amo.Swap rd (reg rs1 m.hart) (reg rs2 m.hart) m
effect_still w (AmoaddW rd rs1 rs2 aq rl) m stays = atomic_still amo.Add rd (reg rs1 m.hart) (reg rs2 m.hart) m
effect_still w (AmoxorW rd rs1 rs2 aq rl) m stays = atomic_still amo.Xor rd (reg rs1 m.hart) (reg rs2 m.hart) m
effect_still w (AmoandW rd rs1 rs2 aq rl) m stays = atomic_still amo.And rd (reg rs1 m.hart) (reg rs2 m.hart) m
effect_still w (AmoorW rd rs1 rs2 aq rl) m stays = atomic_still amo.Or rd (reg rs1 m.hart) (reg rs2 m.hart) m
effect_still w (AmominW rd rs1 rs2 aq rl) m stays = atomic_still amo.Min rd (reg rs1 m.hart) (reg rs2 m.hart) m
effect_still w (AmomaxW rd rs1 rs2 aq rl) m stays = atomic_still amo.Max rd (reg rs1 m.hart) (reg rs2 m.hart) m
effect_still w (AmominuW rd rs1 rs2 aq rl) m stays = atomic_still amo.Minu rd (reg rs1 m.hart) (reg rs2 m.hart) m
effect_still w (AmomaxuW rd rs1 rs2 aq rl) m stays = atomic_still amo.Maxu rd (reg rs1 m.hart) (reg rs2 m.hart) m

decoded_still : (w : ℕ) (o : Option Ins) (m : Machine) → decoded_stays o m ≡ true → Still m (decoded_outcome w o m) (λ c i t. decoded_outcome w o (timed c i t m))
decoded_still w None m stays = absurd cc
decoded_still w (Some i) m stays = effect_still w i m stays

fetched_still : (o : Option ℕ) (m : Machine) → fetched_stays o m ≡ true → Still m (fetched_outcome o m) (λ c i t. fetched_outcome o (timed c i t m))
fetched_still None m stays = absurd cc
fetched_still (Some w) m stays = decoded_still w (decoded w) m stays

pub execute_still : (m : Machine) → is_straight m ≡ true → Still m (execute m) (λ c i t. execute (timed c i t m))
execute_still m straight = fetched_still (ram_load 4 m.hart.pc m.shared.bytes) m straight
