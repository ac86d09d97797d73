-- A step changes no page that it does not list.
use Rattle.std.proofs.Common.{◌≡◌, ℕ, ◌+◌, ◌-◌, ◌%◌, ◌^◌, ◌≤◌, Bool, true, false, List, [], Option, Some, None, length, refl, ap, arith, ℤ, if◌then◌else◌, option_map, ◌==◌}
use Rattle.std.proofs.lemmas.Bool.{eqb-true}
use Rattle.std.proofs.lemmas.Bool.Decides.{nat_tests}
use Rattle.rvm_mem.specs.Others.{Others}
use Rattle.rvm_mem.specs.Pages.{page_of}
use Rattle.rvm_mem.proofs.Others.{store_others}
use Rattle.rvm_csr.specs.declared.cause.Exception.{Exception}
use Rattle.rvm_csr.specs.Registers.{CsrState}
use Rattle.rvm_csr.specs.Table.{csr_write}
use Rattle.rvm_csr.specs.Traps.{pending}
use Rattle.rvm_dev.specs.declared.register.Register.{Register}
use Rattle.rvm_dev.specs.Devices as dev
use Rattle.rvm_res.specs.Reservations as res
use Rattle.rvm_isa.specs.declared.ins.Ins.{Ins}
use Rattle.rvm_isa.specs.declared.ins.Ins.TheVariants.{Lui, Auipc, Jal, Jalr, Beq, Bne, Blt, Bge, Bltu, Bgeu, Lb, Lh, Lw, Lbu, Lhu, Sb, Sh, Sw, Addi, Slti, Sltiu, Xori, Ori, Andi, Slli, Srli, Srai, Add, Sub, Sll, Slt, Sltu, Xor, Srl, Sra, Or, And, Mul, Mulh, Mulhsu, Mulhu, Div, Divu, Rem, Remu, Fence, FenceI, Ecall, Ebreak, Mret, Wfi, Csrrw, Csrrs, Csrrc, Csrrwi, Csrrsi, Csrrci, LrW, ScW, AmoswapW, AmoaddW, AmoxorW, AmoandW, AmoorW, AmominW, AmomaxW, AmominuW, AmomaxuW}
use Rattle.rvm_isa.specs.Table.{decoded}
use Rattle.rvm_hart.specs.declared.atomics.Amo.{Amo}
use Rattle.rvm_hart.specs.declared.csrs.CsrChange.{CsrChange}
use Rattle.rvm_hart.specs.Machine.{Machine, Shared, number_of}
use Rattle.rvm_hart.specs.Bus.{in_ram, ram_base, ram_load, in_ram_stored, ram_stored, device_stored, word_stored, word_loaded, after_word_load, Stored, mip_of, wrote_of}
use Rattle.rvm_hart.specs.Outcome.{Outcome, Done, Traps, machine_after, done_with, done, reg}
use Rattle.rvm_hart.specs.Kinds as kind
use Rattle.rvm_hart.specs.Rows.{effect, sign_extended_byte, sign_extended_half, zero_extended}
use Rattle.rvm_hart.specs.declared.atomics.Amo.TheVariants as amo
use Rattle.rvm_hart.specs.declared.csrs.CsrChange.TheVariants as change
use Rattle.rvm_hart.specs.declared.jumps.Comparison.TheVariants as test
use Rattle.rvm_hart.specs.Step.{decoded_outcome, fetched_outcome, execute, after_outcome, unless_pending, unless_halted, step}
use Rattle.rvm_csr.specs.declared.cause.Interrupt.{Interrupt}

-- the pages that an outcome lists
abbrev pages_of : Outcome → List ℕ
pages_of (Done after pages wrote) = pages
pages_of (Traps exception value) = []

-- the pages that an outcome does not list are the machine's
abbrev Leaves : Outcome → Machine → Type 0
Leaves o m = Others (pages_of o) (machine_after o m).shared.bytes m.shared.bytes

-- STORES

abbrev StoreLeaves : Option Stored → List ℕ → Type 0
StoreLeaves None bytes = Unit {0}
StoreLeaves (Some s) bytes = Others s.pages s.shared.bytes bytes

-- the n bytes from an address are in one page
abbrev IsInPage : (n a : ℕ) → Type 0
IsInPage n a = ram_base ≤ a → (a - ram_base) % 4096 + n ≤ 4096

one_in_page : (a : ℕ) → IsInPage 1 a
one_in_page a above = omega (arith)

two_in_page : (a : ℕ) → (a % 2 == 0) ≡ true → IsInPage 2 a
two_in_page a even above = let e : a % 2 ≡ 0 = eqb-true _ _ even in omega (arith, e, above)

four_in_page : (a : ℕ) → (a % 4 == 0) ≡ true → IsInPage 4 a
four_in_page a even above = let e : a % 4 ≡ 0 = eqb-true _ _ even in omega (arith, e, above)

in_ram_stored_others : (n hart a v : ℕ) (r : Shared) → IsInPage n a → in_ram n a r.bytes ≡ true → Others (in_ram_stored n hart a v r).pages (in_ram_stored n hart a v r).shared.bytes r.bytes
in_ram_stored_others n hart a v r page inside =
    let above : ram_base ≤ a = grind (arith, nat_tests) in
    let room : a - ram_base + n ≤ length r.bytes = grind (arith, nat_tests) in
    store_others n (a - ram_base) v r.bytes room (page above)

ram_cases : (b : Bool) (n hart a v : ℕ) (r : Shared) → IsInPage n a → in_ram n a r.bytes ≡ b → StoreLeaves (if b then Some (in_ram_stored n hart a v r) else None) r.bytes
ram_cases true n hart a v r page inside = in_ram_stored_others n hart a v r page inside
ram_cases false n hart a v r page outside = tt

ram_stored_others : (n hart a v : ℕ) (r : Shared) → IsInPage n a → StoreLeaves (ram_stored n hart a v r) r.bytes
ram_stored_others n hart a v r page = ram_cases (in_ram n a r.bytes) n hart a v r page refl

device_cases : (o : Option Register) (v : ℕ) (r : Shared) → StoreLeaves (option_map (λ x. record { shared = record r { devices = dev.after_store x v r.devices }; pages = []; wrote = wrote_of x v }) o) r.bytes
device_cases None v r = tt
device_cases (Some x) v r = λ p none. refl

word_cases : (b : Bool) (hart a v : ℕ) (r : Shared) → IsInPage 4 a → in_ram 4 a r.bytes ≡ b → StoreLeaves (if b then Some (in_ram_stored 4 hart a v r) else device_stored a v r) r.bytes
word_cases true hart a v r page inside = in_ram_stored_others 4 hart a v r page inside
word_cases false hart a v r page outside = device_cases (dev.register_of a r.devices) v r

word_stored_others : (hart a v : ℕ) (r : Shared) → IsInPage 4 a → StoreLeaves (word_stored hart a v r) r.bytes
word_stored_others hart a v r page = word_cases (in_ram 4 a r.bytes) hart a v r page refl

-- OUTCOMES

-- if a test fails, the instruction traps
guarded : (b : Bool) (o : Outcome) (e : Exception) (v : ℕ) (m : Machine) → (b ≡ true → Leaves o m) → Leaves (if b then o else Traps e v) m
guarded true o e v m leaves = leaves refl
guarded false o e v m leaves = λ p none. refl

one_of : (b : Bool) (o n : Outcome) (m : Machine) → Leaves o m → Leaves n m → Leaves (if b then o else n) m
one_of true o n m first second = first
one_of false o n m first second = second

jump_others : (rd target : ℕ) (m : Machine) → Leaves (kind.jump rd target m) m
jump_others rd target m = guarded (target % 4 == 0) _ _ target m (λ h. λ p none. refl)

branch_others : (taken : Bool) (offset : ℤ) (m : Machine) → Leaves (kind.branch taken offset m) m
branch_others taken offset m = one_of taken (kind.jump 0 (kind.sum m.hart.pc offset) m) (done m) m (jump_others 0 (kind.sum m.hart.pc offset) m) (λ p none. refl)

load_outcome_others : (rd : ℕ) (o : Option ℕ) (a : ℕ) (l m : Machine) → l.shared.bytes ≡ m.shared.bytes → Leaves (kind.load_outcome rd o a l) m
load_outcome_others rd None a l m same = λ p none. refl
load_outcome_others rd (Some v) a l m same = λ p none. ap (λ bytes. page_of p bytes) same

load_byte_others : (f : ℕ → ℕ) (rd a : ℕ) (m : Machine) → Leaves (kind.load_byte f rd a m) m
load_byte_others f rd a m = load_outcome_others rd _ a m m refl

load_half_others : (f : ℕ → ℕ) (rd a : ℕ) (m : Machine) → Leaves (kind.load_half f rd a m) m
load_half_others f rd a m = guarded (a % 2 == 0) _ _ a m (λ h. load_outcome_others rd (option_map f (ram_load 2 a m.shared.bytes)) a m m refl)

word_load_bytes : (b : Bool) (a : ℕ) (r : Shared) → (if b then r else record r { devices = dev.loaded a r.devices }).bytes ≡ r.bytes
word_load_bytes true a r = refl
word_load_bytes false a r = refl

load_word_others : (rd a : ℕ) (m : Machine) → Leaves (kind.load_word rd a m) m
load_word_others rd a m =
    let l : Machine = record m { shared = after_word_load a m.shared } in
    guarded (a % 4 == 0) _ _ a m (λ h. load_outcome_others rd (word_loaded a m.shared) a l m (word_load_bytes (in_ram 4 a m.shared.bytes) a m.shared))

store_outcome_others : (o : Option Stored) (a : ℕ) (m : Machine) → StoreLeaves o m.shared.bytes → Leaves (kind.store_outcome o a m) m
store_outcome_others None a m leaves = λ p none. refl
store_outcome_others (Some s) a m leaves = leaves

store_byte_others : (a v : ℕ) (m : Machine) → Leaves (kind.store_byte a v m) m
store_byte_others a v m = store_outcome_others (ram_stored 1 (number_of m) a (v % 2 ^ 8) m.shared) a m (ram_stored_others 1 (number_of m) a (v % 2 ^ 8) m.shared (one_in_page a))

store_half_others : (a v : ℕ) (m : Machine) → Leaves (kind.store_half a v m) m
store_half_others a v m =
    guarded (a % 2 == 0) _ _ a m (λ h. store_outcome_others (ram_stored 2 (number_of m) a (v % 2 ^ 16) m.shared) a m (ram_stored_others 2 (number_of m) a (v % 2 ^ 16) m.shared (two_in_page a h)))

store_word_others : (a v : ℕ) (m : Machine) → Leaves (kind.store_word a v m) m
store_word_others a v m =
    guarded (a % 4 == 0) _ _ a m (λ h. store_outcome_others (word_stored (number_of m) a v m.shared) a m (word_stored_others (number_of m) a v m.shared (four_in_page a h)))

-- ATOMICS

load_reserved_others : (rd a : ℕ) (m : Machine) → Leaves (kind.load_reserved rd a m) m
load_reserved_others rd a m =
    guarded (a % 4 == 0) _ _ a m (λ h. load_outcome_others rd (ram_load 4 a m.shared.bytes) a (kind.with_reservations_of (res.held (number_of m) a m.shared.reservations) m) m refl)

exchange_outcome_others : (rd v : ℕ) (o : Option Stored) (a : ℕ) (l m : Machine) → StoreLeaves o m.shared.bytes → Leaves (kind.exchange_outcome rd v o a l) m
exchange_outcome_others rd v None a l m leaves = λ p none. refl
exchange_outcome_others rd v (Some s) a l m leaves = leaves

store_conditional_others : (rd a v : ℕ) (m : Machine) → Leaves (kind.store_conditional rd a v m) m
store_conditional_others rd a v m =
    let u : Machine = kind.without_reservation m in
    guarded (a % 4 == 0) _ _ a m (λ h. guarded (in_ram 4 a m.shared.bytes) _ _ a m (λ k.
    one_of (res.holds (number_of m) a m.shared.reservations) (kind.exchange_outcome rd 0 (ram_stored 4 (number_of m) a v u.shared) a u) (done_with rd 1 u) m
    (exchange_outcome_others rd 0 (ram_stored 4 (number_of m) a v u.shared) a u m (ram_stored_others 4 (number_of m) a v u.shared (four_in_page a h)))
    (λ p none. refl)))

atomic_outcome_others : (op : Amo) (rd a v : ℕ) (o : Option ℕ) (m : Machine) → IsInPage 4 a → Leaves (kind.atomic_outcome op rd a v o m) m
atomic_outcome_others op rd a v None m page = λ p none. refl
atomic_outcome_others op rd a v (Some old) m page =
    exchange_outcome_others rd old (ram_stored 4 (number_of m) a (kind.atomic_value op old v) m.shared) a m m (ram_stored_others 4 (number_of m) a (kind.atomic_value op old v) m.shared page)

atomic_others : (op : Amo) (rd a v : ℕ) (m : Machine) → Leaves (kind.atomic op rd a v m) m
atomic_others op rd a v m = guarded (a % 4 == 0) _ _ a m (λ h. atomic_outcome_others op rd a v (ram_load 4 a m.shared.bytes) m (four_in_page a h))

-- CSR INSTRUCTIONS

csr_write_outcome_others : (w rd n old : ℕ) (o : Option CsrState) (m : Machine) → Leaves (kind.csr_write_outcome w rd n old o m) m
csr_write_outcome_others w rd n old None m = λ p none. refl
csr_write_outcome_others w rd n old (Some s) m = λ p none. refl

csr_read_outcome_others : (w rd : ℕ) (o : Option ℕ) (m : Machine) → Leaves (kind.csr_read_outcome w rd o m) m
csr_read_outcome_others w rd None m = λ p none. refl
csr_read_outcome_others w rd (Some value) m = λ p none. refl

csr_change_outcome_others : (w rd n : ℕ) (c : CsrChange) (source : ℕ) (o : Option ℕ) (m : Machine) → Leaves (kind.csr_change_outcome w rd n c source o m) m
csr_change_outcome_others w rd n c source None m = λ p none. refl
csr_change_outcome_others w rd n c source (Some old) m = csr_write_outcome_others w rd n old (csr_write n (kind.changed_value c old source) m.hart.csrs) m

access_csr_others : (w rd n : ℕ) (c : CsrChange) (field source : ℕ) (m : Machine) → Leaves (kind.access_csr w rd n c field source m) m
access_csr_others w rd n c field source m =
    one_of (kind.writes c field) _ _ m (csr_change_outcome_others w rd n c source (kind.csr_value n m) m) (csr_read_outcome_others w rd (kind.csr_value n m) m)

-- ROWS

effect_others : (w : ℕ) (i : Ins) (m : Machine) → Leaves (effect w i m) m
unfolding effect
effect_others w (Lui rd i) m = λ p none. refl
effect_others w (Auipc rd i) m = λ p none. refl
effect_others w (Jal rd i) m = jump_others rd (kind.sum m.hart.pc i) m
effect_others w (Jalr rd rs1 i) m = jump_others rd (kind.even (kind.sum (reg rs1 m.hart) i)) m
effect_others w (Beq rs1 rs2 i) m = branch_others (kind.holds test.Eq (reg rs1 m.hart) (reg rs2 m.hart)) i m
effect_others w (Bne rs1 rs2 i) m = branch_others (kind.holds test.Ne (reg rs1 m.hart) (reg rs2 m.hart)) i m
effect_others w (Blt rs1 rs2 i) m = branch_others (kind.holds test.Lt (reg rs1 m.hart) (reg rs2 m.hart)) i m
effect_others w (Bge rs1 rs2 i) m = branch_others (kind.holds test.Ge (reg rs1 m.hart) (reg rs2 m.hart)) i m
effect_others w (Bltu rs1 rs2 i) m = branch_others (kind.holds test.Ltu (reg rs1 m.hart) (reg rs2 m.hart)) i m
effect_others w (Bgeu rs1 rs2 i) m = branch_others (kind.holds test.Geu (reg rs1 m.hart) (reg rs2 m.hart)) i m
effect_others w (Lb rd rs1 i) m = load_byte_others sign_extended_byte rd (kind.sum (reg rs1 m.hart) i) m
effect_others w (Lh rd rs1 i) m = load_half_others sign_extended_half rd (kind.sum (reg rs1 m.hart) i) m
effect_others w (Lw rd rs1 i) m = load_word_others rd (kind.sum (reg rs1 m.hart) i) m
effect_others w (Lbu rd rs1 i) m = load_byte_others zero_extended rd (kind.sum (reg rs1 m.hart) i) m
effect_others w (Lhu rd rs1 i) m = load_half_others zero_extended rd (kind.sum (reg rs1 m.hart) i) m
effect_others w (Sb rs1 rs2 i) m = store_byte_others (kind.sum (reg rs1 m.hart) i) (reg rs2 m.hart) m
effect_others w (Sh rs1 rs2 i) m = store_half_others (kind.sum (reg rs1 m.hart) i) (reg rs2 m.hart) m
effect_others w (Sw rs1 rs2 i) m = store_word_others (kind.sum (reg rs1 m.hart) i) (reg rs2 m.hart) m
effect_others w (Addi rd rs1 i) m = λ p none. refl
effect_others w (Slti rd rs1 i) m = λ p none. refl
effect_others w (Sltiu rd rs1 i) m = λ p none. refl
effect_others w (Xori rd rs1 i) m = λ p none. refl
effect_others w (Ori rd rs1 i) m = λ p none. refl
effect_others w (Andi rd rs1 i) m = λ p none. refl
effect_others w (Slli rd rs1 n) m = λ p none. refl
effect_others w (Srli rd rs1 n) m = λ p none. refl
effect_others w (Srai rd rs1 n) m = λ p none. refl
effect_others w (Add rd rs1 rs2) m = λ p none. refl
effect_others w (Sub rd rs1 rs2) m = λ p none. refl
effect_others w (Sll rd rs1 rs2) m = λ p none. refl
effect_others w (Slt rd rs1 rs2) m = λ p none. refl
effect_others w (Sltu rd rs1 rs2) m = λ p none. refl
effect_others w (Xor rd rs1 rs2) m = λ p none. refl
effect_others w (Srl rd rs1 rs2) m = λ p none. refl
effect_others w (Sra rd rs1 rs2) m = λ p none. refl
effect_others w (Or rd rs1 rs2) m = λ p none. refl
effect_others w (And rd rs1 rs2) m = λ p none. refl
effect_others w (Mul rd rs1 rs2) m = λ p none. refl
effect_others w (Mulh rd rs1 rs2) m = λ p none. refl
effect_others w (Mulhsu rd rs1 rs2) m = λ p none. refl
effect_others w (Mulhu rd rs1 rs2) m = λ p none. refl
effect_others w (Div rd rs1 rs2) m = λ p none. refl
effect_others w (Divu rd rs1 rs2) m = λ p none. refl
effect_others w (Rem rd rs1 rs2) m = λ p none. refl
effect_others w (Remu rd rs1 rs2) m = λ p none. refl
effect_others w (Fence rd rs1 i) m = λ p none. refl
effect_others w (FenceI rd rs1 i) m = λ p none. refl
effect_others w Ecall m = λ p none. refl
effect_others w Ebreak m = λ p none. refl
effect_others w Mret m = λ p none. refl
effect_others w Wfi m = λ p none. refl
effect_others w (Csrrw rd rs1 n) m = access_csr_others w rd n change.Write rs1 (reg rs1 m.hart) m
effect_others w (Csrrs rd rs1 n) m = access_csr_others w rd n change.Set rs1 (reg rs1 m.hart) m
effect_others w (Csrrc rd rs1 n) m = access_csr_others w rd n change.Clear rs1 (reg rs1 m.hart) m
effect_others w (Csrrwi rd i n) m = access_csr_others w rd n change.Write i i m
effect_others w (Csrrsi rd i n) m = access_csr_others w rd n change.Set i i m
effect_others w (Csrrci rd i n) m = access_csr_others w rd n change.Clear i i m
effect_others w (LrW rd rs1 aq rl) m = load_reserved_others rd (reg rs1 m.hart) m
effect_others w (ScW rd rs1 rs2 aq rl) m = store_conditional_others rd (reg rs1 m.hart) (reg rs2 m.hart) m
effect_others w (AmoswapW rd rs1 rs2 aq rl) m = atomic_others amo.Swap rd (reg rs1 m.hart) (reg rs2 m.hart) m
effect_others w (AmoaddW rd rs1 rs2 aq rl) m = atomic_others amo.Add rd (reg rs1 m.hart) (reg rs2 m.hart) m
effect_others w (AmoxorW rd rs1 rs2 aq rl) m = atomic_others amo.Xor rd (reg rs1 m.hart) (reg rs2 m.hart) m
effect_others w (AmoandW rd rs1 rs2 aq rl) m = atomic_others amo.And rd (reg rs1 m.hart) (reg rs2 m.hart) m
effect_others w (AmoorW rd rs1 rs2 aq rl) m = atomic_others amo.Or rd (reg rs1 m.hart) (reg rs2 m.hart) m
effect_others w (AmominW rd rs1 rs2 aq rl) m = atomic_others amo.Min rd (reg rs1 m.hart) (reg rs2 m.hart) m
effect_others w (AmomaxW rd rs1 rs2 aq rl) m = atomic_others amo.Max rd (reg rs1 m.hart) (reg rs2 m.hart) m
effect_others w (AmominuW rd rs1 rs2 aq rl) m = atomic_others amo.Minu rd (reg rs1 m.hart) (reg rs2 m.hart) m
effect_others w (AmomaxuW rd rs1 rs2 aq rl) m = atomic_others amo.Maxu rd (reg rs1 m.hart) (reg rs2 m.hart) m

-- STEPS

decoded_others : (w : ℕ) (o : Option Ins) (m : Machine) → Leaves (decoded_outcome w o m) m
decoded_others w None m = λ p none. refl
decoded_others w (Some i) m = effect_others w i m

fetched_others : (o : Option ℕ) (m : Machine) → Leaves (fetched_outcome o m) m
fetched_others None m = λ p none. refl
fetched_others (Some w) m = decoded_others w (decoded w) m

after_outcome_others : (o : Outcome) (m : Machine) → Leaves o m → Others (after_outcome o m).pages (after_outcome o m).machine.shared.bytes m.shared.bytes
after_outcome_others (Done after pages w) m leaves = leaves
after_outcome_others (Traps e v) m leaves = λ p none. refl

pending_others : (o : Option Interrupt) (m : Machine) → Others (unless_pending o m).pages (unless_pending o m).machine.shared.bytes m.shared.bytes
pending_others None m = after_outcome_others (execute m) m (fetched_others (ram_load 4 m.hart.pc m.shared.bytes) m)
pending_others (Some i) m = λ p none. refl

halted_others : (o : Option ℕ) (m : Machine) → Others (unless_halted o m).pages (unless_halted o m).machine.shared.bytes m.shared.bytes
halted_others None m = pending_others (pending (mip_of (number_of m) m.shared.devices) m.hart.csrs) m
halted_others (Some s) m = λ p none. refl

pub step_others : (m : Machine) → Others (step m).pages (step m).machine.shared.bytes m.shared.bytes
step_others m = halted_others m.shared.devices.halted m
