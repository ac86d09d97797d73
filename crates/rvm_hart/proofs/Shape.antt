-- No step changes the hart's number, the size of RAM, or the number of harts that reservations and devices are for.
use Rattle.std.proofs.Common.{◌≡◌, ℕ, zero, suc, ◌+◌, ◌-◌, ◌%◌, ◌^◌, ◌≤◌, Bool, true, false, List, [], ◌∷◌, Option, Some, None, length, refl, ap, ◌∙◌, arith, ℤ, if◌then◌else◌, option_map, ◌==◌}
use Rattle.std.proofs.lemmas.Bool.Decides.{nat_tests}
use Rattle.std.proofs.lemmas.List.{length-set, length-map}
use Rattle.rvm_mem.specs.Bytes.{store}
use Rattle.rvm_mem.proofs.Lengths.{length-store}
use Rattle.rvm_csr.specs.declared.register.Csr.{Csr}
use Rattle.rvm_csr.specs.declared.register.Csr.TheVariants.{Mstatus, Misa, Mie, Mtvec, Mstatush, Mcountinhibit, Mhpmevent, Mscratch, Mepc, Mcause, Mtval, Mip, Mcycle, Minstret, Mhpmcounter, Mcycleh, Minstreth, Mhpmcounterh, Mvendorid, Marchid, Mimpid, Mhartid, Mconfigptr}
use Rattle.rvm_csr.specs.declared.cause.Exception.{Exception}
use Rattle.rvm_csr.specs.declared.cause.Interrupt.{Interrupt}
use Rattle.rvm_csr.specs.Registers.{CsrState}
use Rattle.rvm_csr.specs.Table.{csr_at, csr_write, written, is_read_only}
use Rattle.rvm_csr.specs.Traps.{pending}
use Rattle.rvm_dev.specs.declared.register.Register.{Register}
use Rattle.rvm_dev.specs.declared.register.Register.TheVariants.{Halt, Msip, MtimecmpLow, MtimecmpHigh, MtimeLow, MtimeHigh, Transmit, Receive, Status, InterruptEnable}
use Rattle.rvm_dev.specs.Devices as dev
use Rattle.rvm_res.specs.Reservations as res
use Rattle.rvm_isa.specs.declared.ins.Ins.{Ins}
use Rattle.rvm_isa.specs.declared.ins.Ins.TheVariants.{Lui, Auipc, Jal, Jalr, Beq, Bne, Blt, Bge, Bltu, Bgeu, Lb, Lh, Lw, Lbu, Lhu, Sb, Sh, Sw, Addi, Slti, Sltiu, Xori, Ori, Andi, Slli, Srli, Srai, Add, Sub, Sll, Slt, Sltu, Xor, Srl, Sra, Or, And, Mul, Mulh, Mulhsu, Mulhu, Div, Divu, Rem, Remu, Fence, FenceI, Ecall, Ebreak, Mret, Wfi, Csrrw, Csrrs, Csrrc, Csrrwi, Csrrsi, Csrrci, LrW, ScW, AmoswapW, AmoaddW, AmoxorW, AmoandW, AmoorW, AmominW, AmomaxW, AmominuW, AmomaxuW}
use Rattle.rvm_isa.specs.Table.{decoded}
use Rattle.rvm_hart.specs.declared.atomics.Amo.{Amo}
use Rattle.rvm_hart.specs.declared.csrs.CsrChange.{CsrChange}
use Rattle.rvm_hart.specs.Machine.{Machine, Shared, shape, shared_shape, number_of}
use Rattle.rvm_hart.specs.Bus.{in_ram, ram_base, ram_load, in_ram_stored, ram_stored, device_stored, word_stored, word_loaded, after_word_load, Stored, mip_of, wrote_of}
use Rattle.rvm_hart.specs.Outcome.{Outcome, Done, Traps, machine_after, done_with, reg}
use Rattle.rvm_hart.specs.Pokes.{poked_each}
use Rattle.rvm_hart.specs.Kinds as kind
use Rattle.rvm_hart.specs.Rows.{effect, sign_extended_byte, sign_extended_half, zero_extended}
use Rattle.rvm_word.specs.Bits.{is_set}
use Rattle.rvm_hart.specs.declared.atomics.Amo.TheVariants as amo
use Rattle.rvm_hart.specs.declared.csrs.CsrChange.TheVariants as change
use Rattle.rvm_hart.specs.declared.jumps.Comparison.TheVariants as test
use Rattle.rvm_hart.specs.Step.{decoded_outcome, fetched_outcome, execute, after_outcome, unless_pending, unless_halted, step}

-- a machine has the shape of another
abbrev Keeps : Outcome → Machine → Type 0
Keeps o m = shape (machine_after o m) ≡ shape m

jump_keeps : (rd target : ℕ) (m : Machine) → Keeps (kind.jump rd target m) m
jump_keeps rd target m = grind arith

branch_keeps : (taken : Bool) (offset : ℤ) (m : Machine) → Keeps (kind.branch taken offset m) m
branch_keeps taken offset m = grind (arith, jump_keeps)

-- DEVICES

stored_keeps_msip : (r : Register) (v : ℕ) (d : dev.DeviceState) → length (dev.after_store r v d).msip ≡ length d.msip
stored_keeps_msip Halt v d = refl
stored_keeps_msip (Msip h) v d = length-set d.msip h (is_set 0 v)
stored_keeps_msip (MtimecmpLow h) v d = refl
stored_keeps_msip (MtimecmpHigh h) v d = refl
stored_keeps_msip MtimeLow v d = refl
stored_keeps_msip MtimeHigh v d = refl
stored_keeps_msip Transmit v d = grind arith
stored_keeps_msip Receive v d = refl
stored_keeps_msip Status v d = refl
stored_keeps_msip InterruptEnable v d = refl

stored_keeps_mtimecmp : (r : Register) (v : ℕ) (d : dev.DeviceState) → length (dev.after_store r v d).mtimecmp ≡ length d.mtimecmp
stored_keeps_mtimecmp Halt v d = refl
stored_keeps_mtimecmp (Msip h) v d = refl
stored_keeps_mtimecmp (MtimecmpLow h) v d = length-set d.mtimecmp h _
stored_keeps_mtimecmp (MtimecmpHigh h) v d = length-set d.mtimecmp h _
stored_keeps_mtimecmp MtimeLow v d = refl
stored_keeps_mtimecmp MtimeHigh v d = refl
stored_keeps_mtimecmp Transmit v d = grind arith
stored_keeps_mtimecmp Receive v d = refl
stored_keeps_mtimecmp Status v d = refl
stored_keeps_mtimecmp InterruptEnable v d = refl

-- what is reached, with other devices
with_devices : (r : Shared) (d : dev.DeviceState) → length d.msip ≡ length r.devices.msip → length d.mtimecmp ≡ length r.devices.mtimecmp → shared_shape (record r { devices = d }) ≡ shared_shape r
with_devices r d e f =
    ap (λ n. length r.bytes ∷ length r.reservations ∷ n ∷ length d.mtimecmp ∷ []) e
    ∙ ap (λ n. length r.bytes ∷ length r.reservations ∷ length r.devices.msip ∷ n ∷ []) f

loaded_from_keeps : (o : Option Register) (r : Shared) → shared_shape (record r { devices = dev.loaded_from o r.devices }) ≡ shared_shape r
loaded_from_keeps None r = refl
loaded_from_keeps (Some Halt) r = refl
loaded_from_keeps (Some (Msip h)) r = refl
loaded_from_keeps (Some (MtimecmpLow h)) r = refl
loaded_from_keeps (Some (MtimecmpHigh h)) r = refl
loaded_from_keeps (Some MtimeLow) r = refl
loaded_from_keeps (Some MtimeHigh) r = refl
loaded_from_keeps (Some Transmit) r = refl
loaded_from_keeps (Some Receive) r = refl
loaded_from_keeps (Some Status) r = refl
loaded_from_keeps (Some InterruptEnable) r = refl

word_load_cases : (b : Bool) (a : ℕ) (r : Shared) → shared_shape (if b then r else record r { devices = dev.loaded a r.devices }) ≡ shared_shape r
word_load_cases true a r = refl
word_load_cases false a r = loaded_from_keeps (dev.register_of a r.devices) r

after_word_load_keeps : (a : ℕ) (r : Shared) → shared_shape (after_word_load a r) ≡ shared_shape r
after_word_load_keeps a r = word_load_cases (in_ram 4 a r.bytes) a r

-- STORES

-- a store keeps the shape, if anything was stored
abbrev StoreKeeps : Option Stored → Shared → Type 0
StoreKeeps None r = Unit {0}
StoreKeeps (Some s) r = shared_shape s.shared ≡ shared_shape r

-- what is reached, with other bytes and reservations
with_bytes : (r : Shared) (bytes : List ℕ) (words : List (Option ℕ)) → length bytes ≡ length r.bytes → length words ≡ length r.reservations → shared_shape (record r { bytes = bytes; reservations = words }) ≡ shared_shape r
with_bytes r bytes words e f =
    ap (λ n. n ∷ length words ∷ length r.devices.msip ∷ length r.devices.mtimecmp ∷ []) e
    ∙ ap (λ n. length r.bytes ∷ n ∷ length r.devices.msip ∷ length r.devices.mtimecmp ∷ []) f

stored_words : (hart a : ℕ) (words : List (Option ℕ)) → length (res.stored hart a words) ≡ length words
stored_words hart a words = length-set (res.poked a words) hart _ ∙ length-map words _

in_ram_stored_keeps : (n hart a v : ℕ) (r : Shared) → in_ram n a r.bytes ≡ true → shared_shape (in_ram_stored n hart a v r).shared ≡ shared_shape r
in_ram_stored_keeps n hart a v r inside =
    let room : a - ram_base + n ≤ length r.bytes = grind (arith, nat_tests) in
    with_bytes r (store n (a - ram_base) v r.bytes) (res.stored hart a r.reservations) (length-store n (a - ram_base) v r.bytes room) (stored_words hart a r.reservations)

ram_cases : (b : Bool) (n hart a v : ℕ) (r : Shared) → in_ram n a r.bytes ≡ b → StoreKeeps (if b then Some (in_ram_stored n hart a v r) else None) r
ram_cases true n hart a v r inside = in_ram_stored_keeps n hart a v r inside
ram_cases false n hart a v r outside = tt

ram_stored_keeps : (n hart a v : ℕ) (r : Shared) → StoreKeeps (ram_stored n hart a v r) r
ram_stored_keeps n hart a v r = ram_cases (in_ram n a r.bytes) n hart a v r refl

device_cases : (o : Option Register) (v : ℕ) (r : Shared) → StoreKeeps (option_map (λ x. record { shared = record r { devices = dev.after_store x v r.devices }; pages = []; wrote = wrote_of x v }) o) r
device_cases None v r = tt
device_cases (Some x) v r = with_devices r (dev.after_store x v r.devices) (stored_keeps_msip x v r.devices) (stored_keeps_mtimecmp x v r.devices)

device_stored_keeps : (a v : ℕ) (r : Shared) → StoreKeeps (device_stored a v r) r
device_stored_keeps a v r = device_cases (dev.register_of a r.devices) v r

word_cases : (b : Bool) (hart a v : ℕ) (r : Shared) → in_ram 4 a r.bytes ≡ b → StoreKeeps (if b then Some (in_ram_stored 4 hart a v r) else device_stored a v r) r
word_cases true hart a v r inside = in_ram_stored_keeps 4 hart a v r inside
word_cases false hart a v r outside = device_stored_keeps a v r

word_stored_keeps : (hart a v : ℕ) (r : Shared) → StoreKeeps (word_stored hart a v r) r
word_stored_keeps hart a v r = word_cases (in_ram 4 a r.bytes) hart a v r refl

-- OUTCOMES

numbered : (m : Machine) (r s : Shared) → shared_shape r ≡ shared_shape s → (number_of m ∷ shared_shape r) ≡ (number_of m ∷ shared_shape s)
numbered m r s e = ap (λ l. number_of m ∷ l) e

-- if a test fails, the instruction traps
guarded : (b : Bool) (o : Outcome) (e : Exception) (v : ℕ) (m : Machine) → Keeps o m → Keeps (if b then o else Traps e v) m
guarded true o e v m keeps = keeps
guarded false o e v m keeps = refl

load_outcome_keeps : (rd : ℕ) (o : Option ℕ) (a : ℕ) (l m : Machine) → shape l ≡ shape m → Keeps (kind.load_outcome rd o a l) m
load_outcome_keeps rd None a l m same = refl
load_outcome_keeps rd (Some v) a l m same = same

load_byte_keeps : (f : ℕ → ℕ) (rd a : ℕ) (m : Machine) → Keeps (kind.load_byte f rd a m) m
load_byte_keeps f rd a m = load_outcome_keeps rd _ a m m refl

load_half_keeps : (f : ℕ → ℕ) (rd a : ℕ) (m : Machine) → Keeps (kind.load_half f rd a m) m
load_half_keeps f rd a m = guarded (a % 2 == 0) _ _ a m (load_outcome_keeps rd (option_map f (ram_load 2 a m.shared.bytes)) a m m refl)

load_word_keeps : (rd a : ℕ) (m : Machine) → Keeps (kind.load_word rd a m) m
load_word_keeps rd a m =
    let l : Machine = record m { shared = after_word_load a m.shared } in
    guarded (a % 4 == 0) _ _ a m (load_outcome_keeps rd (word_loaded a m.shared) a l m (numbered m (after_word_load a m.shared) m.shared (after_word_load_keeps a m.shared)))

store_outcome_keeps : (o : Option Stored) (a : ℕ) (m : Machine) → StoreKeeps o m.shared → Keeps (kind.store_outcome o a m) m
store_outcome_keeps None a m keeps = refl
store_outcome_keeps (Some s) a m keeps = numbered m s.shared m.shared keeps

store_byte_keeps : (a v : ℕ) (m : Machine) → Keeps (kind.store_byte a v m) m
store_byte_keeps a v m = store_outcome_keeps (ram_stored 1 (number_of m) a (v % 2 ^ 8) m.shared) a m (ram_stored_keeps 1 (number_of m) a (v % 2 ^ 8) m.shared)

store_half_keeps : (a v : ℕ) (m : Machine) → Keeps (kind.store_half a v m) m
store_half_keeps a v m =
    guarded (a % 2 == 0) _ _ a m (store_outcome_keeps (ram_stored 2 (number_of m) a (v % 2 ^ 16) m.shared) a m (ram_stored_keeps 2 (number_of m) a (v % 2 ^ 16) m.shared))

store_word_keeps : (a v : ℕ) (m : Machine) → Keeps (kind.store_word a v m) m
store_word_keeps a v m =
    guarded (a % 4 == 0) _ _ a m (store_outcome_keeps (word_stored (number_of m) a v m.shared) a m (word_stored_keeps (number_of m) a v m.shared))

-- ATOMICS

-- what is reached, with other reservations
with_reservations_of : (r : Shared) (words : List (Option ℕ)) → length words ≡ length r.reservations → shared_shape (record r { reservations = words }) ≡ shared_shape r
with_reservations_of r words e = with_bytes r r.bytes words refl e

load_reserved_keeps : (rd a : ℕ) (m : Machine) → Keeps (kind.load_reserved rd a m) m
load_reserved_keeps rd a m =
    let words : List (Option ℕ) = res.held (number_of m) a m.shared.reservations in
    let l : Machine = record m { shared = record m.shared { reservations = words } } in
    guarded (a % 4 == 0) _ _ a m (load_outcome_keeps rd (ram_load 4 a m.shared.bytes) a l m (numbered m l.shared m.shared (with_reservations_of m.shared words (length-set m.shared.reservations (number_of m) _))))

without_reservation_keeps : (m : Machine) → shape (kind.without_reservation m) ≡ shape m
without_reservation_keeps m =
    numbered m (kind.without_reservation m).shared m.shared (with_reservations_of m.shared (res.released (number_of m) m.shared.reservations) (length-set m.shared.reservations (number_of m) None))

exchange_outcome_keeps : (rd v : ℕ) (o : Option Stored) (a : ℕ) (l m : Machine) → shape l ≡ shape m → StoreKeeps o l.shared → Keeps (kind.exchange_outcome rd v o a l) m
exchange_outcome_keeps rd v None a l m same keeps = refl
exchange_outcome_keeps rd v (Some s) a l m same keeps = numbered l s.shared l.shared keeps ∙ same

sc_cases : (b : Bool) (rd a v : ℕ) (m : Machine) → Keeps (if b then kind.exchange_outcome rd 0 (ram_stored 4 (number_of m) a v (kind.without_reservation m).shared) a (kind.without_reservation m) else done_with rd 1 (kind.without_reservation m)) m
sc_cases true rd a v m = exchange_outcome_keeps rd 0 (ram_stored 4 (number_of m) a v (kind.without_reservation m).shared) a (kind.without_reservation m) m (without_reservation_keeps m) (ram_stored_keeps 4 (number_of m) a v (kind.without_reservation m).shared)
sc_cases false rd a v m = without_reservation_keeps m

store_conditional_keeps : (rd a v : ℕ) (m : Machine) → Keeps (kind.store_conditional rd a v m) m
store_conditional_keeps rd a v m =
    guarded (a % 4 == 0) _ _ a m (guarded (in_ram 4 a m.shared.bytes) _ _ a m (sc_cases (res.holds (number_of m) a m.shared.reservations) rd a v m))

atomic_outcome_keeps : (op : Amo) (rd a v : ℕ) (o : Option ℕ) (m : Machine) → Keeps (kind.atomic_outcome op rd a v o m) m
atomic_outcome_keeps op rd a v None m = refl
atomic_outcome_keeps op rd a v (Some old) m =
    exchange_outcome_keeps rd old (ram_stored 4 (number_of m) a (kind.atomic_value op old v) m.shared) a m m refl (ram_stored_keeps 4 (number_of m) a (kind.atomic_value op old v) m.shared)

atomic_keeps : (op : Amo) (rd a v : ℕ) (m : Machine) → Keeps (kind.atomic op rd a v m) m
atomic_keeps op rd a v m = guarded (a % 4 == 0) _ _ a m (atomic_outcome_keeps op rd a v (ram_load 4 a m.shared.bytes) m)

-- CSR INSTRUCTIONS

written_keeps : (csr : Csr) (v : ℕ) (s : CsrState) → (written csr v s).hart ≡ s.hart
written_keeps Mstatus v s = refl
written_keeps Misa v s = refl
written_keeps Mie v s = refl
written_keeps Mtvec v s = refl
written_keeps Mstatush v s = refl
written_keeps Mcountinhibit v s = refl
written_keeps Mhpmevent v s = refl
written_keeps Mscratch v s = refl
written_keeps Mepc v s = refl
written_keeps Mcause v s = refl
written_keeps Mtval v s = refl
written_keeps Mip v s = refl
written_keeps Mcycle v s = refl
written_keeps Minstret v s = refl
written_keeps Mhpmcounter v s = refl
written_keeps Mcycleh v s = refl
written_keeps Minstreth v s = refl
written_keeps Mhpmcounterh v s = refl
written_keeps Mvendorid v s = refl
written_keeps Marchid v s = refl
written_keeps Mimpid v s = refl
written_keeps Mhartid v s = refl
written_keeps Mconfigptr v s = refl

abbrev CsrKeeps : Option CsrState → CsrState → Type 0
CsrKeeps None s = Unit {0}
CsrKeeps (Some new) s = new.hart ≡ s.hart

csr_cases : (b : Bool) (o : Option Csr) (v : ℕ) (s : CsrState) → CsrKeeps (if b then None else option_map (λ csr. written csr v s) o) s
csr_cases true o v s = tt
csr_cases false None v s = tt
csr_cases false (Some csr) v s = written_keeps csr v s

csr_write_keeps : (n v : ℕ) (s : CsrState) → CsrKeeps (csr_write n v s) s
csr_write_keeps n v s = csr_cases (is_read_only n) (csr_at n) v s

csr_write_outcome_keeps : (w rd n old : ℕ) (o : Option CsrState) (m : Machine) → CsrKeeps o m.hart.csrs → Keeps (kind.csr_write_outcome w rd n old o m) m
csr_write_outcome_keeps w rd n old None m keeps = refl
csr_write_outcome_keeps w rd n old (Some s) m keeps = ap (λ k. k ∷ shared_shape m.shared) keeps

csr_read_outcome_keeps : (w rd : ℕ) (o : Option ℕ) (m : Machine) → Keeps (kind.csr_read_outcome w rd o m) m
csr_read_outcome_keeps w rd None m = refl
csr_read_outcome_keeps w rd (Some value) m = refl

csr_change_outcome_keeps : (w rd n : ℕ) (c : CsrChange) (source : ℕ) (o : Option ℕ) (m : Machine) → Keeps (kind.csr_change_outcome w rd n c source o m) m
csr_change_outcome_keeps w rd n c source None m = refl
csr_change_outcome_keeps w rd n c source (Some old) m = csr_write_outcome_keeps w rd n old (csr_write n (kind.changed_value c old source) m.hart.csrs) m (csr_write_keeps n (kind.changed_value c old source) m.hart.csrs)

either_keeps : (b : Bool) (o p : Outcome) (m : Machine) → Keeps o m → Keeps p m → Keeps (if b then o else p) m
either_keeps true o p m first second = first
either_keeps false o p m first second = second

access_csr_keeps : (w rd n : ℕ) (c : CsrChange) (field source : ℕ) (m : Machine) → Keeps (kind.access_csr w rd n c field source m) m
access_csr_keeps w rd n c field source m =
    either_keeps (kind.writes c field) _ _ m (csr_change_outcome_keeps w rd n c source (kind.csr_value n m) m) (csr_read_outcome_keeps w rd (kind.csr_value n m) m)

-- ROWS

effect_keeps : (w : ℕ) (i : Ins) (m : Machine) → Keeps (effect w i m) m
unfolding effect
effect_keeps w (Lui rd i) m = refl
effect_keeps w (Auipc rd i) m = refl
effect_keeps w (Jal rd i) m = jump_keeps rd (kind.sum m.hart.pc i) m
effect_keeps w (Jalr rd rs1 i) m = jump_keeps rd (kind.even (kind.sum (reg rs1 m.hart) i)) m
effect_keeps w (Beq rs1 rs2 i) m = branch_keeps (kind.holds test.Eq (reg rs1 m.hart) (reg rs2 m.hart)) i m
effect_keeps w (Bne rs1 rs2 i) m = branch_keeps (kind.holds test.Ne (reg rs1 m.hart) (reg rs2 m.hart)) i m
effect_keeps w (Blt rs1 rs2 i) m = branch_keeps (kind.holds test.Lt (reg rs1 m.hart) (reg rs2 m.hart)) i m
effect_keeps w (Bge rs1 rs2 i) m = branch_keeps (kind.holds test.Ge (reg rs1 m.hart) (reg rs2 m.hart)) i m
effect_keeps w (Bltu rs1 rs2 i) m = branch_keeps (kind.holds test.Ltu (reg rs1 m.hart) (reg rs2 m.hart)) i m
effect_keeps w (Bgeu rs1 rs2 i) m = branch_keeps (kind.holds test.Geu (reg rs1 m.hart) (reg rs2 m.hart)) i m
effect_keeps w (Lb rd rs1 i) m = load_byte_keeps sign_extended_byte rd (kind.sum (reg rs1 m.hart) i) m
effect_keeps w (Lh rd rs1 i) m = load_half_keeps sign_extended_half rd (kind.sum (reg rs1 m.hart) i) m
effect_keeps w (Lw rd rs1 i) m = load_word_keeps rd (kind.sum (reg rs1 m.hart) i) m
effect_keeps w (Lbu rd rs1 i) m = load_byte_keeps zero_extended rd (kind.sum (reg rs1 m.hart) i) m
effect_keeps w (Lhu rd rs1 i) m = load_half_keeps zero_extended rd (kind.sum (reg rs1 m.hart) i) m
effect_keeps w (Sb rs1 rs2 i) m = store_byte_keeps (kind.sum (reg rs1 m.hart) i) (reg rs2 m.hart) m
effect_keeps w (Sh rs1 rs2 i) m = store_half_keeps (kind.sum (reg rs1 m.hart) i) (reg rs2 m.hart) m
effect_keeps w (Sw rs1 rs2 i) m = store_word_keeps (kind.sum (reg rs1 m.hart) i) (reg rs2 m.hart) m
effect_keeps w (Addi rd rs1 i) m = refl
effect_keeps w (Slti rd rs1 i) m = refl
effect_keeps w (Sltiu rd rs1 i) m = refl
effect_keeps w (Xori rd rs1 i) m = refl
effect_keeps w (Ori rd rs1 i) m = refl
effect_keeps w (Andi rd rs1 i) m = refl
effect_keeps w (Slli rd rs1 n) m = refl
effect_keeps w (Srli rd rs1 n) m = refl
effect_keeps w (Srai rd rs1 n) m = refl
effect_keeps w (Add rd rs1 rs2) m = refl
effect_keeps w (Sub rd rs1 rs2) m = refl
effect_keeps w (Sll rd rs1 rs2) m = refl
effect_keeps w (Slt rd rs1 rs2) m = refl
effect_keeps w (Sltu rd rs1 rs2) m = refl
effect_keeps w (Xor rd rs1 rs2) m = refl
effect_keeps w (Srl rd rs1 rs2) m = refl
effect_keeps w (Sra rd rs1 rs2) m = refl
effect_keeps w (Or rd rs1 rs2) m = refl
effect_keeps w (And rd rs1 rs2) m = refl
effect_keeps w (Mul rd rs1 rs2) m = refl
effect_keeps w (Mulh rd rs1 rs2) m = refl
effect_keeps w (Mulhsu rd rs1 rs2) m = refl
effect_keeps w (Mulhu rd rs1 rs2) m = refl
effect_keeps w (Div rd rs1 rs2) m = refl
effect_keeps w (Divu rd rs1 rs2) m = refl
effect_keeps w (Rem rd rs1 rs2) m = refl
effect_keeps w (Remu rd rs1 rs2) m = refl
effect_keeps w (Fence rd rs1 i) m = refl
effect_keeps w (FenceI rd rs1 i) m = refl
effect_keeps w Ecall m = refl
effect_keeps w Ebreak m = refl
effect_keeps w Mret m = refl
effect_keeps w Wfi m = refl
effect_keeps w (Csrrw rd rs1 n) m = access_csr_keeps w rd n change.Write rs1 (reg rs1 m.hart) m
effect_keeps w (Csrrs rd rs1 n) m = access_csr_keeps w rd n change.Set rs1 (reg rs1 m.hart) m
effect_keeps w (Csrrc rd rs1 n) m = access_csr_keeps w rd n change.Clear rs1 (reg rs1 m.hart) m
effect_keeps w (Csrrwi rd i n) m = access_csr_keeps w rd n change.Write i i m
effect_keeps w (Csrrsi rd i n) m = access_csr_keeps w rd n change.Set i i m
effect_keeps w (Csrrci rd i n) m = access_csr_keeps w rd n change.Clear i i m
effect_keeps w (LrW rd rs1 aq rl) m = load_reserved_keeps rd (reg rs1 m.hart) m
effect_keeps w (ScW rd rs1 rs2 aq rl) m = store_conditional_keeps rd (reg rs1 m.hart) (reg rs2 m.hart) m
effect_keeps w (AmoswapW rd rs1 rs2 aq rl) m = atomic_keeps amo.Swap rd (reg rs1 m.hart) (reg rs2 m.hart) m
effect_keeps w (AmoaddW rd rs1 rs2 aq rl) m = atomic_keeps amo.Add rd (reg rs1 m.hart) (reg rs2 m.hart) m
effect_keeps w (AmoxorW rd rs1 rs2 aq rl) m = atomic_keeps amo.Xor rd (reg rs1 m.hart) (reg rs2 m.hart) m
effect_keeps w (AmoandW rd rs1 rs2 aq rl) m = atomic_keeps amo.And rd (reg rs1 m.hart) (reg rs2 m.hart) m
effect_keeps w (AmoorW rd rs1 rs2 aq rl) m = atomic_keeps amo.Or rd (reg rs1 m.hart) (reg rs2 m.hart) m
effect_keeps w (AmominW rd rs1 rs2 aq rl) m = atomic_keeps amo.Min rd (reg rs1 m.hart) (reg rs2 m.hart) m
effect_keeps w (AmomaxW rd rs1 rs2 aq rl) m = atomic_keeps amo.Max rd (reg rs1 m.hart) (reg rs2 m.hart) m
effect_keeps w (AmominuW rd rs1 rs2 aq rl) m = atomic_keeps amo.Minu rd (reg rs1 m.hart) (reg rs2 m.hart) m
effect_keeps w (AmomaxuW rd rs1 rs2 aq rl) m = atomic_keeps amo.Maxu rd (reg rs1 m.hart) (reg rs2 m.hart) m

-- STEPS

decoded_keeps : (w : ℕ) (o : Option Ins) (m : Machine) → Keeps (decoded_outcome w o m) m
decoded_keeps w None m = refl
decoded_keeps w (Some i) m = effect_keeps w i m

fetched_keeps : (o : Option ℕ) (m : Machine) → Keeps (fetched_outcome o m) m
fetched_keeps None m = refl
fetched_keeps (Some w) m = decoded_keeps w (decoded w) m

after_outcome_keeps : (o : Outcome) (m : Machine) → Keeps o m → shape (after_outcome o m).machine ≡ shape m
after_outcome_keeps (Done after pages w) m keeps = keeps
after_outcome_keeps (Traps e v) m keeps = refl

pub pending_keeps : (o : Option Interrupt) (m : Machine) → shape (unless_pending o m).machine ≡ shape m
pending_keeps None m = after_outcome_keeps (execute m) m (fetched_keeps (ram_load 4 m.hart.pc m.shared.bytes) m)
pending_keeps (Some i) m = refl

halted_keeps : (o : Option ℕ) (m : Machine) → shape (unless_halted o m).machine ≡ shape m
halted_keeps None m = pending_keeps (pending (mip_of (number_of m) m.shared.devices) m.hart.csrs) m
halted_keeps (Some s) m = refl

pub step_keeps : (m : Machine) → shape (step m).machine ≡ shape m
step_keeps m = halted_keeps m.shared.devices.halted m

-- WRITES FROM OUTSIDE

pub length-poked_each : (a n : ℕ) (words : List (Option ℕ)) → length (poked_each a n words) ≡ length words
unfolding poked_each
length-poked_each a zero words = refl
length-poked_each a (suc n) words = length-map (poked_each a n words) _ ∙ length-poked_each a n words
