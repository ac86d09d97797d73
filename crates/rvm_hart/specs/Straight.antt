-- Instructions that reach registers, RAM and reservations alone, and steps that make them.
use Rattle.std.specs.Prelude.{◌≡◌, ◌==◌, ℕ, zero, suc, ◌+◌, ◌%◌, ◌^◌, ◌<◌, Bool, true, false, not, ◌&&◌, is_some, List, [], ◌++◌, nat_lt, length, IfSome, IfNone, Option, Some, None}
use Rattle.rvm_mem.specs.Pages.{mark_all}
use Rattle.rvm_isa.specs.declared.ins.Ins.{Ins}
use Rattle.rvm_isa.specs.declared.ins.Ins.TheVariants.{Lui, Auipc, Jal, Jalr, Beq, Bne, Blt, Bge, Bltu, Bgeu, Lb, Lh, Lw, Lbu, Lhu, Sb, Sh, Sw, Addi, Slti, Sltiu, Xori, Ori, Andi, Slli, Srli, Srai, Add, Sub, Sll, Slt, Sltu, Xor, Srl, Sra, Or, And, Mul, Mulh, Mulhsu, Mulhu, Div, Divu, Rem, Remu, Fence, FenceI, Ecall, Ebreak, Mret, Wfi, Csrrw, Csrrs, Csrrc, Csrrwi, Csrrsi, Csrrci, LrW, ScW, AmoswapW, AmoaddW, AmoxorW, AmoandW, AmoorW, AmominW, AmomaxW, AmominuW, AmomaxuW}
use Rattle.rvm_isa.specs.Table.{decoded}
use Rattle.rvm_csr.specs.Counters.{counted}
use Rattle.rvm_csr.specs.Traps.{pending}
use Rattle.rvm_dev.specs.Devices.{DeviceState}
use Rattle.rvm_hart.specs.declared.outcome.Written.{Written}
use Rattle.rvm_hart.specs.declared.outcome.Written.TheVariants.{Other, Mcycle, Minstret, Mtime, Halt}
use Rattle.rvm_hart.specs.declared.outcome.Stepped.{Stepped}
use Rattle.rvm_hart.specs.declared.outcome.Stepped.TheVariants.{Retired, Trapped, Interrupted, Halted}
use Rattle.rvm_hart.specs.Machine.{Machine, HartState, BusState, machine, number_of}
use Rattle.rvm_hart.specs.Bus.{in_ram, ram_load, mip_of}
use Rattle.rvm_hart.specs.Kinds.{sum}
use Rattle.rvm_hart.specs.Outcome.{Outcome, Done, Traps, machine_after, reg}
use Rattle.rvm_hart.specs.Step.{After, execute, step}
use Rattle.rvm_hart.specs.Marks.{passes}

-- a hart with another pc
abbrev pub at_pc : ℕ → HartState → HartState
at_pc pc h = record h { pc = pc }

-- the address of an offset in RAM
unfoldable pub based : ℕ → ℕ
based at = (at + 0x80000000) % 2 ^ 32

-- whether a number of 64 bits is the offset of an address: an address before RAM has a negative one, modulo 2 ^ 64
unfoldable pub is_offset : ℕ → Bool
is_offset at = nat_lt ((at + 0x80000000) % 2 ^ 64) (2 ^ 32)

-- the pages that an outcome wrote
abbrev pub pages_of : Outcome → List ℕ
pages_of (Done after pages wrote) = pages
pages_of (Traps e v) = []

-- neither a counter nor the halt word was written
abbrev pub is_other : Written → Bool
is_other Other = true
is_other Mcycle = false
is_other Minstret = false
is_other Mtime = false
is_other (Halt s) = false

-- the instruction retires, and all counters rise
abbrev pub is_plain : Outcome → Bool
is_plain (Done after pages wrote) = is_other wrote
is_plain (Traps e v) = false

-- a hart at pc and its bus ran an instruction, and the hart is at next; the counters have not risen
pub record Goes (instruction : Machine → Outcome) (pc : ℕ) (old : HartState) (old_bus : BusState) (next : ℕ)
    (new : HartState) (new_bus : BusState) : Type 0 where
  pub plain : is_plain (instruction (machine (at_pc pc old) old_bus)) ≡ true
  pub left : machine_after (instruction (machine (at_pc pc old) old_bus)) (machine (at_pc pc old) old_bus)
      ≡ machine (at_pc next new) new_bus
  pub dirty : new_bus.dirty ≡ mark_all (pages_of (instruction (machine (at_pc pc old) old_bus))) old_bus.dirty

-- what a step on the path leaves: one that is made goes on at a multiple of four, with the CSRs, the devices and the
-- number of reservations that it found; one that is not made leaves all as it was
pub record LeavesRest (next : Option ℕ) (old : HartState) (old_bus : BusState) (new : HartState) (new_bus : BusState) : Type 0 where
  pub aligned : IfSome next (λ at. at % 4 ≡ 0)
  pub hart : IfNone next (new ≡ old)
  pub bus : IfNone next (new_bus ≡ old_bus)
  pub csrs : new.csrs ≡ old.csrs
  pub devices : new_bus.shared.devices ≡ old_bus.shared.devices
  pub reservations : length new_bus.shared.reservations ≡ length old_bus.shared.reservations

-- whether an instruction reaches registers, RAM and reservations alone; a load or store of a word does if its address
-- is in RAM
unfoldable pub stays_in_ram : Ins → Machine → Bool
stays_in_ram (Lui rd i) m = true
stays_in_ram (Auipc rd i) m = true
stays_in_ram (Jal rd i) m = true
stays_in_ram (Jalr rd rs1 i) m = true
stays_in_ram (Beq rs1 rs2 i) m = true
stays_in_ram (Bne rs1 rs2 i) m = true
stays_in_ram (Blt rs1 rs2 i) m = true
stays_in_ram (Bge rs1 rs2 i) m = true
stays_in_ram (Bltu rs1 rs2 i) m = true
stays_in_ram (Bgeu rs1 rs2 i) m = true
stays_in_ram (Lb rd rs1 i) m = true
stays_in_ram (Lh rd rs1 i) m = true
stays_in_ram (Lw rd rs1 i) m = in_ram 4 (sum (reg rs1 m.hart) i) m.shared.bytes
stays_in_ram (Lbu rd rs1 i) m = true
stays_in_ram (Lhu rd rs1 i) m = true
stays_in_ram (Sb rs1 rs2 i) m = true
stays_in_ram (Sh rs1 rs2 i) m = true
stays_in_ram (Sw rs1 rs2 i) m = in_ram 4 (sum (reg rs1 m.hart) i) m.shared.bytes
stays_in_ram (Addi rd rs1 i) m = true
stays_in_ram (Slti rd rs1 i) m = true
stays_in_ram (Sltiu rd rs1 i) m = true
stays_in_ram (Xori rd rs1 i) m = true
stays_in_ram (Ori rd rs1 i) m = true
stays_in_ram (Andi rd rs1 i) m = true
stays_in_ram (Slli rd rs1 n) m = true
stays_in_ram (Srli rd rs1 n) m = true
stays_in_ram (Srai rd rs1 n) m = true
stays_in_ram (Add rd rs1 rs2) m = true
stays_in_ram (Sub rd rs1 rs2) m = true
stays_in_ram (Sll rd rs1 rs2) m = true
stays_in_ram (Slt rd rs1 rs2) m = true
stays_in_ram (Sltu rd rs1 rs2) m = true
stays_in_ram (Xor rd rs1 rs2) m = true
stays_in_ram (Srl rd rs1 rs2) m = true
stays_in_ram (Sra rd rs1 rs2) m = true
stays_in_ram (Or rd rs1 rs2) m = true
stays_in_ram (And rd rs1 rs2) m = true
stays_in_ram (Mul rd rs1 rs2) m = true
stays_in_ram (Mulh rd rs1 rs2) m = true
stays_in_ram (Mulhsu rd rs1 rs2) m = true
stays_in_ram (Mulhu rd rs1 rs2) m = true
stays_in_ram (Div rd rs1 rs2) m = true
stays_in_ram (Divu rd rs1 rs2) m = true
stays_in_ram (Rem rd rs1 rs2) m = true
stays_in_ram (Remu rd rs1 rs2) m = true
stays_in_ram (Fence rd rs1 i) m = true
stays_in_ram (FenceI rd rs1 i) m = true
stays_in_ram Ecall m = false
stays_in_ram Ebreak m = false
stays_in_ram Mret m = false
stays_in_ram Wfi m = true
stays_in_ram (Csrrw rd rs1 n) m = false
stays_in_ram (Csrrs rd rs1 n) m = false
stays_in_ram (Csrrc rd rs1 n) m = false
stays_in_ram (Csrrwi rd i n) m = false
stays_in_ram (Csrrsi rd i n) m = false
stays_in_ram (Csrrci rd i n) m = false
stays_in_ram (LrW rd rs1 aq rl) m = true
stays_in_ram (ScW rd rs1 rs2 aq rl) m = true
stays_in_ram (AmoswapW rd rs1 rs2 aq rl) m = true
stays_in_ram (AmoaddW rd rs1 rs2 aq rl) m = true
stays_in_ram (AmoxorW rd rs1 rs2 aq rl) m = true
stays_in_ram (AmoandW rd rs1 rs2 aq rl) m = true
stays_in_ram (AmoorW rd rs1 rs2 aq rl) m = true
stays_in_ram (AmominW rd rs1 rs2 aq rl) m = true
stays_in_ram (AmomaxW rd rs1 rs2 aq rl) m = true
stays_in_ram (AmominuW rd rs1 rs2 aq rl) m = true
stays_in_ram (AmomaxuW rd rs1 rs2 aq rl) m = true

-- whether the instruction of a decoded word does
abbrev pub decoded_stays : Option Ins → Machine → Bool
decoded_stays (Some i) m = stays_in_ram i m
decoded_stays None m = false

-- whether the instruction of a fetched word does
abbrev pub fetched_stays : Option ℕ → Machine → Bool
fetched_stays (Some w) m = decoded_stays (decoded w) m
fetched_stays None m = false

-- whether the instruction at pc does
abbrev pub is_straight : Machine → Bool
is_straight m = fetched_stays (ram_load 4 m.hart.pc m.shared.bytes) m

-- what consecutive instructions leave, and whether each of them is straight, plain and at no watched mark
pub record Went : Type 0 where
  pub machine : Machine
  pub dirty : List Bool
  pub plain : Bool

-- one instruction more, given whether it is straight and at no watched mark
abbrev pub went_on : Outcome → (straight : Bool) → Went → Went
went_on o straight w =
    record {
      machine = machine_after o w.machine;
      dirty = mark_all (pages_of o) w.dirty;
      plain = w.plain && is_plain o && straight;
    }

-- what n instructions leave, without the rise of the counters
abbrev pub went : (watched : Bool) → (marks : List Bool) → (n : ℕ) → Machine → List Bool → Went
went watched marks zero m d = record { machine = m; dirty = d; plain = true }
went watched marks (suc n) m d =
    went_on (execute (went watched marks n m d).machine)
    (is_straight (went watched marks n m d).machine && passes watched marks (went watched marks n m d).machine.hart.pc)
    (went watched marks n m d)

-- a counter after it rose by this many steps
abbrev pub risen : (steps : ℕ) → ℕ → ℕ
risen zero n = n
risen (suc k) n = counted true (risen k n)

-- the devices with another mtime
abbrev pub at_time : ℕ → DeviceState → DeviceState
at_time t d = record d { mtime = t }

-- a machine with other values of its counters: mcycle, minstret, mtime
abbrev pub timed : (cycles retired time : ℕ) → Machine → Machine
timed c i t m =
    record {
      hart = record m.hart { csrs = record m.hart.csrs { mcycle = c; minstret = i } };
      shared = record m.shared { devices = at_time t m.shared.devices };
    }

-- a machine with the counters of another one, risen by this many steps
abbrev pub timed_after : (steps : ℕ) → (from : Machine) → Machine → Machine
timed_after k from m = timed (risen k from.hart.csrs.mcycle) (risen k from.hart.csrs.minstret) (risen k from.shared.devices.mtime) m

-- no interrupt is pending at the hart before each of the next n steps, if mtime alone changes in the devices
abbrev pub IsQuiet : (n : ℕ) → Machine → Type 0
IsQuiet n m =
    (k : ℕ) → k < n → pending (mip_of (number_of m) (at_time (risen k m.shared.devices.mtime) m.shared.devices)) m.hart.csrs ≡ None

-- the word at an address is this one
abbrev pub is_fetched : ℕ → Option ℕ → Bool
is_fetched w (Some v) = v == w
is_fetched w None = false

-- if the word is not 0, it is at pc and the next step runs it
unfoldable pub is_next : ℕ → Machine → Bool
is_next zero m = true
is_next (suc w) m =
    is_fetched (suc w) (ram_load 4 m.hart.pc m.shared.bytes)
    && not (is_some (pending (mip_of (number_of m) m.shared.devices) m.hart.csrs))
    && not (is_some m.shared.devices.halted)

-- the instruction of a step retired
abbrev pub is_retired : Stepped → Bool
is_retired Retired = true
is_retired (Trapped e) = false
is_retired (Interrupted i) = false
is_retired (Halted s) = false

-- consecutive steps: what they leave, the pages that they wrote, and whether each retired
pub record Steps : Type 0 where
  pub machine : Machine
  pub pages : List ℕ
  pub retired : Bool

-- one step more
abbrev pub steps_on : After → Steps → Steps
steps_on a s =
    record { machine = a.machine; pages = s.pages ++ a.pages; retired = s.retired && is_retired a.answer }

-- what n steps of a hart leave
unfoldable pub steps : (n : ℕ) → Machine → Steps
steps zero m = record { machine = m; pages = []; retired = true }
steps (suc n) m = steps_on (step (steps n m).machine) (steps n m)

-- none of the first n steps begins at a mark that is watched
unfoldable pub all_pass : (watched : Bool) → (marks : List Bool) → (n : ℕ) → Machine → Bool
all_pass watched marks zero m = true
all_pass watched marks (suc n) m = all_pass watched marks n m && passes watched marks (steps n m).machine.hart.pc

-- of the devices, each of the first n steps changed mtime alone
abbrev pub DevicesStay : (n : ℕ) → Machine → Type 0
DevicesStay zero m = Unit {0}
DevicesStay (suc n) m =
    DevicesStay n m × ((steps (suc n) m).machine.shared.devices ≡ at_time (risen (suc n) m.shared.devices.mtime) m.shared.devices)
