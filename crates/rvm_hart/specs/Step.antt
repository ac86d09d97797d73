-- One step of a hart.
use Rattle.std.specs.Prelude.{ℕ, ◌≡◌, Bool, true, false, List, [], Option, Some, None}
use Rattle.rvm_isa.specs.declared.ins.Ins.{Ins}
use Rattle.rvm_isa.specs.Table.{decoded}
use Rattle.rvm_csr.specs.declared.cause.Exception.TheVariants.{InstructionAccessFault, IllegalInstruction}
use Rattle.rvm_csr.specs.declared.cause.Interrupt.{Interrupt}
use Rattle.rvm_csr.specs.declared.cause.Cause.{Cause}
use Rattle.rvm_csr.specs.declared.cause.Cause.TheVariants as cause
use Rattle.rvm_csr.specs.Traps.{trap_entered, trap_target, pending}
use Rattle.rvm_csr.specs.Counters.{ticked, counted}
use Rattle.rvm_hart.specs.declared.outcome.Written.{Written}
use Rattle.rvm_hart.specs.declared.outcome.Written.TheVariants.{Other, Mcycle, Minstret, Mtime, Halt}
use Rattle.rvm_hart.specs.declared.outcome.Stepped.{Stepped}
use Rattle.rvm_hart.specs.declared.outcome.Stepped.TheVariants.{Retired, Trapped, Interrupted, Halted}
use Rattle.rvm_mem.specs.Pages.{mark_all}
use Rattle.rvm_hart.specs.Machine.{Machine, HartState, BusState, machine, number_of}
use Rattle.rvm_hart.specs.Bus.{ram_load, mip_of}
use Rattle.rvm_hart.specs.Outcome.{Outcome, Done, Traps}
use Rattle.rvm_hart.specs.Rows.{effect}

-- the outcome of a word: the effect of its row; a word without a row is illegal
abbrev pub decoded_outcome : (word : ℕ) → Option Ins → Machine → Outcome
decoded_outcome w (Some i) m = effect w i m
decoded_outcome w None m = Traps IllegalInstruction w

-- the outcome of the word at pc; if there is no RAM at pc, the fetch traps
abbrev pub fetched_outcome : Option ℕ → Machine → Outcome
fetched_outcome (Some w) m = decoded_outcome w (decoded w) m
fetched_outcome None m = Traps InstructionAccessFault m.hart.pc

-- the outcome of the instruction at pc
abbrev pub execute : Machine → Outcome
execute m = fetched_outcome (ram_load 4 m.hart.pc m.shared.bytes) m

-- the machine in the handler of a trap (Privileged ISA, "Machine Trap-Vector Base-Address (mtvec) Register")
abbrev pub in_handler : Cause → (value : ℕ) → Machine → Machine
in_handler c v m =
    record m {
      hart = record m.hart { pc = trap_target c m.hart.csrs; csrs = trap_entered c v m.hart.pc m.hart.csrs };
    }

-- which counters rise with a step
pub record Ticks : Type 0 where
  pub mcycle : Bool
  pub minstret : Bool
  pub mtime : Bool

-- all counters rise, if an instruction retired and wrote none of them
abbrev pub all_tick : Ticks
all_tick = record { mcycle = true; minstret = true; mtime = true }

-- the counters that rise if no instruction retired
abbrev pub none_retired : Ticks
none_retired = record all_tick { minstret = false }

-- a counter of which the instruction wrote a half does not rise
abbrev pub ticks_of : Written → Ticks
ticks_of Other = all_tick
ticks_of (Halt s) = all_tick
ticks_of Mcycle = record all_tick { mcycle = false }
ticks_of Minstret = none_retired
ticks_of Mtime = record all_tick { mtime = false }

-- the machine with these counters risen
abbrev pub after_ticks : Ticks → Machine → Machine
after_ticks t m =
    record {
      hart = record m.hart { csrs = ticked t.mcycle t.minstret m.hart.csrs };
      shared = record m.shared { devices = record m.shared.devices { mtime = counted t.mtime m.shared.devices.mtime } };
    }

-- what a step reports if its instruction retired, by what that wrote
abbrev pub step_answer : Written → Stepped
step_answer Other = Retired
step_answer Mcycle = Retired
step_answer Minstret = Retired
step_answer Mtime = Retired
step_answer (Halt s) = Halted s

-- what a step leaves, the pages that it wrote, and its answer
pub record After : Type 0 where
  pub machine : Machine
  pub pages : List ℕ
  pub answer : Stepped

-- what a step leaves that enters a trap
abbrev pub after_trap : Cause → (value : ℕ) → Stepped → Machine → After
after_trap c v answer m = record { machine = after_ticks none_retired (in_handler c v m); pages = []; answer = answer }

-- what a step leaves, by the outcome of its instruction
abbrev pub after_outcome : Outcome → Machine → After
after_outcome (Done after pages wrote) m =
    record { machine = after_ticks (ticks_of wrote) after; pages = pages; answer = step_answer wrote }
after_outcome (Traps e v) m = after_trap (cause.Exception e) v (Trapped e) m

-- a hart and its bus took the step that ends an instruction, whose outcome is a function of the machine: the machine
-- that is left, the pages in the dirty log, the answer
pub record Executes (instruction : Machine → Outcome) (old : HartState) (old_bus : BusState) (new : HartState)
    (new_bus : BusState) (said : Stepped) : Type 0 where
  pub left : machine new new_bus ≡ (after_outcome (instruction (machine old old_bus)) (machine old old_bus)).machine
  pub dirty : new_bus.dirty
      ≡ mark_all (after_outcome (instruction (machine old old_bus)) (machine old old_bus)).pages old_bus.dirty
  pub answer : said ≡ (after_outcome (instruction (machine old old_bus)) (machine old old_bus)).answer

-- the step of a board that is not halted: a pending interrupt is taken, else the instruction at pc runs
abbrev pub unless_pending : Option Interrupt → Machine → After
unless_pending (Some i) m = after_trap (cause.Interrupt i) 0 (Interrupted i) m
unless_pending None m = after_outcome (execute m) m

-- the step of a board that may be halted; a halted board does not change
abbrev pub unless_halted : Option ℕ → Machine → After
unless_halted (Some s) m = record { machine = m; pages = []; answer = Halted s }
unless_halted None m = unless_pending (pending (mip_of (number_of m) m.shared.devices) m.hart.csrs) m

-- one step of a hart; a halted board does not change
abbrev pub step : Machine → After
step m = unless_halted m.shared.devices.halted m
