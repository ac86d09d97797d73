-- The outcome of an instruction: it retires and leaves a machine, or it traps.
use Rattle.std.specs.Prelude.{ℕ, ◌+◌, ◌%◌, ◌^◌, ◌==◌, if◌then◌else◌, List, [], slice_index, slice_set}
use Rattle.rvm_csr.specs.declared.cause.Exception.{Exception}
use Rattle.rvm_hart.specs.declared.outcome.Written.{Written}
use Rattle.rvm_hart.specs.declared.outcome.Written.TheVariants.{Other}
use Rattle.rvm_hart.specs.Machine.{HartState, Machine}

-- the machine that a retired instruction leaves, the pages that it wrote, and what it wrote that the end of its step
-- must know; or the exception, with its value for mtval
pub data Outcome : Type 0 where
  Done : (after : Machine) → (pages : List ℕ) → (wrote : Written) → Outcome
  Traps : (exception : Exception) → (value : ℕ) → Outcome

-- the machine of an outcome; a trap leaves it unchanged
abbrev pub machine_after : Outcome → Machine → Machine
machine_after (Done after pages wrote) m = after
machine_after (Traps exception value) m = m

-- the value of a register
abbrev pub reg : ℕ → HartState → ℕ
reg r h = slice_index h.regs r

-- the registers after a write; a write to x0 is dropped (Unprivileged ISA, "Programmers' Model for Base Integer ISA")
abbrev pub with_register : (rd value : ℕ) → List ℕ → List ℕ
with_register rd v regs = if rd == 0 then regs else slice_set regs rd v

-- the address of the instruction after this one
abbrev pub next_pc : HartState → ℕ
next_pc h = (h.pc + 4) % 2 ^ 32

-- the hart at the next instruction, with a value in rd
abbrev pub with_result : (rd value : ℕ) → HartState → HartState
with_result rd v h = record h { regs = with_register rd v h.regs; pc = next_pc h }

-- the hart at the next instruction, otherwise unchanged
abbrev pub at_next : HartState → HartState
at_next h = record h { pc = next_pc h }

-- the instruction retires, with a value in rd
abbrev pub done_with : (rd value : ℕ) → Machine → Outcome
done_with rd v m = Done (record m { hart = with_result rd v m.hart }) [] Other

-- the instruction retires, and does nothing else
abbrev pub done : Machine → Outcome
done m = Done (record m { hart = at_next m.hart }) [] Other
