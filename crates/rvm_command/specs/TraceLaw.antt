-- What a line of a trace shows of the registers.
use Rattle.std.specs.Prelude.{◌≡◌, ℕ, List}
use Rattle.rvm_hart.specs.declared.outcome.Stepped.TheVariants.{Retired}
use Rattle.rvm_hart.specs.Bus.{ram_load}
use Rattle.rvm_hart.specs.Machine.{Machine}
use Rattle.rvm_hart.specs.Outcome.{with_register}
use Rattle.rvm_hart.specs.Step.{step}
use Rattle.rvm_command.specs.Trace.{destination, writes_of_word}

-- registers changed into others by a write to one of them, which is dropped if that is x0
abbrev pub GivesRegister : (rd : ℕ) → (after before : List ℕ) → Type 0
GivesRegister rd after before = (value : ℕ) × (after ≡ with_register rd value before)

-- a step whose instruction retires changes no register but the one that a trace shows of the word at pc
abbrev pub ShowsTheRegister : Type 0
ShowsTheRegister = (m : Machine) → (step m).answer ≡ Retired →
    GivesRegister (destination (writes_of_word (ram_load 4 m.hart.pc m.shared.bytes))) (step m).machine.hart.regs m.hart.regs
