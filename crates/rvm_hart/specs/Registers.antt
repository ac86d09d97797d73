-- The registers of a hart (Unprivileged ISA, "Programmers' Model for Base Integer ISA").
use Rattle.std.specs.Prelude.{◌≡◌, ℕ, List, get_or, length}

-- a hart has 32 registers, of which x0 is 0
abbrev pub AreRegisters : List ℕ → Type 0
AreRegisters regs = (length regs ≡ 32) × (get_or regs 0 0 ≡ 0)
