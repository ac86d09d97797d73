-- Counters that rise after the instructions that they count.
use Rattle.std.specs.Prelude.{ℕ}
use Rattle.rvm_hart.specs.Machine.{HartState}
use Rattle.rvm_hart.specs.Straight.{risen}

-- a hart whose mcycle and minstret rose by this many steps
abbrev pub risen_by : (steps : ℕ) → HartState → HartState
risen_by k h = record h { csrs = record h.csrs { mcycle = risen k h.csrs.mcycle; minstret = risen k h.csrs.minstret } }
