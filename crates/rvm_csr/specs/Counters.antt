-- The counters of a hart (Privileged ISA, "Hardware Performance Monitor").
use Rattle.std.specs.Prelude.{ℕ, ◌+◌, ◌%◌, ◌^◌, Bool, if◌then◌else◌}
use Rattle.rvm_csr.specs.Registers.{CsrState}

-- the counters of a hart
pub record Counts : Type 0 where
  pub mcycle : ℕ
  pub minstret : ℕ

-- a 64-bit counter after a step, which it counts or not
abbrev pub counted : Bool → ℕ → ℕ
counted counts n = if counts then (n + 1) % 2 ^ 64 else n

-- the CSRs after a step, given whether mcycle and minstret count it
abbrev pub ticked : Bool → Bool → CsrState → CsrState
ticked cycle instret s =
    record s { mcycle = counted cycle s.mcycle; minstret = counted instret s.minstret }
