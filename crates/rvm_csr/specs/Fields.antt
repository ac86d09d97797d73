-- The registers of a hart as plain values.
use Rattle.std.specs.Prelude.{◌≡◌, ℕ, ◌/◌, ◌%◌}
use Rattle.rvm_csr.specs.declared.fields.CsrFields.{CsrFields}
use Rattle.rvm_csr.specs.Registers.{CsrState}

-- the CSRs of the hart with this number and these values
abbrev pub with_number : ℕ → CsrFields → CsrState
with_number hart f =
    record {
      hart = hart;
      interrupts_enabled = f.interrupts_enabled;
      enabled_before = f.enabled_before;
      mie = f.mie;
      mtvec = f.mtvec;
      mscratch = f.mscratch;
      mepc = f.mepc;
      mcause = f.mcause;
      mtval = f.mtval;
      mcycle = f.mcycle;
      minstret = f.minstret;
    }

-- the values that CSRs hold
abbrev pub fields_of : CsrState → CsrFields
fields_of s =
    record {
      interrupts_enabled = s.interrupts_enabled;
      enabled_before = s.enabled_before;
      mie = s.mie;
      mtvec = s.mtvec;
      mscratch = s.mscratch;
      mepc = s.mepc;
      mcause = s.mcause;
      mtval = s.mtval;
      mcycle = s.mcycle;
      minstret = s.minstret;
    }

-- values that CSRs can hold: bit 1 of mtvec and bits 1 and 0 of mepc are 0
pub record CanBeHeld (f : CsrFields) : Type 0 where
  pub mtvec : f.mtvec / 2 % 2 ≡ 0
  pub mepc : f.mepc % 4 ≡ 0
