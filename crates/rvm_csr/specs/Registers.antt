-- What the registers of a hart keep, and the numbers that some of them are read as.
use Rattle.std.specs.Prelude.{◌≡◌, ℕ, ◌+◌, ◌*◌, ◌/◌, ◌%◌, ◌^◌, Bool, false}
use Rattle.rvm_word.specs.Bits.{bit, is_set}
use Rattle.rvm_csr.specs.declared.interrupts.Interrupts.{Interrupts}

-- the registers of one hart, by the manual's names; of mstatus, MIE and MPIE are kept
pub record CsrState : Type 0 where
  pub hart : ℕ
  pub interrupts_enabled : Bool
  pub enabled_before : Bool
  pub mie : Interrupts
  pub mtvec : ℕ
  pub mscratch : ℕ
  pub mepc : ℕ
  pub mcause : ℕ
  pub mtval : ℕ
  pub mcycle : ℕ
  pub minstret : ℕ

-- the empty set
abbrev pub no_interrupts : Interrupts
no_interrupts = record { software = false; timer = false; external = false }

-- the CSRs after reset (Privileged ISA, "Reset"): all that is kept is 0 but the hart's number
abbrev pub at_reset : ℕ → CsrState
at_reset hart =
    record {
      hart = hart;
      interrupts_enabled = false;
      enabled_before = false;
      mie = no_interrupts;
      mtvec = 0;
      mscratch = 0;
      mepc = 0;
      mcause = 0;
      mtval = 0;
      mcycle = 0;
      minstret = 0;
    }

-- what holds of the CSRs in every state: bit 1 of mtvec and bits 1 and 0 of mepc are 0
pub record IsKept (s : CsrState) : Type 0 where
  pub mtvec : s.mtvec / 2 % 2 ≡ 0
  pub mepc : s.mepc % 4 ≡ 0

-- a set of interrupts as mip and mie hold it
-- (Privileged ISA, "Machine Interrupt (mip and mie) Registers")
abbrev pub interrupt_bits : Interrupts → ℕ
interrupt_bits i = bit (2 ^ 3) i.software + bit (2 ^ 7) i.timer + bit (2 ^ 11) i.external

-- the set of a word
abbrev pub interrupts_of : ℕ → Interrupts
interrupts_of w = record { software = is_set 3 w; timer = is_set 7 w; external = is_set 11 w }

-- mstatus: MIE, MPIE, and MPP, which is always 3
-- (Privileged ISA, "Machine Status (mstatus and mstatush) Registers")
abbrev pub mstatus_of : CsrState → ℕ
mstatus_of s = bit (2 ^ 3) s.interrupts_enabled + bit (2 ^ 7) s.enabled_before + 3 * 2 ^ 11
