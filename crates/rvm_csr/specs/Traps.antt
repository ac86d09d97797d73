-- Trap entry, return and pending interrupts (Privileged ISA, "Machine-Level ISA").
use Rattle.std.specs.Prelude.{ℕ, ◌+◌, ◌-◌, ◌*◌, ◌%◌, ◌^◌, Bool, true, false, ◌&&◌, ◌==◌, if◌then◌else◌, [], ◌∷◌, Option, None, find}
use Rattle.rvm_csr.specs.declared.interrupts.Interrupts.{Interrupts}
use Rattle.rvm_csr.specs.declared.cause.Interrupt.{Interrupt}
use Rattle.rvm_csr.specs.declared.cause.Interrupt.TheVariants.{Software, Timer, External}
use Rattle.rvm_csr.specs.declared.cause.Cause.{Cause}
use Rattle.rvm_csr.specs.declared.cause.Cause.TheVariants as cause
use Rattle.rvm_csr.specs.Cause.{cause_number, interrupt_code}
use Rattle.rvm_csr.specs.Registers.{CsrState}

-- the registers after a trap of the instruction at pc: MIE is kept in MPIE and cleared
abbrev pub trap_entered : Cause → ℕ → ℕ → CsrState → CsrState
trap_entered c value pc s =
    record s { mepc = pc; mcause = cause_number c; mtval = value; enabled_before = s.interrupts_enabled; interrupts_enabled = false }

-- mtvec without its mode
abbrev pub vector_base : CsrState → ℕ
vector_base s = s.mtvec - s.mtvec % 4

-- the handler's address: the base; for an interrupt in vectored mode, four bytes times its number
-- after the base
abbrev pub trap_target : Cause → CsrState → ℕ
trap_target (cause.Exception e) s = vector_base s
trap_target (cause.Interrupt i) s =
    if s.mtvec % 2 == 1 then (vector_base s + 4 * interrupt_code i) % 2 ^ 32 else vector_base s

-- the registers after a return from a trap: MIE gets the value of MPIE, and MPIE is set
abbrev pub trap_left : CsrState → CsrState
trap_left s = record s { interrupts_enabled = s.enabled_before; enabled_before = true }

-- whether an interrupt is in a set
abbrev pub has : Interrupt → Interrupts → Bool
has Software i = i.software
has Timer i = i.timer
has External i = i.external

-- the interrupt that is taken: MIE is set, and its bit is set in mip and in mie; external comes
-- before software, software before timer (Privileged ISA, "Machine Interrupt (mip and mie)
-- Registers")
abbrev pub pending : Interrupts → CsrState → Option Interrupt
pending mip s =
    if s.interrupts_enabled
    then find (λ i. has i mip && has i s.mie) (External ∷ Software ∷ Timer ∷ [])
    else None
