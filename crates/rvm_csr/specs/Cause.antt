-- The numbers of causes (Privileged ISA, "Machine Cause (mcause) Register").
use Rattle.std.specs.Prelude.{ℕ, ◌+◌, ◌^◌}
use Rattle.rvm_csr.specs.declared.cause.Exception.{Exception}
use Rattle.rvm_csr.specs.declared.cause.Exception.TheVariants.{InstructionAddressMisaligned, InstructionAccessFault, IllegalInstruction, Breakpoint, LoadAddressMisaligned, LoadAccessFault, StoreAddressMisaligned, StoreAccessFault, EnvironmentCall}
use Rattle.rvm_csr.specs.declared.cause.Interrupt.{Interrupt}
use Rattle.rvm_csr.specs.declared.cause.Interrupt.TheVariants.{Software, Timer, External}
use Rattle.rvm_csr.specs.declared.cause.Cause.{Cause}
use Rattle.rvm_csr.specs.declared.cause.Cause.TheVariants as cause

-- the number of an exception
abbrev pub exception_code : Exception → ℕ
exception_code InstructionAddressMisaligned = 0
exception_code InstructionAccessFault = 1
exception_code IllegalInstruction = 2
exception_code Breakpoint = 3
exception_code LoadAddressMisaligned = 4
exception_code LoadAccessFault = 5
exception_code StoreAddressMisaligned = 6
exception_code StoreAccessFault = 7
exception_code EnvironmentCall = 11

-- the number of an interrupt, which is its bit in mip and mie
abbrev pub interrupt_code : Interrupt → ℕ
interrupt_code Software = 3
interrupt_code Timer = 7
interrupt_code External = 11

-- the value of mcause: the number, with bit 31 set for an interrupt
abbrev pub cause_number : Cause → ℕ
cause_number (cause.Exception e) = exception_code e
cause_number (cause.Interrupt i) = 2 ^ 31 + interrupt_code i
