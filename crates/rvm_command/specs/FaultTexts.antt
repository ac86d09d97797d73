-- How a fault is reported.
use Rattle.std.specs.Prelude.{ℕ, List, [], ◌++◌, Option, Some, None, codes}
use Rattle.std.specs.Fmt.{decimal}
use Rattle.rvm_csr.specs.Cause.{exception_code, interrupt_code}
use Rattle.rvm_csr.specs.declared.cause.Cause.{Cause}
use Rattle.rvm_csr.specs.declared.cause.Cause.TheVariants as cause
use Rattle.rvm_csr.specs.declared.cause.Exception.{Exception}
use Rattle.rvm_csr.specs.declared.cause.Exception.TheVariants.{InstructionAddressMisaligned, InstructionAccessFault, IllegalInstruction, Breakpoint, LoadAddressMisaligned, LoadAccessFault, StoreAddressMisaligned, StoreAccessFault, EnvironmentCall}
use Rattle.rvm_csr.specs.declared.cause.Interrupt.{Interrupt}
use Rattle.rvm_csr.specs.declared.cause.Interrupt.TheVariants.{Software, Timer, External}
use Rattle.rvm_dis.specs.Disassembly.{text_at}
use Rattle.rvm_dis.specs.Pieces.{hex_digits}
use Rattle.rvm_command.specs.declared.fault.Fault.{Fault}

-- the name of an exception (Privileged ISA, "Machine Cause (mcause) Register")
abbrev pub exception_name : Exception → List ℕ
exception_name InstructionAddressMisaligned = codes "instruction address misaligned"
exception_name InstructionAccessFault = codes "instruction access fault"
exception_name IllegalInstruction = codes "illegal instruction"
exception_name Breakpoint = codes "breakpoint"
exception_name LoadAddressMisaligned = codes "load address misaligned"
exception_name LoadAccessFault = codes "load access fault"
exception_name StoreAddressMisaligned = codes "store address misaligned"
exception_name StoreAccessFault = codes "store access fault"
exception_name EnvironmentCall = codes "environment call from M-mode"

-- the name of an interrupt, from the same table
abbrev pub interrupt_name : Interrupt → List ℕ
interrupt_name Software = codes "machine software interrupt"
interrupt_name Timer = codes "machine timer interrupt"
interrupt_name External = codes "machine external interrupt"

-- `cause N (NAME)`, or `interrupt N (NAME)`
abbrev pub cause_text : Cause → List ℕ
cause_text (cause.Exception e) =
    codes "cause " ++ decimal (exception_code e) ++ codes " (" ++ exception_name e ++ codes ")"
cause_text (cause.Interrupt i) =
    codes "interrupt " ++ decimal (interrupt_code i) ++ codes " (" ++ interrupt_name i ++ codes ")"

-- `fault: hart H CAUSE at PC value MTVAL`
abbrev pub fault_head : Fault → List ℕ
fault_head f =
    codes "fault: hart " ++ decimal f.hart ++ codes " " ++ cause_text f.cause ++ codes " at " ++ hex_digits 8 f.pc
    ++ codes " value " ++ hex_digits 8 f.value

-- `: ` and the text of the word at an address, if there is one
abbrev pub word_tail : (address : ℕ) → Option ℕ → List ℕ
word_tail a (Some word) = codes ": " ++ text_at a word
word_tail a None = []

-- `fault: hart H CAUSE at PC value MTVAL: INSTRUCTION`
abbrev pub fault_text : Fault → List ℕ
fault_text f = fault_head f ++ word_tail f.pc f.word
