-- The layout of a guest's values in its bytes; numbers are little-endian.
use Rattle.std.specs.Prelude.{ℕ, ◌+◌, ◌/◌, ◌%◌, ◌^◌, Bool, true, ◌==◌, List, length, Option}
use Rattle.rvm_word.specs.Bits.{bit, is_set}
use Rattle.rvm_csr.specs.declared.fields.CsrFields.{CsrFields}
use Rattle.rvm_csr.specs.declared.interrupts.Interrupts.{Interrupts}
use Rattle.rvm_csr.specs.Registers.{interrupt_bits, interrupts_of}
use Rattle.rvm_dev.specs.declared.fields.DeviceFields.{DeviceFields}
use Rattle.rvm_hart.specs.Fields.{is_ram_word}
use Rattle.rvm_codec.specs.Numbers.{rise_from, within}
use Rattle.rvm_codec.specs.Codec.{Codec, any, as_type, both, counted_bytes, counted_each, flag, number, only, optional, then_each, times}
use Rattle.rvm_codec.specs.Format.{Format, alone}
use Rattle.rvm_board.specs.declared.part.HartPart.{HartPart}
use Rattle.rvm_board.specs.State.{State}

-- a number of four bytes that is a multiple of four
abbrev pub aligned : Codec ℕ
aligned = only (any 4) (λ n. n % 4 == 0)

-- CSRS

-- MIE and MPIE in bits 3 and 7 of mstatus
abbrev pub enables_of : ℕ → Bool × Bool
enables_of n = (is_set 3 n, is_set 7 n)

-- mstatus with these MIE and MPIE, and no other bit
abbrev pub enable_bits : Bool × Bool → ℕ
enable_bits x = bit (2 ^ 3) x.0 + bit (2 ^ 7) x.1

-- mstatus, which has no other bits than these two
unfoldable pub mstatus : Codec (Bool × Bool)
mstatus = as_type (only (any 4) (λ n. enable_bits (enables_of n) == n)) enables_of enable_bits

-- mie, which has no other bits than those of the three interrupts
unfoldable pub mie : Codec Interrupts
mie = as_type (only (any 4) (λ n. interrupt_bits (interrupts_of n) == n)) interrupts_of interrupt_bits

-- mtvec, whose bit 1 is 0
abbrev pub mtvec : Codec ℕ
mtvec = only (any 4) (λ n. n / 2 % 2 == 0)

-- mstatus, mie, mtvec, mscratch, mepc, mcause, mtval, mcycle, minstret
abbrev pub CsrParts : Type 0
CsrParts = (Bool × Bool) × (Interrupts × (ℕ × (ℕ × (ℕ × (ℕ × (ℕ × (ℕ × ℕ)))))))

-- the control and status registers that these parts make
abbrev pub csrs_of : CsrParts → CsrFields
csrs_of t =
    record {
      interrupts_enabled = t.0.0;
      enabled_before = t.0.1;
      mie = t.1.0;
      mtvec = t.1.1.0;
      mscratch = t.1.1.1.0;
      mepc = t.1.1.1.1.0;
      mcause = t.1.1.1.1.1.0;
      mtval = t.1.1.1.1.1.1.0;
      mcycle = t.1.1.1.1.1.1.1.0;
      minstret = t.1.1.1.1.1.1.1.1;
    }

-- the parts of the control and status registers of a hart
abbrev pub csr_parts : CsrFields → CsrParts
csr_parts c =
    ((c.interrupts_enabled, c.enabled_before), (c.mie, (c.mtvec, (c.mscratch, (c.mepc, (c.mcause, (c.mtval, (c.mcycle, c.minstret))))))))

-- the control and status registers of a hart
unfoldable pub csrs : Codec CsrFields
csrs =
    as_type
    (both mstatus (both mie (both mtvec (both (any 4) (both aligned (both (any 4) (both (any 4) (both (any 8) (any 8)))))))))
    csrs_of csr_parts

-- HARTS

-- pc, x1 to x31, csrs, msip, mtimecmp, reservation, stopped
abbrev pub HartParts : Type 0
HartParts = ℕ × (List ℕ × (CsrFields × (Bool × (ℕ × (Option ℕ × Bool)))))

-- the hart that these parts make
abbrev pub hart_of : HartParts → HartPart
hart_of t =
    record {
      fields = record { registers = t.1.0; pc = t.0; csrs = t.1.1.0 };
      msip = t.1.1.1.0;
      mtimecmp = t.1.1.1.1.0;
      reserved = t.1.1.1.1.1.0;
      stopped = t.1.1.1.1.1.1;
    }

-- the parts of a hart
abbrev pub hart_parts : HartPart → HartParts
hart_parts p =
    (p.fields.pc, (p.fields.registers, (p.fields.csrs, (p.msip, (p.mtimecmp, (p.reserved, p.stopped))))))

-- a hart, whose reservation, if it has one, is of an aligned word in a RAM of this many bytes
unfoldable pub hart : (size : ℕ) → Codec HartPart
hart size =
    as_type
    (both aligned (both (times 31 (any 4)) (both csrs (both flag (both (any 8) (both (optional (any 4) (is_ram_word size)) flag))))))
    hart_of hart_parts

-- ALL

-- any status
abbrev pub anything : ℕ → Bool
anything n = true

-- the status if the board is halted, overrun, interrupt enable, mtime
abbrev pub SharedParts : Type 0
SharedParts = Option ℕ × (Bool × (Bool × ℕ))

-- what the devices keep for all harts together, made of its parts
abbrev pub shared_of : SharedParts → DeviceFields
shared_of t = record { mtime = t.1.1.1; interrupt_enable = t.1.1.0; overrun = t.1.0; halted = t.0 }

-- the parts of what the devices keep for all harts together
abbrev pub shared_parts : DeviceFields → SharedParts
shared_parts f = (f.halted, (f.overrun, (f.interrupt_enable, f.mtime)))

-- what the devices keep for all harts together
unfoldable pub shared : Codec DeviceFields
shared = as_type (both (optional (any 1) anything) (both flag (both flag (any 8)))) shared_of shared_parts

-- the number of harts, 1 to 8, and what the devices keep for all of them together
unfoldable pub head : Codec (ℕ × DeviceFields)
head = both (number 1 (within 1 8)) shared

-- the breakpoints: at most 64, rising
unfoldable pub breakpoints : Codec (List ℕ)
breakpoints = only (counted_each 1 (within 0 64) (any 4)) (rise_from 0)

-- head and harts, input, output, breakpoints
abbrev pub StateParts : Type 0
StateParts = ((ℕ × DeviceFields) × List HartPart) × (List ℕ × (List ℕ × List ℕ))

-- the state that these parts make
abbrev pub whole_of : StateParts → State
whole_of t =
    record { harts = t.0.1; shared = t.0.0.1; input = t.1.0; output = t.1.1.0; breakpoints = t.1.1.1 }

-- the parts of a state, with the number of its harts
abbrev pub whole_parts : State → StateParts
whole_parts s = (((length s.harts, s.shared), s.harts), (s.input, (s.output, s.breakpoints)))

-- the head, as many harts as it says, at most 16 bytes of input and 4096 of output, and the breakpoints
unfoldable pub parts : (size : ℕ) → Codec StateParts
parts size =
    both (then_each head (λ h. h.0) (hart size))
    (both (counted_bytes 1 (within 0 16)) (both (counted_bytes 2 (within 0 4096)) breakpoints))

-- the values of a guest with a RAM of this many bytes, and nothing after them
unfoldable pub state : (size : ℕ) → Format State
state size = alone (as_type (parts size) whole_of whole_parts)
