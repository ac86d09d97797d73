-- The registers by number: which there are, the value read, the registers after a write
-- (Privileged ISA, "CSR Listing").
use Rattle.std.specs.Prelude.{ℕ, ◌*◌, ◌-◌, ◌/◌, ◌%◌, ◌^◌, Bool, ◌&&◌, ◌==◌, nat_le, if◌then◌else◌, List, [], ◌∷◌, Option, None, find, option_map}
use Rattle.rvm_csr.specs.declared.interrupts.Interrupts.{Interrupts}
use Rattle.rvm_csr.specs.declared.register.Csr.{Csr}
use Rattle.rvm_csr.specs.declared.register.Csr.TheVariants.{Mstatus, Misa, Mie, Mtvec, Mstatush, Mcountinhibit, Mhpmevent, Mscratch, Mepc, Mcause, Mtval, Mip, Mcycle, Minstret, Mhpmcounter, Mcycleh, Minstreth, Mhpmcounterh, Mvendorid, Marchid, Mimpid, Mhartid, Mconfigptr}
use Rattle.rvm_word.specs.Bits.{is_set, low_half, high_half, with_low, with_high}
use Rattle.rvm_csr.specs.Registers.{CsrState, interrupt_bits, interrupts_of, mstatus_of}

-- the numbers from first to last have this register
pub record Row : Type 0 where
  pub first : ℕ
  pub last : ℕ
  pub csr : Csr

-- one number has this register
abbrev pub one : ℕ → Csr → Row
one number csr = record { first = number; last = number; csr = csr }

-- all numbers of a range have this register
abbrev pub many : ℕ → ℕ → Csr → Row
many first last csr = record { first = first; last = last; csr = csr }

-- the registers of a hart
unfoldable pub table : List Row
table =
    one 0x300 Mstatus ∷
    one 0x301 Misa ∷
    one 0x304 Mie ∷
    one 0x305 Mtvec ∷
    one 0x310 Mstatush ∷
    one 0x320 Mcountinhibit ∷
    many 0x323 0x33F Mhpmevent ∷
    one 0x340 Mscratch ∷
    one 0x341 Mepc ∷
    one 0x342 Mcause ∷
    one 0x343 Mtval ∷
    one 0x344 Mip ∷
    one 0xB00 Mcycle ∷
    one 0xB02 Minstret ∷
    many 0xB03 0xB1F Mhpmcounter ∷
    one 0xB80 Mcycleh ∷
    one 0xB82 Minstreth ∷
    many 0xB83 0xB9F Mhpmcounterh ∷
    one 0xF11 Mvendorid ∷
    one 0xF12 Marchid ∷
    one 0xF13 Mimpid ∷
    one 0xF14 Mhartid ∷
    one 0xF15 Mconfigptr ∷
    []

-- the register of a number, if there is one
unfoldable pub csr_at : ℕ → Option Csr
csr_at number =
    option_map (λ r. r.csr) (find (λ r. nat_le r.first number && nat_le number r.last) table)

-- the value that is read; mip is what is pending at the hart; misa says RV32IMA
abbrev pub value_of : Csr → Interrupts → CsrState → ℕ
value_of Mstatus mip s = mstatus_of s
value_of Misa mip s = 0x40001101
value_of Mie mip s = interrupt_bits s.mie
value_of Mtvec mip s = s.mtvec
value_of Mstatush mip s = 0
value_of Mcountinhibit mip s = 0
value_of Mhpmevent mip s = 0
value_of Mscratch mip s = s.mscratch
value_of Mepc mip s = s.mepc
value_of Mcause mip s = s.mcause
value_of Mtval mip s = s.mtval
value_of Mip mip s = interrupt_bits mip
value_of Mcycle mip s = low_half s.mcycle
value_of Minstret mip s = low_half s.minstret
value_of Mhpmcounter mip s = 0
value_of Mcycleh mip s = high_half s.mcycle
value_of Minstreth mip s = high_half s.minstret
value_of Mhpmcounterh mip s = 0
value_of Mvendorid mip s = 0
value_of Marchid mip s = 0
value_of Mimpid mip s = 0
value_of Mhartid mip s = s.hart
value_of Mconfigptr mip s = 0

-- the registers after a write; those that are not named here ignore it
abbrev pub written : Csr → ℕ → CsrState → CsrState
written Mstatus v s = record s { interrupts_enabled = is_set 3 v; enabled_before = is_set 7 v }
written Mie v s = record s { mie = interrupts_of v }
written Mtvec v s = record s { mtvec = v - 2 * (v / 2 % 2) }
written Mscratch v s = record s { mscratch = v }
written Mepc v s = record s { mepc = v - v % 4 }
written Mcause v s = record s { mcause = v }
written Mtval v s = record s { mtval = v }
written Mcycle v s = record s { mcycle = with_low v s.mcycle }
written Minstret v s = record s { minstret = with_low v s.minstret }
written Mcycleh v s = record s { mcycle = with_high v s.mcycle }
written Minstreth v s = record s { minstret = with_high v s.minstret }
written csr v s = s

-- a register is read-only if the top two of its number's twelve bits are set (Privileged ISA, "CSR
-- Address Mapping Conventions")
abbrev pub is_read_only : ℕ → Bool
is_read_only number = number / 2 ^ 10 % 4 == 3

-- the value that an instruction reads; none if there is no such register
abbrev pub csr_read : ℕ → Interrupts → CsrState → Option ℕ
csr_read number mip s = option_map (λ csr. value_of csr mip s) (csr_at number)

-- the registers after an instruction's write; none if there is no such register or it is read-only
abbrev pub csr_write : ℕ → ℕ → CsrState → Option CsrState
csr_write number v s =
    if is_read_only number then None else option_map (λ csr. written csr v s) (csr_at number)
