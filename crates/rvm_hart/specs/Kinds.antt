-- What the instructions of each kind do, given their operands.
use Rattle.std.specs.Prelude.{ℕ, ℤ, pos, ◌+◌, ◌-◌, ◌*◌, ◌/◌, ◌%◌, ◌^◌, ◌+ℤ◌, ◌*ℤ◌, Bool, true, not, ◌==◌, nat_lt, int_lt, if◌then◌else◌, List, [], Option, Some, None, option_map, bit_and, bit_or, bit_xor}
use Rattle.rvm_word.specs.Word.{signed, modulo, high, floor_shift, quotient, remainder, unsigned_quotient, unsigned_remainder}
use Rattle.rvm_csr.specs.declared.cause.Exception.TheVariants.{InstructionAddressMisaligned, IllegalInstruction, LoadAddressMisaligned, LoadAccessFault, StoreAddressMisaligned, StoreAccessFault}
use Rattle.rvm_csr.specs.Registers.{CsrState}
use Rattle.rvm_csr.specs.Table.{csr_read, csr_write}
use Rattle.rvm_res.specs.Reservations as res
use Rattle.rvm_hart.specs.declared.arithmetic.Operation.{Operation}
use Rattle.rvm_hart.specs.declared.arithmetic.Operation.TheVariants as op
use Rattle.rvm_hart.specs.declared.jumps.Comparison.{Comparison}
use Rattle.rvm_hart.specs.declared.jumps.Comparison.TheVariants as test
use Rattle.rvm_hart.specs.declared.atomics.Amo.{Amo}
use Rattle.rvm_hart.specs.declared.atomics.Amo.TheVariants as amo
use Rattle.rvm_hart.specs.declared.csrs.CsrChange.{CsrChange}
use Rattle.rvm_hart.specs.declared.csrs.CsrChange.TheVariants as change
use Rattle.rvm_hart.specs.declared.outcome.Written.{Written}
use Rattle.rvm_hart.specs.declared.outcome.Written.TheVariants.{Other, Mcycle, Minstret}
use Rattle.rvm_hart.specs.Machine.{Machine, number_of}
use Rattle.rvm_hart.specs.Bus.{Stored, in_ram, ram_load, word_loaded, after_word_load, ram_stored, word_stored, mip_of}
use Rattle.rvm_hart.specs.Outcome.{Outcome, Done, Traps, with_register, next_pc, with_result, at_next, done_with, done}

-- the sum of a word and a signed number, modulo 2 ^ 32
abbrev pub sum : ℕ → ℤ → ℕ
sum a i = modulo 32 (pos a +ℤ i)

-- ARITHMETIC (Unprivileged ISA, "Integer Computational Instructions" and "M" Standard Extension)

-- 1 if true, 0 if false
abbrev pub flag : Bool → ℕ
flag b = if b then 1 else 0

-- the value of an operation on two words; a shift takes the low five bits of the second
abbrev pub value_of : Operation → (a b : ℕ) → ℕ
value_of op.Add a b = (a + b) % 2 ^ 32
value_of op.Sub a b = (a + (2 ^ 32 - b)) % 2 ^ 32
value_of op.Sll a b = a * 2 ^ (b % 32) % 2 ^ 32
value_of op.Slt a b = flag (int_lt (signed a) (signed b))
value_of op.Sltu a b = flag (nat_lt a b)
value_of op.Xor a b = bit_xor a b
value_of op.Srl a b = a / 2 ^ (b % 32)
value_of op.Sra a b = modulo 32 (floor_shift (signed a) (b % 32))
value_of op.Or a b = bit_or a b
value_of op.And a b = bit_and a b
value_of op.Mul a b = a * b % 2 ^ 32
value_of op.Mulh a b = high (signed a *ℤ signed b)
value_of op.Mulhsu a b = high (signed a *ℤ pos b)
value_of op.Mulhu a b = a * b / 2 ^ 32
value_of op.Div a b = quotient a b
value_of op.Divu a b = unsigned_quotient a b
value_of op.Rem a b = remainder a b
value_of op.Remu a b = unsigned_remainder a b

-- rd gets the value of an operation on two words
abbrev pub arithmetic : Operation → (rd a b : ℕ) → Machine → Outcome
arithmetic o rd a b m = done_with rd (value_of o a b) m

-- JUMPS AND BRANCHES (Unprivileged ISA, "Control Transfer Instructions")

-- a jump to a target, with the next instruction's address in rd; a target that is no multiple of four traps, and rd is
-- not written
abbrev pub jump : (rd target : ℕ) → Machine → Outcome
jump rd target m =
    if target % 4 == 0
    then Done (record m { hart = record m.hart { regs = with_register rd (next_pc m.hart) m.hart.regs; pc = target } }) [] Other
    else Traps InstructionAddressMisaligned target

-- a number with bit 0 cleared
abbrev pub even : ℕ → ℕ
even n = n - n % 2

-- whether a branch is taken
abbrev pub holds : Comparison → (a b : ℕ) → Bool
holds test.Eq a b = a == b
holds test.Ne a b = not (a == b)
holds test.Lt a b = int_lt (signed a) (signed b)
holds test.Ge a b = not (int_lt (signed a) (signed b))
holds test.Ltu a b = nat_lt a b
holds test.Geu a b = not (nat_lt a b)

-- a jump by the offset if the branch is taken, else on to the next instruction
abbrev pub branch : (taken : Bool) → (offset : ℤ) → Machine → Outcome
branch taken offset m = if taken then jump 0 (sum m.hart.pc offset) m else done m

-- LOADS (Unprivileged ISA, "Load and Store Instructions"); a misaligned address traps before an access fault can

-- rd gets the value; without a value, the load traps
abbrev pub load_outcome : (rd : ℕ) → (value : Option ℕ) → (address : ℕ) → Machine → Outcome
load_outcome rd (Some v) a m = done_with rd v m
load_outcome rd None a m = Traps LoadAccessFault a

-- a load of a byte of RAM, extended to a word
abbrev pub load_byte : (extended : ℕ → ℕ) → (rd address : ℕ) → Machine → Outcome
load_byte extended rd a m = load_outcome rd (option_map extended (ram_load 1 a m.shared.bytes)) a m

-- a load of two bytes of RAM, extended to a word
abbrev pub load_half : (extended : ℕ → ℕ) → (rd address : ℕ) → Machine → Outcome
load_half extended rd a m =
    if a % 2 == 0 then load_outcome rd (option_map extended (ram_load 2 a m.shared.bytes)) a m
    else Traps LoadAddressMisaligned a

-- a load of a word of RAM or a device
abbrev pub load_word : (rd address : ℕ) → Machine → Outcome
load_word rd a m =
    if a % 4 == 0 then load_outcome rd (word_loaded a m.shared) a (record m { shared = after_word_load a m.shared })
    else Traps LoadAddressMisaligned a

-- STORES (Unprivileged ISA, "Load and Store Instructions")

-- the outcome of a store; if nothing was stored, it traps
abbrev pub store_outcome : Option Stored → (address : ℕ) → Machine → Outcome
store_outcome (Some s) a m = Done (record { hart = at_next m.hart; shared = s.shared }) s.pages s.wrote
store_outcome None a m = Traps StoreAccessFault a

-- a store of the low byte of a value in RAM
abbrev pub store_byte : (address value : ℕ) → Machine → Outcome
store_byte a v m = store_outcome (ram_stored 1 (number_of m) a (v % 2 ^ 8) m.shared) a m

-- a store of the low two bytes of a value in RAM
abbrev pub store_half : (address value : ℕ) → Machine → Outcome
store_half a v m =
    if a % 2 == 0 then store_outcome (ram_stored 2 (number_of m) a (v % 2 ^ 16) m.shared) a m
    else Traps StoreAddressMisaligned a

-- a store of a word in RAM or a device
abbrev pub store_word : (address value : ℕ) → Machine → Outcome
store_word a v m =
    if a % 4 == 0 then store_outcome (word_stored (number_of m) a v m.shared) a m else Traps StoreAddressMisaligned a

-- ATOMICS (Unprivileged ISA, "A" Standard Extension): on RAM alone; aq and rl need nothing more, since each step is
-- atomic

-- the machine with other reservations
abbrev pub with_reservations_of : List (Option ℕ) → Machine → Machine
with_reservations_of words m = record m { shared = record m.shared { reservations = words } }

-- LR: rd gets the word, and the hart reserves it
abbrev pub load_reserved : (rd address : ℕ) → Machine → Outcome
load_reserved rd a m =
    if a % 4 == 0
    then load_outcome rd (ram_load 4 a m.shared.bytes) a (with_reservations_of (res.held (number_of m) a m.shared.reservations) m)
    else Traps LoadAddressMisaligned a

-- rd gets a value, and a word is stored in RAM; if nothing was stored, the instruction traps
abbrev pub exchange_outcome : (rd value : ℕ) → Option Stored → (address : ℕ) → Machine → Outcome
exchange_outcome rd v (Some s) a m = Done (record { hart = with_result rd v m.hart; shared = s.shared }) s.pages s.wrote
exchange_outcome rd v None a m = Traps StoreAccessFault a

-- the machine with the hart's reservation ended
abbrev pub without_reservation : Machine → Machine
without_reservation m = with_reservations_of (res.released (number_of m) m.shared.reservations) m

-- SC: if the hart has reserved this word, the value is stored and rd gets 0, else rd gets 1; the reservation ends
-- either way
abbrev pub store_conditional : (rd address value : ℕ) → Machine → Outcome
store_conditional rd a v m =
    if a % 4 == 0
    then (if in_ram 4 a m.shared.bytes
    then (if res.holds (number_of m) a m.shared.reservations
    then exchange_outcome rd 0 (ram_stored 4 (number_of m) a v (without_reservation m).shared) a (without_reservation m)
    else done_with rd 1 (without_reservation m))
    else Traps StoreAccessFault a)
    else Traps StoreAddressMisaligned a

-- the new word of an AMO, from the old one and the value of rs2 (Unprivileged ISA, "A" Standard Extension)
abbrev pub atomic_value : Amo → (old value : ℕ) → ℕ
atomic_value amo.Swap old v = v
atomic_value amo.Add old v = (old + v) % 2 ^ 32
atomic_value amo.Xor old v = bit_xor old v
atomic_value amo.And old v = bit_and old v
atomic_value amo.Or old v = bit_or old v
atomic_value amo.Min old v = if int_lt (signed old) (signed v) then old else v
atomic_value amo.Max old v = if int_lt (signed v) (signed old) then old else v
atomic_value amo.Minu old v = if nat_lt old v then old else v
atomic_value amo.Maxu old v = if nat_lt v old then old else v

-- AMO: rd gets the old word, and the new one is stored
abbrev pub atomic_outcome : Amo → (rd address value : ℕ) → Option ℕ → Machine → Outcome
atomic_outcome op rd a v (Some old) m = exchange_outcome rd old (ram_stored 4 (number_of m) a (atomic_value op old v) m.shared) a m
atomic_outcome op rd a v None m = Traps StoreAccessFault a

-- an AMO at an address, which traps if it is misaligned
abbrev pub atomic : Amo → (rd address value : ℕ) → Machine → Outcome
atomic op rd a v m =
    if a % 4 == 0 then atomic_outcome op rd a v (ram_load 4 a m.shared.bytes) m else Traps StoreAddressMisaligned a

-- CSR INSTRUCTIONS (Unprivileged ISA, "Zicsr" Extension); word is the instruction's own, for mtval

-- the new value: the source, or the old value with the source's bits set or cleared
abbrev pub changed_value : CsrChange → (old source : ℕ) → ℕ
changed_value change.Write old s = s
changed_value change.Set old s = bit_or old s
changed_value change.Clear old s = bit_and old (2 ^ 32 - 1 - s)

-- what a write to the CSR of this number wrote: a counter, if it is one of its halves
abbrev pub wrote_csr : (number : ℕ) → Written
wrote_csr n =
    if n == 0xB00 then Mcycle else if n == 0xB80 then Mcycle else
    if n == 0xB02 then Minstret else if n == 0xB82 then Minstret else Other

-- rd gets the old value, and the CSRs are those that the write left; a write to a read-only CSR is illegal
abbrev pub csr_write_outcome : (word rd number old : ℕ) → Option CsrState → Machine → Outcome
csr_write_outcome word rd n old (Some s) m =
    Done (record m { hart = record (with_result rd old m.hart) { csrs = s } }) [] (wrote_csr n)
csr_write_outcome word rd n old None m = Traps IllegalInstruction word

-- the value of the CSR of this number, if there is one
abbrev pub csr_value : (number : ℕ) → Machine → Option ℕ
csr_value n m = csr_read n (mip_of (number_of m) m.shared.devices) m.hart.csrs

-- rd gets the value; an absent CSR is illegal
abbrev pub csr_read_outcome : (word rd : ℕ) → Option ℕ → Machine → Outcome
csr_read_outcome word rd (Some value) m = done_with rd value m
csr_read_outcome word rd None m = Traps IllegalInstruction word

-- an instruction that only reads the CSR of this number
abbrev pub read_csr : (word rd number : ℕ) → Machine → Outcome
read_csr word rd n m = csr_read_outcome word rd (csr_value n m) m

-- rd gets the old value, and the CSR the new one; an absent or read-only CSR is illegal
abbrev pub csr_change_outcome : (word rd number : ℕ) → CsrChange → (source : ℕ) → Option ℕ → Machine → Outcome
csr_change_outcome word rd n c s (Some old) m = csr_write_outcome word rd n old (csr_write n (changed_value c old s) m.hart.csrs) m
csr_change_outcome word rd n c s None m = Traps IllegalInstruction word

-- an instruction that reads and writes the CSR of this number
abbrev pub change_csr : (word rd number : ℕ) → CsrChange → (source : ℕ) → Machine → Outcome
change_csr word rd n c s m = csr_change_outcome word rd n c s (csr_value n m) m

-- whether an instruction writes: one that sets or clears bits does not if its source field is 0
abbrev pub writes : CsrChange → (field : ℕ) → Bool
writes change.Write f = true
writes change.Set f = not (f == 0)
writes change.Clear f = not (f == 0)

-- a CSR instruction, which writes the CSR or only reads it
abbrev pub access_csr : (word rd number : ℕ) → CsrChange → (field source : ℕ) → Machine → Outcome
access_csr word rd n c field source m = if writes c field then change_csr word rd n c source m else read_csr word rd n m
