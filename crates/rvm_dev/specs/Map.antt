-- Which device word is at an address. The software interrupts and the timer lie as in the RISC-V
-- ACLINT specification.
use Rattle.std.specs.Prelude.{⊤, ◌<◌, ℕ, ◌+◌, ◌-◌, ◌*◌, ◌/◌, ◌%◌, Bool, ◌&&◌, ◌==◌, nat_le, nat_lt, if◌then◌else◌, Option, Some, None}
use Rattle.rvm_dev.specs.declared.register.Register.{Register}
use Rattle.rvm_dev.specs.declared.register.Register.TheVariants.{Halt, Msip, MtimecmpLow, MtimecmpHigh, MtimeLow, MtimeHigh, Transmit, Receive, Status, InterruptEnable}

-- an address has a word of a row with one for each hart, which begins at first and has a word every
-- stride bytes
abbrev pub is_word_of : (first stride harts address : ℕ) → Bool
is_word_of first stride harts address =
    nat_le first address && nat_lt address (first + stride * harts) &&
    (address - first) % stride == 0

-- the hart of such a word
abbrev pub hart_of : (first stride address : ℕ) → ℕ
hart_of first stride address = (address - first) / stride

-- the device word at an address of a board of this many harts
unfoldable pub register_at : (harts address : ℕ) → Option Register
register_at harts a =
    if a == 0x100000 then Some Halt else
    if is_word_of 0x2000000 4 harts a then Some (Msip (hart_of 0x2000000 4 a)) else
    if is_word_of 0x2004000 8 harts a then Some (MtimecmpLow (hart_of 0x2004000 8 a)) else
    if is_word_of 0x2004004 8 harts a then Some (MtimecmpHigh (hart_of 0x2004004 8 a)) else
    if a == 0x200BFF8 then Some MtimeLow else
    if a == 0x200BFFC then Some MtimeHigh else
    if a == 0x10000000 then Some Transmit else
    if a == 0x10000004 then Some Receive else
    if a == 0x10000008 then Some Status else
    if a == 0x1000000C then Some InterruptEnable else None

-- a word of which each hart has one belongs to one of this many harts
abbrev pub IsOfHart : ℕ → Register → Type 0
IsOfHart harts (Msip h) = h < harts
IsOfHart harts (MtimecmpLow h) = h < harts
IsOfHart harts (MtimecmpHigh h) = h < harts
IsOfHart harts r = ⊤
