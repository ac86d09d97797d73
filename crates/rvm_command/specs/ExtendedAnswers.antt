-- The texts of the answers that an extended session has beside those of a script. Each of their lines ends with a line
-- feed.
use Rattle.std.specs.Prelude.{ℕ, ◌+◌, Bool, true, false, if◌then◌else◌, nat_lt, List, [], ◌∷◌, ◌++◌, length, codes, Option, Some, None}
use Rattle.std.specs.Fmt.{decimal}
use Rattle.hex.specs.Hex.{encode_lower}
use Rattle.rvm_word.specs.Bits.{low_half, high_half}
use Rattle.rvm_csr.specs.declared.interrupts.Interrupts.{Interrupts}
use Rattle.rvm_csr.specs.declared.register.Csr.{Csr}
use Rattle.rvm_csr.specs.declared.register.Csr.TheVariants.{Mstatus, Mie, Mtvec, Mscratch, Mepc, Mcause, Mtval, Mip, Mcycle, Minstret, Mcycleh, Minstreth, Mhartid}
use Rattle.rvm_csr.specs.Registers.{CsrState}
use Rattle.rvm_csr.specs.Table.{value_of}
use Rattle.rvm_dev.specs.declared.fields.DeviceFields.{DeviceFields}
use Rattle.rvm_dis.specs.Pieces.{hex_digits}
use Rattle.rvm_hart.specs.Bus.{mip_of}
use Rattle.rvm_board.specs.declared.event.BoardRefusal.TheVariants.{BadHart}
use Rattle.rvm_board.specs.declared.event.BoardReply.TheVariants.{Refused}
use Rattle.rvm_board.specs.declared.part.HartPart.{HartPart}
use Rattle.rvm_board.specs.declared.turns.Stop.{Stop}
use Rattle.rvm_board.specs.declared.turns.Stop.TheVariants.{Break, Halted}
use Rattle.rvm_board.specs.Board.{hart_at}
use Rattle.rvm_board.specs.Guest.{Guest}
use Rattle.rvm_board.specs.State.{State}
use Rattle.rvm_debug.specs.Answers.{register_text, reply_text}

-- THE REGISTERS OF A HART

-- `NAME=VVVVVVVV`: a register, with the value that a read of it gives while these interrupts are pending
abbrev pub csr_text : (name : List ℕ) → Csr → (mip : Interrupts) → CsrState → List ℕ
csr_text name csr mip s = register_text name (value_of csr mip s)

-- the registers of trap setup, and mip
abbrev pub setup_text : (mip : Interrupts) → CsrState → List ℕ
setup_text mip s =
    csr_text (codes "mstatus") Mstatus mip s ++ codes " " ++ csr_text (codes "mie") Mie mip s ++ codes " "
    ++ csr_text (codes "mip") Mip mip s ++ codes " " ++ csr_text (codes "mtvec") Mtvec mip s ++ codes "\n"

-- the registers of trap handling
abbrev pub handling_text : (mip : Interrupts) → CsrState → List ℕ
handling_text mip s =
    csr_text (codes "mscratch") Mscratch mip s ++ codes " " ++ csr_text (codes "mepc") Mepc mip s ++ codes " "
    ++ csr_text (codes "mcause") Mcause mip s ++ codes " " ++ csr_text (codes "mtval") Mtval mip s ++ codes "\n"

-- the counters
abbrev pub counters_text : (mip : Interrupts) → CsrState → List ℕ
counters_text mip s =
    csr_text (codes "mcycle") Mcycle mip s ++ codes " " ++ csr_text (codes "mcycleh") Mcycleh mip s ++ codes " "
    ++ csr_text (codes "minstret") Minstret mip s ++ codes " " ++ csr_text (codes "minstreth") Minstreth mip s
    ++ codes "\n"

-- the register of the hart's number
abbrev pub number_text : (mip : Interrupts) → CsrState → List ℕ
number_text mip s = csr_text (codes "mhartid") Mhartid mip s ++ codes "\n"

-- the control and status registers of a hart, four a line, at last its number
abbrev pub csrs_text : (mip : Interrupts) → CsrState → List ℕ
csrs_text mip s = setup_text mip s ++ handling_text mip s ++ counters_text mip s ++ number_text mip s

-- the answer to `csrs H`: the registers of hart h, or that there is no such hart
abbrev pub csrs_answer : (h : ℕ) → Guest → List ℕ
csrs_answer h g =
    if nat_lt h (length g.board.harts)
    then csrs_text (mip_of h g.board.shared.devices) (hart_at h g.board).csrs
    else reply_text None (Refused BadHart)

-- THE DEVICES

-- the 16 hexadecimal digits of a 64-bit number
abbrev pub long_digits : ℕ → List ℕ
long_digits n = hex_digits 8 (high_half n) ++ hex_digits 8 (low_half n)

-- a bit, 0 or 1
abbrev pub flag : Bool → List ℕ
flag false = codes "0"
flag true = codes "1"

-- `mtime=VVVVVVVVVVVVVVVV`
abbrev pub timer_text : ℕ → List ℕ
timer_text mtime = codes "mtime=" ++ long_digits mtime ++ codes "\n"

-- `hart H mtimecmp=VVVVVVVVVVVVVVVV msip=B`
abbrev pub hart_line : (h : ℕ) → HartPart → List ℕ
hart_line h p =
    codes "hart " ++ decimal h ++ codes " mtimecmp=" ++ long_digits p.mtimecmp ++ codes " msip="
    ++ flag p.msip ++ codes "\n"

-- these lines of harts that are numbered from h on
unfoldable pub hart_lines : (h : ℕ) → List HartPart → List ℕ
hart_lines h [] = []
hart_lines h (p ∷ ps) = hart_line h p ++ hart_lines (h + 1) ps

-- `NAME N HEX`, the bytes of a queue, oldest first; without HEX if there are none
abbrev pub queue_text : (name : List ℕ) → List ℕ → List ℕ
queue_text name [] = name ++ codes " 0\n"
queue_text name (b ∷ bs) =
    name ++ codes " " ++ decimal (length (b ∷ bs)) ++ codes " " ++ encode_lower (b ∷ bs) ++ codes "\n"

-- `interrupt_enable=B overrun=B`: whether input interrupts, and whether output was lost
abbrev pub console_text : DeviceFields → List ℕ
console_text f =
    codes "interrupt_enable=" ++ flag f.interrupt_enable ++ codes " overrun=" ++ flag f.overrun ++ codes "\n"

-- `halted S`, if the board is
abbrev pub halted_text : Option ℕ → List ℕ
halted_text None = []
halted_text (Some status) = codes "halted " ++ decimal status ++ codes "\n"

-- the answer to `devices`: the timer, the words of each hart, the console, and whether the board is halted
abbrev pub devices_text : State → List ℕ
devices_text s =
    timer_text s.shared.mtime ++ hart_lines 0 s.harts ++ queue_text (codes "input") s.input
    ++ queue_text (codes "output") s.output ++ console_text s.shared ++ halted_text s.shared.halted

-- THE TURNS

-- what ended the turns, the last of which was this hart's
abbrev pub stop_text : (hart : ℕ) → Option Stop → List ℕ
stop_text hart None = codes "done"
stop_text hart (Some (Break a)) = codes "hart " ++ decimal hart ++ codes " break " ++ hex_digits 8 a
stop_text hart (Some (Halted s)) = codes "halted " ++ decimal s

-- the answer to `turns N`: how many were made, and what ended them
abbrev pub turns_text : (made hart : ℕ) → Option Stop → List ℕ
turns_text made hart stop =
    codes "turns " ++ decimal made ++ codes ": " ++ stop_text hart stop ++ codes "\n"
