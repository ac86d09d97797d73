-- What an event of a host does to a guest, and what the guest answers.
use Rattle.std.specs.Prelude.{ℕ, ◌-◌, ◌%◌, Bool, true, false, ◌&&◌, ◌==◌, not, nat_lt, nat_le, if◌then◌else◌, List, [], ◌∷◌, ◌++◌, length, take, drop, Option, Some, None, get_or, slice_set}
use Rattle.rvm_mem.specs.Bytes.{slice}
use Rattle.rvm_mem.specs.Pages.{byte_pages}
use Rattle.rvm_hart.specs.declared.outcome.Stepped.{Stepped}
use Rattle.rvm_hart.specs.declared.outcome.Stepped.TheVariants as stepped
use Rattle.rvm_hart.specs.Bus.{ram_base, ram_load}
use Rattle.rvm_board.specs.Board as board
use Rattle.rvm_board.specs.Board.{hart_at, with_input, with_output}
use Rattle.rvm_hart.specs.Pokes.{memory_poked}
use Rattle.rvm_board.specs.Pokes.{register_poked, is_view}
use Rattle.rvm_board.specs.declared.event.BoardEvent.{BoardEvent}
use Rattle.rvm_board.specs.declared.event.BoardEvent.TheVariants as event
use Rattle.rvm_board.specs.declared.event.BoardReply.{BoardReply}
use Rattle.rvm_board.specs.declared.event.BoardReply.TheVariants as reply
use Rattle.rvm_board.specs.declared.event.BoardRefusal.{BoardRefusal}
use Rattle.rvm_board.specs.declared.event.BoardRefusal.TheVariants.{OutOfRange, InputFull, BadHart, TooManyBreaks}
use Rattle.rvm_board.specs.Guest.{Guest, is_in, with, without}

-- the guest that an event leaves, the pages that it wrote, and its answer
pub record Answered : Type 0 where
  pub guest : Guest
  pub pages : List ℕ
  pub reply : BoardReply

-- the event leaves a guest, and wrote no page
abbrev pub leaves : Guest → BoardReply → Answered
leaves g r = record { guest = g; pages = []; reply = r }

-- the event is refused, and the guest does not change
abbrev pub refuses : BoardRefusal → Guest → Answered
refuses why g = leaves g (reply.Refused why)

-- a guest with another board
abbrev pub with_board : board.Board → Guest → Guest
with_board b g = record g { board = b }

-- the answer to a step that did this
abbrev pub reply_of : Stepped → BoardReply
reply_of stepped.Retired = reply.Retired
reply_of (stepped.Trapped e) = reply.Trapped e
reply_of (stepped.Interrupted i) = reply.Interrupted i
reply_of (stepped.Halted s) = reply.Halted s

-- whether steps end with this answer to one: at a breakpoint, on a halted board, or if the step was refused
abbrev pub ends_steps : BoardReply → Bool
ends_steps reply.Retired = false
ends_steps (reply.Trapped e) = false
ends_steps (reply.Interrupted i) = false
ends_steps (reply.Halted s) = true
ends_steps (reply.Break a) = true
ends_steps reply.Done = false
ends_steps (reply.Bytes bs) = false
ends_steps (reply.Regs rs) = false
ends_steps (reply.Line a w) = false
ends_steps (reply.Refused r) = true

-- the answer to a step; without a step, a stop at the breakpoint at an address
abbrev pub step_reply : (address : ℕ) → Option Stepped → BoardReply
step_reply a None = reply.Break a
step_reply a (Some s) = reply_of s

-- the address of the next instruction of a hart
abbrev pub pc_of : ℕ → Guest → ℕ
pc_of h g = (hart_at h g.board).pc

-- whether a hart stops instead of its next step: it is at a breakpoint and has not just stopped there
abbrev pub stops : ℕ → Guest → Bool
stops h g = is_in (pc_of h g) g.breakpoints && not (get_or g.stopped h false)

-- the guest, with a note whether one of its harts stands at a breakpoint
abbrev pub with_stopped : ℕ → Bool → Guest → Guest
with_stopped h b g = record g { stopped = slice_set g.stopped h b }

-- a step of a hart that does not stop; afterwards it stands at no breakpoint
abbrev pub takes_step : ℕ → Guest → Answered
takes_step h g =
    let t = board.stepped h g.board in
    record {
      guest = with_stopped h false (with_board t.board g);
      pages = t.pages;
      reply = reply_of t.answer;
    }

-- a hart of a board that is not halted stops or steps
abbrev pub steps_on : ℕ → Guest → Answered
steps_on h g =
    if stops h g then leaves (with_stopped h true g) (reply.Break (pc_of h g)) else takes_step h g

-- a hart of a halted board neither stops nor steps
abbrev pub unless_halted : Option ℕ → ℕ → Guest → Answered
unless_halted (Some status) h g = leaves g (reply.Halted status)
unless_halted None h g = steps_on h g

-- a step of a hart
abbrev pub steps : ℕ → Guest → Answered
steps h g = unless_halted g.board.shared.devices.halted h g

-- a step of a hart, if there is one of this number
abbrev pub steps_if_there : ℕ → Guest → Answered
steps_if_there h g = if nat_lt h (length g.board.harts) then steps h g else refuses BadHart g

-- the console gets a byte of input, if fewer than 16 wait
abbrev pub takes_input : ℕ → Guest → Answered
takes_input byte g =
    let waiting = g.board.shared.devices.input in
    if length waiting == 16 then refuses InputFull g
    else leaves (with_board (with_input (waiting ++ byte ∷ []) g.board) g) reply.Done

-- the oldest bytes that the guest sent are taken, at most this many, which is at most 256
abbrev pub drains : ℕ → Guest → Answered
drains n g =
    let sent = g.board.shared.devices.output in
    if nat_lt 256 n then refuses OutOfRange g
    else leaves (with_board (with_output (drop n sent) g.board) g) (reply.Bytes (take n sent))

-- a breakpoint is set at an address, beside at most 63 others
abbrev pub sets_breakpoint : ℕ → Guest → Answered
sets_breakpoint a g =
    if is_in a g.breakpoints then leaves g reply.Done
    else (if length g.breakpoints == 64 then refuses TooManyBreaks g
    else leaves (record g { breakpoints = with a g.breakpoints }) reply.Done)

-- the breakpoint at an address is removed
abbrev pub clears_breakpoint : ℕ → Guest → Answered
clears_breakpoint a g = leaves (record g { breakpoints = without a g.breakpoints }) reply.Done

-- the registers of a hart
abbrev pub tells_registers : ℕ → Guest → Answered
tells_registers h g =
    let hart = hart_at h g.board in
    if nat_lt h (length g.board.harts) then leaves g (reply.Regs (hart.regs ++ hart.pc ∷ []))
    else refuses BadHart g

-- 1 to 256 bytes of RAM
abbrev pub tells_bytes : (address count : ℕ) → Guest → Answered
tells_bytes a n g =
    if is_view a n g.board then leaves g (reply.Bytes (slice n (a - ram_base) g.board.shared.bytes))
    else refuses OutOfRange g

-- the word, if there is one, at an address
abbrev pub tells_word : ℕ → Option ℕ → Guest → Answered
tells_word a (Some word) g = leaves g (reply.Line a word)
tells_word a None g = refuses OutOfRange g

-- the word of RAM at a multiple of four
abbrev pub tells_line : ℕ → Guest → Answered
tells_line a g =
    if a % 4 == 0 then tells_word a (ram_load 4 a g.board.shared.bytes) g else refuses OutOfRange g

-- a hart whose pc is set from outside no longer stands at a breakpoint
abbrev pub after_poke : (h register : ℕ) → Guest → Guest
after_poke h r g = if r == 32 then with_stopped h false g else g

-- a register of a hart is set
abbrev pub sets_register : (h register value : ℕ) → Guest → Answered
sets_register h r v g =
    if nat_le (length g.board.harts) h then refuses BadHart g
    else (if nat_lt 32 r then refuses OutOfRange g
    else leaves (after_poke h r (with_board (register_poked h r v g.board) g)) reply.Done)

-- 1 to 256 bytes of RAM are written
abbrev pub writes_bytes : (address : ℕ) → List ℕ → Guest → Answered
writes_bytes a bytes g =
    if is_view a (length bytes) g.board
    then record {
      guest = with_board (record g.board { shared = memory_poked a bytes g.board.shared }) g;
      pages = byte_pages (a - ram_base) (length bytes);
      reply = reply.Done;
    }
    else refuses OutOfRange g

-- what an event leaves, and its answer
abbrev pub answered : BoardEvent → Guest → Answered
answered (event.Step h) g = steps_if_there h g
answered (event.Input byte) g = takes_input byte g
answered (event.Drain n) g = drains n g
answered (event.Break a) g = sets_breakpoint a g
answered (event.Clear a) g = clears_breakpoint a g
answered (event.Regs h) g = tells_registers h g
answered (event.Mem a n) g = tells_bytes a n g
answered (event.Dis a) g = tells_line a g
answered (event.PokeReg h r v) g = sets_register h r v g
answered (event.PokeMem a bytes) g = writes_bytes a bytes g
