-- Turns of several harts before their counters rise.
use Rattle.std.specs.Prelude.{◌≡◌, ℕ, zero, suc, ◌+◌, ◌-◌, ◌/◌, ◌%◌, ◌<◌, ◌≤◌, nat_lt, if◌then◌else◌, List, length, get_or, slice_set, None}
use Rattle.rvm_hart.specs.Machine.{BusState, HartState}
use Rattle.rvm_hart.specs.Frozen.{risen_by}
use Rattle.rvm_hart.specs.Straight.{IsQuiet, at_time, risen}
use Rattle.rvm_board.specs.Board.{Board, BoardState, IsBoard, machine_at, new_hart}
use Rattle.rvm_board.specs.Guest.{GuestState, fresh}
use Rattle.rvm_board.specs.Computing.{Compute}

-- how many of n turns hart k has, of this many harts, if hart `first` has the first turn
unfoldable pub share : (harts first n k : ℕ) → ℕ
share harts first n k =
    (first + n) / harts + (if nat_lt k ((first + n) % harts) then 1 else 0) - (if nat_lt k first then 1 else 0)

-- harts; the counters of each of the first n rose by its number of steps
abbrev pub risen_up_to : (steps : ℕ → ℕ) → (n : ℕ) → List HartState → List HartState
risen_up_to steps zero hs = hs
risen_up_to steps (suc n) hs =
    slice_set (risen_up_to steps n hs) n (risen_by (steps n) (get_or (risen_up_to steps n hs) n (new_hart 0 0)))

-- a board; the counters of each hart rose by its number of steps, and mtime by n
abbrev pub risen_board : (steps : ℕ → ℕ) → (n : ℕ) → Board → Board
risen_board steps n b =
    record {
      harts = risen_up_to steps (length b.harts) b.harts;
      shared = record b.shared { devices = at_time (risen n b.shared.devices.mtime) b.shared.devices };
    }

-- a board after n turns whose counters did not rise, if hart `first` had the first turn; all counters then rise
abbrev pub risen_after : (first n : ℕ) → Board → Board
risen_after first n b = risen_board (λ k. share (length b.harts) first n k) n b

-- no interrupt is pending at any hart before each of the next n steps, if mtime alone changes in the devices
abbrev pub AreQuiet : (n : ℕ) → Board → Type 0
AreQuiet n b = (k : ℕ) → k < length b.harts → IsQuiet n (machine_at k b)

-- a guest of this board without breakpoints, and its dirty log
abbrev pub guest_on : BoardState → GuestState
guest_on b = record { guest = fresh b.plain; dirty = b.dirty }

-- of at most `count` turns, from that of hart `first` on, all but `left` were made, but no counter rose; no interrupt is
-- pending before all have been made, and hart `next` has the next turn
pub record Striding (count first : ℕ) (old : BoardState) (left next : ℕ) (now : BoardState) : Type 0 where
  pub inside : first < length old.plain.harts
  pub few : left ≤ count
  pub size : length now.plain.harts ≡ length old.plain.harts
  pub place : next ≡ (first + (count - left)) % length old.plain.harts
  pub board : IsBoard now.plain
  pub on : now.plain.shared.devices.halted ≡ None
  pub quiet : AreQuiet count now.plain
  pub computed : Compute (length old.plain.harts) (count - left) first (guest_on old)
      (guest_on (record { plain = risen_after first (count - left) now.plain; dirty = now.dirty }))

-- whatever turns were made before, those of harts 0 to h - 1 go on after them
abbrev pub GoOn : (h : ℕ) → (old new : BoardState) → Type 0
GoOn h old new =
    (count first left : ℕ) → (begun : BoardState) → h ≤ left → Striding count first begun left 0 old
    → Striding count first begun (left - h) (h % length old.plain.harts) new

-- the board of these harts and this bus
abbrev pub board_of : List HartState → BusState → BoardState
board_of hs b = record { plain = record { harts = hs; shared = b.shared }; dirty = b.dirty }

-- a board became that of these harts and this bus, but for its counters, as harts 0 to h - 1 took their turns
pub record Row (h : ℕ) (old : BoardState) (harts : List HartState) (b : BusState) : Type 0 where
  pub size : length harts ≡ length old.plain.harts
  pub board : IsBoard (board_of harts b).plain
  pub turns : GoOn h old (board_of harts b)
