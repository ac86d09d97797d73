-- What an event does not change.
use Rattle.std.specs.Prelude.{◌≡◌, ℕ, ◌<◌, length}
use Rattle.rvm_mem.specs.Others.{Others}
use Rattle.rvm_hart.specs.Registers.{AreRegisters}
use Rattle.rvm_board.specs.Board.{hart_at}
use Rattle.rvm_board.specs.Guest.{Guest}
use Rattle.rvm_board.specs.Events.{Answered}

-- the pages that are not listed; the size of RAM; the number of harts, and the number of harts that devices,
-- reservations and stops are for; each hart's number, and that it has 32 registers, of which x0 is 0
pub record Keeps (a : Answered) (g : Guest) : Type 0 where
  pub others : Others a.pages a.guest.board.shared.bytes g.board.shared.bytes
  pub size : length a.guest.board.shared.bytes ≡ length g.board.shared.bytes
  pub harts : length a.guest.board.harts ≡ length g.board.harts
  pub numbers : (k : ℕ) → k < length g.board.harts
      → (hart_at k a.guest.board).csrs.hart ≡ (hart_at k g.board).csrs.hart
  pub registers : (k : ℕ) → k < length g.board.harts
      → AreRegisters (hart_at k g.board).regs → AreRegisters (hart_at k a.guest.board).regs
  pub msip : length a.guest.board.shared.devices.msip ≡ length g.board.shared.devices.msip
  pub mtimecmp : length a.guest.board.shared.devices.mtimecmp ≡ length g.board.shared.devices.mtimecmp
  pub reservations : length a.guest.board.shared.reservations ≡ length g.board.shared.reservations
  pub stopped : length a.guest.stopped ≡ length g.stopped
