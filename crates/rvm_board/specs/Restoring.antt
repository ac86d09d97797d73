-- A guest that is given the values of a snapshot.
use Rattle.std.specs.Prelude.{◌≡◌, ℕ, ◌+◌, ◌≤◌, List, [], ◌∷◌, length}
use Rattle.rvm_board.specs.declared.part.HartPart.{HartPart}
use Rattle.rvm_board.specs.Guest.{AreRising, Guest}
use Rattle.rvm_board.specs.Parts.{CanBeHeld, hart_restored}
use Rattle.rvm_board.specs.State.{State}

-- the guest in which each hart from h on has its values from a list
unfoldable pub harts_restored : (h : ℕ) → List HartPart → Guest → Guest
harts_restored h [] g = g
harts_restored h (p ∷ ps) g = harts_restored (h + 1) ps (hart_restored h p g)

-- a guest of this many harts
pub record IsOf (count : ℕ) (g : Guest) : Type 0 where
  pub harts : length g.board.harts ≡ count
  pub msip : length g.board.shared.devices.msip ≡ count
  pub mtimecmp : length g.board.shared.devices.mtimecmp ≡ count
  pub reservations : length g.board.shared.reservations ≡ count
  pub stopped : length g.stopped ≡ count

-- a guest with a RAM of this many bytes can keep each of these
abbrev pub AreHeld : (size : ℕ) → List HartPart → Type 0
AreHeld size [] = Unit {0}
AreHeld size (p ∷ ps) = CanBeHeld size p × AreHeld size ps

-- a guest with a RAM of this many bytes can have these values
pub record CanBeRestored (size : ℕ) (s : State) : Type 0 where
  pub held : AreHeld size s.harts
  pub count : length s.harts ≤ 8
  pub some : 1 ≤ length s.harts
  pub input : length s.input ≤ 16
  pub output : length s.output ≤ 4096
  pub few : length s.breakpoints ≤ 64
  pub rising : AreRising s.breakpoints
