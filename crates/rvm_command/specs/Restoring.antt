-- Hosts that read saved guests, and why bytes are none.
use Rattle.std.specs.Prelude.{◌≡◌, ◌⊎◌, Bool, true, false, List, ℕ, Some}
use Rattle.rvm_board.specs.Guest.{Guest}
use Rattle.rvm_frame.specs.declared.fault.FrameFault.{FrameFault}
use Rattle.rvm_frame.specs.declared.fault.FrameFault.TheVariants as frame
use Rattle.rvm_host.specs.Hosts.{PlainHost}
use Rattle.rvm_host.specs.declared.status.ModeKind.{ModeKind}
use Rattle.rvm_host.specs.declared.status.ModeKind.TheVariants.{Running}
use Rattle.rvm_command.specs.declared.saved_fault.RestoreFault.{RestoreFault}
use Rattle.rvm_command.specs.declared.saved_fault.RestoreFault.TheVariants.{BadFrame, OutOfMemory, TooLong}
use Rattle.rvm_command.specs.Saved.{BoardHost, IsSavedGuest, guest_running}

-- host 1 of two, which takes guests of at most 4096 pages and speaks version 1
pub record IsTarget (h : PlainHost) : Type 0 where
  pub id : h.id ≡ 1
  pub count : h.count ≡ 2
  pub limit : h.limit ≡ 4096
  pub version : h.version ≡ 1

-- bytes are refused: memory ran out, or they are no guest
abbrev pub IsRefused : (Is : Guest → Type 0) → RestoreFault → Type 0
IsRefused Is fault = (fault ≡ OutOfMemory) ⊎ ((g : Guest) → Is g → ⊥)

-- a host runs the guest that bytes are, if they are one, and no other
pub record IsToldOf (bytes : List ℕ) (h : BoardHost) : Type 0 where
  pub sound : (g : Guest) → guest_running h ≡ Some g → IsSavedGuest bytes g
  pub whole : (g : Guest) → IsSavedGuest bytes g → guest_running h ≡ Some g

-- the fault of a saved guest whose stream has this fault
abbrev pub fault_of : FrameFault → RestoreFault
fault_of frame.OutOfMemory = OutOfMemory
fault_of frame.BadFrame = BadFrame
fault_of frame.TooLong = TooLong
fault_of frame.Failed = BadFrame

-- whether the guest of a mode of this kind runs, and makes no move
abbrev pub is_running : ModeKind → Bool
is_running Running = true
is_running kind = false
