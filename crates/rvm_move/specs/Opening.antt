-- The two hosts of a move before it begins.
use Rattle.std.specs.Prelude.{◌≡◌, ℕ, true, List, [], IfOk}
use Rattle.rvm_arguments.specs.declared.arguments.MoveArguments.{MoveArguments}
use Rattle.rvm_command.specs.Command.{guest_of, image_of}
use Rattle.rvm_command.specs.Ends.{IsLoadable}
use Rattle.rvm_host.specs.Hosts.{PlainHost}
use Rattle.rvm_host.specs.Modes.{PlainMode, Empty, Run}
use Rattle.rvm_board.specs.Guest.{Guest}
use Rattle.rvm_guest.specs.Valid.{is_valid}
use Rattle.rvm_asm.specs.Images.{Piece}
use Rattle.rvm_recorder.specs.History.{Recording}

-- the host with this number, of two, before any move
abbrev pub host_before : (id version : ℕ) → PlainMode → PlainHost
host_before id version mode =
    record { mode = mode; partner = id; id = id; count = 2; limit = 4096; version = version }

-- a host with an empty journal
abbrev pub recorded_before : PlainHost → Recording
recorded_before host =
    record { journal = record { opening = host; entries = []; reserved = 0 }; capacity = 1048576 }

-- the guest of an image
abbrev pub guest_in : MoveArguments → (image : ℕ × List Piece) → Guest
guest_in a image = guest_of a.guest.harts a.guest.pages image.0 image.1

-- the first host has the guest of a file
abbrev pub IsFirstHost : MoveArguments → (file : List ℕ) → Recording → Type 0
IsFirstHost a file r =
    IfOk (image_of a.guest.raw file) (λ i. r ≡ recorded_before (host_before 0 a.stream (Run 0 (guest_in a i))))

-- the guest of a file is valid
abbrev pub HasValidGuest : MoveArguments → (file : List ℕ) → Type 0
HasValidGuest a file = IfOk (image_of a.guest.raw file) (λ i. is_valid (guest_in a i) ≡ true)

-- the second host has no guest
abbrev pub IsSecondHost : MoveArguments → Recording → Type 0
IsSecondHost a r = r ≡ recorded_before (host_before 1 a.stream (Empty 0))

-- two hosts as a move of this file begins with them
pub record AreOpened (a : MoveArguments) (file : List ℕ) (first second : PlainHost) : Type 0 where
  pub loadable : IsLoadable (image_of a.guest.raw file) a.guest.pages
  pub valid : HasValidGuest a file
  pub has_guest : IfOk (image_of a.guest.raw file) (λ i. first ≡ host_before 0 a.stream (Run 0 (guest_in a i)))
  pub has_none : second ≡ host_before 1 a.stream (Empty 0)
