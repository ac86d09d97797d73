-- The guest that a file has: a saved guest, or the guest of an image.
use Rattle.std.specs.Prelude.{◌≡◌, ℕ, ◌&&◌, not, Bool, true, false, List, IfOk}
use Rattle.rvm_board.specs.Guest.{Guest}
use Rattle.rvm_command.specs.declared.refused.Refused.{Refused}
use Rattle.rvm_command.specs.declared.saved_fault.RestoreFault.{RestoreFault}
use Rattle.rvm_command.specs.Command.{guest_of, image_of}
use Rattle.rvm_command.specs.Ends.{IsLoadable, IsLoadRefusal, IsSavedRefusal}
use Rattle.rvm_command.specs.Saved.{IsSavedGuest, is_saved}

-- this is the guest of a saved guest, or, of a board with so many harts and pages, that of an image
abbrev pub IsGuestAs : (saved raw : Bool) → (harts pages : ℕ) → (file : List ℕ) → Guest → Type 0
IsGuestAs true raw harts pages file g = IsSavedGuest file g
IsGuestAs false raw harts pages file g =
    IsLoadable (image_of raw file) pages × IfOk (image_of raw file) (λ i. g ≡ guest_of harts pages i.0 i.1)

-- this is the guest that a file has, which is plain bytes if it is `raw`. A saved guest has the harts and pages that it had
abbrev pub IsGuestIn : (raw : Bool) → (harts pages : ℕ) → (file : List ℕ) → Guest → Type 0
IsGuestIn raw harts pages file g = IsGuestAs (is_saved raw file) raw harts pages file g

-- a saved guest, or the guest of an image, is refused
abbrev pub IsRefusalAs : (saved raw : Bool) → (pages : ℕ) → (file : List ℕ) → Refused → Type 0
IsRefusalAs true raw pages file r = IsSavedRefusal file r
IsRefusalAs false raw pages file r = IsLoadRefusal (image_of raw file) pages r

-- the guest that a file has is refused
abbrev pub IsGuestRefusal : (raw : Bool) → (pages : ℕ) → (file : List ℕ) → Refused → Type 0
IsGuestRefusal raw pages file r = IsRefusalAs (is_saved raw file) raw pages file r
