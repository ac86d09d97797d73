-- A file is read as what it begins as.
use Rattle.std.proofs.Common.{◌≡◌, ℕ, Bool, true, false, List, IfOk, sym, subst}
use Rattle.rvm_board.specs.Guest.{Guest}
use Rattle.rvm_command.specs.declared.refused.Refused.{Refused}
use Rattle.rvm_command.specs.Command.{guest_of, image_of}
use Rattle.rvm_command.specs.Ends.{IsLoadable, IsLoadRefusal, IsSavedRefusal}
use Rattle.rvm_command.specs.GuestFiles.{IsGuestAs, IsGuestIn, IsGuestRefusal, IsRefusalAs}
use Rattle.rvm_command.specs.Saved.{IsSavedGuest, is_saved}

-- the guest of a file that is read as a saved guest
pub saved : (raw : Bool) (harts pages : ℕ) (file : List ℕ) (g : Guest) → is_saved raw file ≡ true → IsSavedGuest file g
    → IsGuestIn raw harts pages file g
saved raw harts pages file g is read = subst (λ (b : Bool). IsGuestAs b raw harts pages file g) (sym is) read

-- the guest of a file that is read as an image
pub loaded : (raw : Bool) (harts pages : ℕ) (file : List ℕ) (g : Guest) → is_saved raw file ≡ false
    → IsLoadable (image_of raw file) pages → IfOk (image_of raw file) (λ i. g ≡ guest_of harts pages i.0 i.1)
    → IsGuestIn raw harts pages file g
loaded raw harts pages file g is can at = subst (λ (b : Bool). IsGuestAs b raw harts pages file g) (sym is) (can, at)

pub not_saved : (raw : Bool) (pages : ℕ) (file : List ℕ) (r : Refused) → is_saved raw file ≡ true → IsSavedRefusal file r
    → IsGuestRefusal raw pages file r
not_saved raw pages file r is why = subst (λ (b : Bool). IsRefusalAs b raw pages file r) (sym is) why

pub not_loaded : (raw : Bool) (pages : ℕ) (file : List ℕ) (r : Refused) → is_saved raw file ≡ false
    → IsLoadRefusal (image_of raw file) pages r → IsGuestRefusal raw pages file r
not_loaded raw pages file r is why = subst (λ (b : Bool). IsRefusalAs b raw pages file r) (sym is) why
