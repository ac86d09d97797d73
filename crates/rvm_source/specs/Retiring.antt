-- Steps of harts in turn at the source of a move.
use Rattle.std.specs.Prelude.{◌≡◌, ℕ, length, None}
use Rattle.rvm_board.specs.declared.retiring.Retired.{Retired}
use Rattle.rvm_board.specs.Retiring.{RetiresThen}
use Rattle.rvm_guest.specs.Pages.{count_of}
use Rattle.rvm_source.specs.declared.phase.Phase.{Phase}
use Rattle.rvm_source.specs.declared.phase.Phase.TheVariants as phases
use Rattle.rvm_source.specs.Sources.{PlainSource}

-- no step is made while the guest is paused
abbrev pub MayRetire : Phase → Retired → Type 0
MayRetire phases.Offering told = Unit {0}
MayRetire phases.Copying told = Unit {0}
MayRetire (phases.Stopped turn) told = told ≡ record { count = 0; last = None }

-- the guest made these steps, none if it is paused, and nothing else changed; the dirty log has an item for each page
pub record SourceRetires (harts turn count : ℕ) (old new : PlainSource) (told : Retired) : Type 0 where
  pub guest : RetiresThen harts turn count old.guest new.guest told
  pub rest : new ≡ record old { guest = new.guest }
  pub runs : MayRetire old.phase told
  pub logged : length old.guest.dirty ≡ count_of old.guest.guest
