-- The last copies, made while the guest is paused at its source: of the pages that are to be sent or to be fixed.
use Rattle.std.specs.Prelude.{◌≡◌, ◌↔◌, ◌<◌, ◌||◌, ℕ, suc, true}
use Rattle.std.specs.declared.option.Option.TheVariants.{None}
use Rattle.rvm_protocol.specs.Commands.{HostEvent}
use Rattle.rvm_protocol.specs.Guest.{Guest}
use Rattle.rvm_protocol.specs.Host.{outcome}
use Rattle.rvm_protocol.specs.Modes.{Outcome, Stopped}
use Rattle.rvm_protocol.specs.Pages.{Pages}
use Rattle.rvm_protocol.specs.Replies.{Copied}
use Rattle.rvm_protocol.specs.Rounds.{Last, page_count, to_copy}

-- the pages that are still to be copied
abbrev pub left_in : {S : Type 0} → Last S → Pages
left_in l p = l.to_send p || l.to_fix p

-- page p is to be sent or to be fixed at one of this many times
pub record IsLeft {S : Type 0} (at : ℕ → Last S) (times p : ℕ) : Type 0 where
  pub index : ℕ
  pub inside : index < times
  pub left : left_in (at index) p ≡ true

module _ {S P E A B : Type 0} (m : Guest S P E A B) (version self count limit partner n : ℕ) where
  -- what an event does at the source of move n, with this state of its last copies, while its guest is paused
  abbrev pub paused_outcome : HostEvent P E B → Last S → Outcome S P A B
  paused_outcome e l = outcome m version self count limit e (record { mode = Stopped n l; partner = partner })

  -- this many consecutive events of that source, each of which leaves the guest paused; at each time the state of its
  -- last copies is this
  abbrev pub IsLastRound : (events : ℕ → HostEvent P E B) → (at : ℕ → Last S) → (times : ℕ) → Type 0
  IsLastRound events at times =
      (i : ℕ) → i < times → (paused_outcome (events i) (at i)).next ≡ Stopped n (at (suc i))

  -- page p is copied by one of these events
  pub record IsCopiedLast (events : ℕ → HostEvent P E B) (at : ℕ → Last S) (times p : ℕ) : Type 0 where
    pub index : ℕ
    pub inside : index < times
    pub number : ℕ
    pub reply : (paused_outcome (events index) (at index)).reply ≡ Copied p number

  -- if nothing is left to be copied in the end, exactly the pages that were to be sent or to be fixed at some time were
  -- copied
  unfoldable pub LastRoundsCopyWhatIsLeft : Type 0
  LastRoundsCopyWhatIsLeft =
      (events : ℕ → HostEvent P E B) (at : ℕ → Last S) (times p : ℕ) → IsLastRound events at times
      → to_copy m (at times) ≡ None → p < page_count m (at 0).guest
      → IsCopiedLast events at times p ↔ IsLeft at times p
