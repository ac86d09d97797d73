-- Orders of two journals as runs of the protocol.
use Rattle.std.specs.Prelude.{◌≡◌, ℕ, List, Some, None}
use Rattle.rvm_host.specs.Hosts.{PlainHost, new_host}
use Rattle.rvm_board.specs.Guest.{Guest, GuestState}
use Rattle.rvm_recorder.specs.History.{History}
use Rattle.rvm_core.specs.declared.event.Event.{Event}
use Rattle.rvm_core.specs.Worlds.{BoardWorld}
use Rattle.rvm_audit.specs.Worlds as every
use Rattle.rvm_audit.specs.ListOrders.{both}

-- the two hosts of a new world: the guest is at the first one
pub record AreNew (version : ℕ) (g : GuestState) (limits : ℕ → ℕ) (a b : PlainHost) : Type 0 where
  pub first : a ≡ new_host (Some g) 0 2 (limits 0) version
  pub second : b ≡ new_host None 1 2 (limits 1) version

-- in this world the events make the entries of the two journals, and it ends where their replays end; in each of its
-- states the guest, which was g, is the guest of one board that never moves, and the frames are those of its moves,
-- each after its cause
abbrev pub IsWorldRun : BoardWorld → Guest → (a b : History) → List Event → Type 0
IsWorldRun w g a b events = every.IsWorldRun w 0 g (both a b) events
