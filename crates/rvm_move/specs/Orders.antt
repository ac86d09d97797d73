-- How an order of two journals is written, and why it may not be.
use Rattle.std.specs.Prelude.{◌≡◌, ◌⊎◌, ℕ, List, Option, None, IfOk}
use Rattle.std.specs.Io.KnownBytes.{Appends}
use Rattle.rvm_arguments.specs.declared.arguments.MoveArguments.{MoveArguments}
use Rattle.rvm_audit.specs.ListOrders.{IsDeadEnd, IsMerge}
use Rattle.rvm_audit.specs.PairRuns.{IsWorldRun}
use Rattle.rvm_recorder.specs.declared.closing.CloseKind.{CloseKind}
use Rattle.rvm_command.specs.declared.refused.Refused.{Refused}
use Rattle.rvm_command.specs.Command.{image_of}
use Rattle.rvm_command.specs.Refusals.{IsTold, refused}
use Rattle.rvm_core.specs.EventLines.{event_lines}
use Rattle.rvm_guest.specs.TheGuest.{board}
use Rattle.rvm_recorder.specs.History.{History}
use Rattle.rvm_recorder.specs.Replay.{IsReplay}
use Rattle.rvm_move.specs.declared.ends.Ends.{Ends}
use Rattle.rvm_move.specs.Ended.{HoldsOfHosts, IsMade, IsNotBegun, IsSound, failure_line}
use Rattle.rvm_move.specs.Opening.{AreOpened, guest_in}
use Rattle.rvm_protocol.specs.World.{new_world}
use Rattle.rvm_refusal.specs.declared.refusal.Refusal.TheVariants as refusal
use Rattle.rvm_core.specs.declared.event.Event.{Event}

-- the order of the journals of two hosts was written, a line for each event
pub record IsWritten (first second : History) (before after : Option (List ℕ)) : Type 0 where
  pub events : List Event
  pub merge : IsMerge first second events
  pub written : Appends before after (event_lines 2 events)

-- an order of two journals is a run of the protocol from the world that begins with the guest of a file, and its guest
-- is the one that never moves
abbrev pub NeverMoves : MoveArguments → (file : List ℕ) → (first second : History) → List Event → Type 0
NeverMoves a file first second events =
    IfOk (image_of a.guest.raw file) (λ i.
    IsWorldRun (new_world board a.stream 0 (guest_in a i) 2 (λ k. 4096)) (guest_in a i) first second events)

-- the order of the journals of two hosts was written, the first of which began with the guest of a file; the guest in
-- it is the one that never moves. Nothing is said of where the guest's output went
pub record IsAudited (a : MoveArguments) (file : List ℕ) (before after : Option (List ℕ)) : Type 0 where
  pub first : History
  pub second : History
  pub opened : AreOpened a file first.opening second.opening
  pub made : IsMade a first.entries second.entries None None
  pub order : IsWritten first second before after
  pub never_moves : NeverMoves a file first second order.events

-- why no order of two journals was written: there is none, or a write failed, or memory ran out
abbrev pub IsOrderRefusal : (first second : History) → Refused → Type 0
IsOrderRefusal first second r =
    ((r ≡ refused refusal.NoOrder) × ((i : ℕ) × ((j : ℕ) × IsDeadEnd first second i j)))
    ⊎ ((r ≡ refused refusal.LinkFault) ⊎ (r ≡ refused refusal.OutOfMemory))

-- no order was written, and the reason was reported; each reply and each frame in the journals is the one that the
-- protocol gives at its place
pub record IsUnordered (first second : History) (before after : Option (List ℕ)) : Type 0 where
  pub first_replays : IsReplay first.opening first.entries
  pub second_replays : IsReplay second.opening second.entries
  pub why : Refused
  pub reason : IsOrderRefusal first second why
  pub told : IsTold why before after

-- a move failed, and the line with which it failed was written
pub record HasFailed (ends : Ends) (a b : Option CloseKind) (before after : Option (List ℕ)) : Type 0 where
  pub failed : IsSound ends a b → ⊥
  pub told : Appends before after (failure_line ends a b)

-- no order of these hosts was written: their move failed, they have none, memory ran out, or a write failed
abbrev pub HasNoOrder : Ends → (a b : Option CloseKind) → (first second : History) → (before after : Option (List ℕ)) → Type 0
HasNoOrder ends a b first second before after = HasFailed ends a b before after ⊎ IsUnordered first second before after

-- no order was written of a move between two hosts, the first of which began with the guest of the file
abbrev pub IsUnaudited : MoveArguments → (file : List ℕ) → (before after : Option (List ℕ)) → Type 0
IsUnaudited a file before after =
    HoldsOfHosts a file (λ ends fault_a fault_b first second. HasNoOrder ends fault_a fault_b first second before after)

-- no order was written: the move did not begin or failed, it has none, memory ran out, or a write failed
abbrev pub IsNotAudited : MoveArguments → (file : List ℕ) → (before after : Option (List ℕ)) → Type 0
IsNotAudited a file before after = IsNotBegun a file before after ⊎ IsUnaudited a file before after
