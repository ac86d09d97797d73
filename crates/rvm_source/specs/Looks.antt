-- What a look at the guest of a source gives.
use Rattle.std.specs.Prelude.{◌≡◌, Result, Ok, Err, length}
use Rattle.rvm_board.specs.declared.snapshot.Snapshot.{Snapshot}
use Rattle.rvm_board.specs.Guest.{Guest}
use Rattle.rvm_board.specs.Restoring.{CanBeRestored}
use Rattle.rvm_board.specs.Snapshot.{state_in}
use Rattle.rvm_board.specs.State.{guest_of, state_of}
use Rattle.rvm_message.specs.declared.reply.HostRefusal.{HostRefusal}
use Rattle.rvm_message.specs.declared.reply.HostRefusal.TheVariants.{Paused}
use Rattle.rvm_source.specs.declared.phase.Phase.{Phase}
use Rattle.rvm_source.specs.declared.phase.Phase.TheVariants as phases
use Rattle.rvm_source.specs.Sources.{PlainSource}

-- a snapshot has the values of this guest, which with the guest's RAM are the guest, and can be restored
pub record IsSnapshotOf (g : Guest) (s : Snapshot) : Type 0 where
  pub state : state_in s ≡ state_of g
  pub whole : guest_of g.board.shared.bytes (state_of g) ≡ g
  pub held : CanBeRestored (length g.board.shared.bytes) (state_in s)

-- a look gives a snapshot of the guest to which events come, or why they are refused
abbrev pub IsLook : Result Guest HostRefusal → Result Snapshot HostRefusal → Type 0
IsLook (Ok g) (Ok s) = IsSnapshotOf g s
IsLook (Err why) (Err told) = told ≡ why
IsLook (Ok g) (Err told) = ⊥
IsLook (Err why) (Ok s) = ⊥

-- the guest in a phase, if events come to it, or why they are refused
abbrev pub asked_in : Phase → Guest → Result Guest HostRefusal
asked_in phases.Offering g = Ok g
asked_in phases.Copying g = Ok g
asked_in (phases.Stopped turn) g = Err Paused

-- the guest of a source, if events come to it, or why they are refused
abbrev pub source_asked : PlainSource → Result Guest HostRefusal
source_asked s = asked_in s.phase s.guest.guest
