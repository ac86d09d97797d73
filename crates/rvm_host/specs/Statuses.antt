-- The status of a host.
use Rattle.std.specs.Prelude.{ℕ, Option, Some, None, length}
use Rattle.rvm_host.specs.declared.status.HostStatus.{HostStatus}
use Rattle.rvm_host.specs.declared.status.ModeKind.{ModeKind}
use Rattle.rvm_host.specs.declared.status.ModeKind.TheVariants as kind
use Rattle.rvm_host.specs.Hosts.{PlainHost}
use Rattle.rvm_host.specs.Modes.{PlainMode, Empty, Run, Leaving, Given, Staging, Held, mode_of}
use Rattle.rvm_protocol.specs.Modes.{move_of}
use Rattle.rvm_source.specs.declared.phase.Phase.{Phase}
use Rattle.rvm_source.specs.declared.phase.Phase.TheVariants as phase

-- the kind of the mode of a source in this phase
abbrev pub phase_kind : Phase → ModeKind
phase_kind phase.Offering = kind.Offering
phase_kind phase.Copying = kind.Copying
phase_kind (phase.Stopped turn) = kind.Stopped

-- the kind of a mode
abbrev pub kind_of : PlainMode → ModeKind
kind_of (Empty k) = kind.Empty
kind_of (Run k g) = kind.Running
kind_of (Leaving s) = phase_kind s.phase
kind_of (Given k g) = kind.Given
kind_of (Staging k s) = kind.Staging
kind_of (Held k g) = kind.Held

-- the kind of a host's mode, the highest number of a move that it has begun or staged, and its partner
abbrev pub status_of : PlainHost → HostStatus
status_of h = record { kind = kind_of h.mode; move_number = move_of (mode_of h.mode); partner = h.partner }

-- the number of harts of the guest that runs at a host or leaves it
abbrev pub harts_of : PlainMode → Option ℕ
harts_of (Run k g) = Some (length g.board.harts)
harts_of (Leaving s) = Some (length s.guest.guest.board.harts)
harts_of m = None
