-- Where a look at the guest of a host gives a snapshot, events come to the guest, and elsewhere they are refused alike.
use Rattle.std.proofs.Common.{◌≡◌, ℕ, refl}
use Rattle.rvm_board.specs.declared.event.BoardEvent.{BoardEvent}
use Rattle.rvm_board.specs.Guest.{GuestState}
use Rattle.rvm_guest.specs.TheGuest.{board}
use Rattle.rvm_precopy.specs.Plans.{Plan}
use Rattle.rvm_protocol.specs.Commands.{Board, Do}
use Rattle.rvm_protocol.specs.Host.{obey_at}
use Rattle.rvm_source.specs.Looks.{asked_in}
use Rattle.rvm_source.specs.Sources.{mode_in}
use Rattle.rvm_source.specs.declared.phase.Phase.{Phase}
use Rattle.rvm_source.specs.declared.phase.Phase.TheVariants as phases
use Rattle.rvm_host.specs.Hosts.{PlainHost, step_of}
use Rattle.rvm_host.specs.Looks.{asked_guest, reply_by}
use Rattle.rvm_host.specs.Modes.{PlainMode, Empty, Run, Leaving, Given, Staging, Held, mode_of}

replied_in : (version id count n : ℕ) (g : GuestState) (r : Plan) (f : Phase) (e : BoardEvent)
    → (obey_at board version id count (Board e) (mode_in n g r f)).reply ≡ reply_by (asked_in f g.guest) e
replied_in version id count n g r phases.Offering e = refl
replied_in version id count n g r phases.Copying e = refl
replied_in version id count n g r (phases.Stopped turn) e = refl

replied_by : (version id count : ℕ) (m : PlainMode) (e : BoardEvent)
    → (obey_at board version id count (Board e) (mode_of m)).reply ≡ reply_by (asked_guest m) e
replied_by version id count (Empty n) e = refl
replied_by version id count (Run n g) e = refl
replied_by version id count (Leaving s) e = replied_in version id count s.move_number s.guest s.plan s.phase e
replied_by version id count (Given n g) e = refl
replied_by version id count (Staging n s) e = refl
replied_by version id count (Held n g) e = refl

-- the reply to each event
pub replied : (h : PlainHost) (e : BoardEvent) → (step_of h (Do (Board e))).reply ≡ reply_by (asked_guest h.mode) e
replied h e = replied_by h.version h.id h.count h.mode e
