-- A driven move: each of its frames comes once and in order, with no event of the guest between.
use Rattle.std.specs.Prelude.{◌≡◌, ℕ, suc, ◌+◌, ◌*◌, ◌^◌, ◌-◌, ◌<◌, ◌≤◌, true, List, length}
use Rattle.rvm_board.specs.declared.event.BoardEvent.{BoardEvent}
use Rattle.rvm_board.specs.Guest.{Guest}
use Rattle.rvm_guest.specs.TheGuest.{board}
use Rattle.rvm_message.specs.declared.reply.HostRefusal.{HostRefusal}
use Rattle.rvm_message.specs.Replies.{refusal_of}
use Rattle.rvm_protocol.specs.Commands.{Policy, Begin, is_allowed}
use Rattle.rvm_protocol.specs.DrivenMove.{Arrives, IsDeclined, drive, drive_opening, state_frames}
use Rattle.rvm_protocol.specs.Host.{is_there}
use Rattle.rvm_protocol.specs.Modes.{Run}
use Rattle.rvm_protocol.specs.Replies.{Refused}
use Rattle.rvm_protocol.specs.Rounds.{page_count}
use Rattle.rvm_protocol.specs.World.{At, Event, mode_at, reply_to, run}
use Rattle.rvm_core.specs.Worlds.{BoardWorld, IsPartOf}
use Rattle.rvm_core.specs.declared.drive.Driven.{Driven}
use Rattle.rvm_core.specs.declared.drive.Driven.TheVariants as driven

-- the guest g runs at host `from`, whose highest move is e, and its move to host `to` with this policy can begin
pub record CanBegin (w : BoardWorld) (from to : ℕ) (policy : Policy) (e : ℕ) (g : Guest) : Type 0 where
  pub runs : mode_at board w from ≡ Run e g
  pub number : e < 2 ^ 64 - 1
  pub allowed : is_allowed policy ≡ true
  pub here : from < w.count
  pub there : is_there from w.count to ≡ true

-- the events that move g
abbrev pub drive_of : BoardWorld → (from to : ℕ) → Policy → Guest → List (Event BoardEvent)
drive_of w from to policy g =
    drive from to policy (length w.sent) (page_count board g) (state_frames board w.version g)

-- the guest fits: all events of its move were made, and it runs unchanged at its target
pub record IsMoved (d : Driven) (old new : BoardWorld) (from to : ℕ) (policy : Policy) (e : ℕ) (g : Guest) : Type 0 where
  pub answer : d ≡ driven.Moved (suc e) (2 * page_count board g + 9 + 2 * state_frames board old.version g)
  pub events : length (drive_of old from to policy g) ≡ 2 * page_count board g + 9 + 2 * state_frames board old.version g
  pub made : new ≡ run board old (drive_of old from to policy g)
  pub arrives : Arrives board old from to e g (drive_of old from to policy g)

-- the guest has more pages than its target takes: it runs on where it was
pub record IsTooLarge (d : Driven) (old new : BoardWorld) (from to : ℕ) (policy : Policy) (e : ℕ) (g : Guest) : Type 0 where
  pub answer : d ≡ driven.Declined (old.limits to)
  pub made : new ≡ run board old (drive_opening from to policy (length old.sent))
  pub declined : IsDeclined board old from to e g (drive_opening from to policy (length old.sent))

-- the move does not begin, and nothing changes
pub record IsRefused (d : Driven) (old new : BoardWorld) (why : HostRefusal) : Type 0 where
  pub answer : d ≡ driven.Refused why
  pub stays : new ≡ old

-- the answer to a driven move, in each of these cases
pub record DrivesTo (d : Driven) (old new : BoardWorld) (from to : ℕ) (policy : Policy) : Type 0 where
  pub moved : (e : ℕ) (g : Guest) → CanBegin old from to policy e g → page_count board g ≤ old.limits to
      → IsMoved d old new from to policy e g
  pub declined : (e : ℕ) (g : Guest) → CanBegin old from to policy e g → old.limits to < page_count board g
      → IsTooLarge d old new from to policy e g
  pub refused : (why : HostRefusal)
      → reply_to board old (At from (Begin to policy)) ≡ Refused (refusal_of why) → IsRefused d old new why

-- memory ran out in a driven move: its first events were made, up to then
pub record WasLeft (old new : BoardWorld) (from to : ℕ) (policy : Policy) : Type 0 where
  pub moved : (e : ℕ) (g : Guest) → CanBegin old from to policy e g → page_count board g ≤ old.limits to
      → IsPartOf (drive_of old from to policy g) old new
  pub declined : (e : ℕ) (g : Guest) → CanBegin old from to policy e g → old.limits to < page_count board g
      → IsPartOf (drive_opening from to policy (length old.sent)) old new
  pub refused : (why : HostRefusal)
      → reply_to board old (At from (Begin to policy)) ≡ Refused (refusal_of why) → new ≡ old
