-- The course of a run: what the laws say of its end, said of each state that its events lead through.
use Rattle.std.specs.Prelude.{◌≡◌, ◌++◌, ℕ, true, List}
use Rattle.std.specs.declared.option.Option.TheVariants.{Some}
use Rattle.rvm_protocol.specs.Guest.{Guest}
use Rattle.rvm_protocol.specs.Commands.{HostEvent}
use Rattle.rvm_protocol.specs.Frames.{Addressed, read}
use Rattle.rvm_protocol.specs.FewCopies.{AreTold, FewCopies, copies_told}
use Rattle.rvm_protocol.specs.FrameCauses.{IsCaused, WasCommitted, WasReady, WasStarted}
use Rattle.rvm_protocol.specs.FrameContents.{Carries}
use Rattle.rvm_protocol.specs.FreshCopies.{CopiesAreFresh}
use Rattle.rvm_protocol.specs.NeverMoving.{accepted, fold}
use Rattle.rvm_protocol.specs.OneGuest.{OneGuest}
use Rattle.rvm_protocol.specs.Shown.{Shown}
use Rattle.rvm_protocol.specs.Told.{Told, at_start}
use Rattle.rvm_protocol.specs.World.{World, Event, Entry, Has, history, meaning, mode_at, new_world, result_at, run}

module _ {S P E A B : Type 0} (m : Guest S P E A B) where
  -- Q holds in each state of a run of these events from world w: of the world in that state, and of what was seen until
  -- then
  abbrev pub InEachState : (World S P B → List (Entry P E A B) → Type 0) → World S P B
      → List (Event E) → Type 0
  InEachState Q w events =
      (before after : List (Event E)) → events ≡ before ++ after
      → Q (run m w before) (history m w before)

  -- the frames and copies of one state of a run: t is what is known at the beginning, w the world in that state, and
  -- past what was seen until then
  pub record FramesAreTrue (t : Told S) (w : World S P B) (past : List (Entry P E A B)) : Type 0 where
    -- a frame that the next event makes carries the page or the state of the guest that never moves
    pub carries : (ev : Event E) (x : ℕ) (e : HostEvent P E B) (a : Addressed P B)
        → meaning m w ev ≡ Some (x, e) → (result_at m w x e).made ≡ Some a
        → Carries m (fold m t.guest (accepted past)) a.frame
    -- no move that goes on forgets a page, and its states name only copies that equal the paused
    -- pages
    pub fresh : (x : ℕ) → CopiesAreFresh m (read m w.sent) x (mode_at m w x)
    -- before it stops, a move makes at most as many copies as its policy's most rounds times its guest's pages
    pub few : (x : ℕ) → FewCopies m (mode_at m w x)

  -- what was seen of a run from its start on: w is the world in one of its states, and past what was seen until then
  pub record PastIsTrue (w : World S P B) (past : List (Entry P E A B)) : Type 0 where
    -- each Ready, Go and Started that was sent was made at or after its move's first ReadySent, Committed or
    -- StartedHere, which was seen
    pub causes : (a : Addressed P B) → Has w.sent a
        → IsCaused (WasReady past) (WasCommitted past) (WasStarted past) a.frame
    -- each copy of a move that goes on had the reply Copied
    pub copies : (x : ℕ) → AreTold m (copies_told x 0 past) (mode_at m w x)

  -- the guest never moves in a run of these events from world w, of which t is known
  pub record NeverMoves (t : Told S) (w : World S P B) (events : List (Event E)) : Type 0 where
    -- in each state the guest is the one that never moves, no two hosts would answer it, and an event that commits
    -- hands it over
    pub guest : InEachState (OneGuest m t) w events
    -- in each state the frames and copies of its moves are right
    pub frames : InEachState (FramesAreTrue t) w events

  -- the guest never moves in a run from a new world
  unfoldable pub RunsNeverMove : Type 0
  RunsNeverMove =
      (g : S) (version origin count : ℕ) (limits : ℕ → ℕ) (events : List (Event E)) → m.valid g ≡ true
      → NeverMoves (at_start origin g) (new_world m version origin g count limits) events

  -- the guest never moves in a run from any world of a run, if t is what that world's modes show
  unfoldable pub RunsNeverMoveFromAnyWorld : Type 0
  RunsNeverMoveFromAnyWorld =
      (g : S) (version origin count : ℕ) (limits : ℕ → ℕ) (before events : List (Event E)) (t : Told S)
      → m.valid g ≡ true
      → Shown (run m (new_world m version origin g count limits) before).hosts t
      → NeverMoves t (run m (new_world m version origin g count limits) before) events

  -- what was seen of a run from a new world is true in each of its states
  unfoldable pub RunsTellTheirPast : Type 0
  RunsTellTheirPast =
      (g : S) (version origin count : ℕ) (limits : ℕ → ℕ) (events : List (Event E)) → m.valid g ≡ true
      → InEachState PastIsTrue (new_world m version origin g count limits) events
