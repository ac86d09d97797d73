-- What frames carry of the guest at the event that makes them: a Page the bytes of a page, a Zero a
-- page of zeros, a State the state and a Part a piece of the state.
use Rattle.std.specs.Prelude.{◌≡◌, ◌<◌, ℕ, true, List, [], length, get_or}
use Rattle.std.specs.declared.option.Option.TheVariants.{Some}
use Rattle.rvm_protocol.specs.Guest.{Guest}
use Rattle.rvm_protocol.specs.Frames.{Frame, Page, Zero, State, Part, Addressed}
use Rattle.rvm_protocol.specs.Commands.{HostEvent}
use Rattle.rvm_protocol.specs.Rounds.{page_count, page_of}
use Rattle.rvm_protocol.specs.World.{Event, run, history, meaning, result_at, new_world}
use Rattle.rvm_protocol.specs.NeverMoving.{accepted, fold}

module _ {S P E A B : Type 0} (m : Guest S P E A B) where
  -- the state of g: its body, and for each page the number of a copy of it
  pub record IsStateOf (g : S) (numbers : List ℕ) (b : B) : Type 0 where
    pub body : b ≡ m.body g
    pub each : length numbers ≡ page_count m g
    pub named : (p : ℕ) → p < page_count m g → 0 < get_or numbers p 0

  -- one of the pieces of the state of g
  pub record IsPieceOf (g : S) (part parts : ℕ) (bytes : List ℕ) : Type 0 where
    pub numbers : List ℕ
    pub state : IsStateOf g numbers (m.body g)
    pub count : parts ≡ length (m.cut numbers (m.body g))
    pub inside : part < parts
    pub piece : bytes ≡ get_or (m.cut numbers (m.body g)) part []

  -- a Page or Zero carries the page as g has it, a State the state of g, a Part one of its pieces
  abbrev pub Carries : S → Frame P B → Type 0
  Carries g (Page n p k b) = b ≡ page_of m g p
  Carries g (Zero n p k) = page_of m g p ≡ m.zeros
  Carries g (Part n stamp part parts bytes) = IsPieceOf g part parts bytes
  Carries g (State n numbers b) = IsStateOf g numbers b
  Carries g f = Unit {0}

  -- each frame carries the guest that never moves, as it is at the event that makes the frame
  unfoldable pub FramesCarryTheGuest : Type 0
  FramesCarryTheGuest =
      (g : S) (version origin count : ℕ) (limits : ℕ → ℕ) (events : List (Event E)) (ev : Event E) (x : ℕ)
      (e : HostEvent P E B) (a : Addressed P B) → m.valid g ≡ true
      → meaning m (run m (new_world m version origin g count limits) events) ev ≡ Some (x, e)
      → (result_at m (run m (new_world m version origin g count limits) events) x e).made ≡ Some a
      → Carries (fold m g (accepted (history m (new_world m version origin g count limits) events)))
      a.frame
