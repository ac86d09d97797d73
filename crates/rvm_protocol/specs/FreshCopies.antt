-- The stale-page law: no page of the source is forgotten, and a state names only copies that equal
-- the paused pages. A Zero is read as the Page that it stands for, and a state that is sent in
-- pieces is what the pieces of one stamp join to.
use Rattle.std.specs.Prelude.{◌≡◌, ◌⊎◌, ◌<◌, ◌≤◌, ℕ, true, List, [], length, get_or}
use Rattle.std.specs.declared.option.Option.TheVariants.{Some}
use Rattle.rvm_protocol.specs.Guest.{Guest}
use Rattle.rvm_protocol.specs.Frames.{Page, State, Part, Addressed, read}
use Rattle.rvm_protocol.specs.FrameContents.{IsStateOf}
use Rattle.rvm_protocol.specs.Rounds.{page_count, page_of}
use Rattle.rvm_protocol.specs.Modes.{Mode, Copying, Stopped}
use Rattle.rvm_protocol.specs.World.{Event, mode_at, run, new_world, Has}

-- the newest copy of page p in move n that host x ever sent has the bytes y
pub record NewestCopy {P B : Type 0} (sent : List (Addressed P B)) (x n p : ℕ) (y : P)
    : Type 0 where
  pub number : ℕ
  pub to : ℕ
  pub was_sent : Has sent (record { from = x; to = to; frame = Page n p number y })
  pub newest : (z k : ℕ) (b : P) → Has sent (record { from = x; to = z; frame = Page n p k b })
      → k ≤ number
  pub only : (z : ℕ) (b : P) → Has sent (record { from = x; to = z; frame = Page n p number b })
      → b ≡ y

-- the i-th of these pieces was sent
pub record WasPieceSent {P B : Type 0} (sent : List (Addressed P B)) (x n stamp : ℕ)
    (pieces : List (List ℕ)) (i : ℕ) : Type 0 where
  pub to : ℕ
  pub was_sent : Has sent (record {
    from = x;
    to = to;
    frame = Part n stamp i (length pieces) (get_or pieces i []);
  })

module _ {S P E A B : Type 0} (m : Guest S P E A B) where
  -- every copy that a State frame of move n names, and each later one of that page, has the bytes
  -- of g
  abbrev pub NamesTrueCopies : List (Addressed P B) → (x n : ℕ) → S → Type 0
  NamesTrueCopies sent x n g =
      (to z : ℕ) (numbers : List ℕ) (body : B) (p k : ℕ) (y : P)
      → Has sent (record { from = x; to = to; frame = State n numbers body })
      → p < page_count m g → get_or numbers p 0 ≤ k
      → Has sent (record { from = x; to = z; frame = Page n p k y }) → y ≡ page_of m g p

  -- every copy that the pieces of one stamp name, and each later one of that page, has the bytes of
  -- g
  abbrev pub PiecesNameTrueCopies : List (Addressed P B) → (x n : ℕ) → S → Type 0
  PiecesNameTrueCopies sent x n g =
      (stamp z : ℕ) (pieces : List (List ℕ)) (numbers : List ℕ) (body : B) (p k : ℕ) (y : P)
      → 0 < length pieces → ((i : ℕ) → i < length pieces → WasPieceSent sent x n stamp pieces i)
      → m.join pieces ≡ Some (numbers, body)
      → p < page_count m g → get_or numbers p 0 ≤ k
      → Has sent (record { from = x; to = z; frame = Page n p k y }) → y ≡ page_of m g p

  -- every State frame of move n carries the state of g
  abbrev pub StatesAreTrue : List (Addressed P B) → (x n : ℕ) → S → Type 0
  StatesAreTrue sent x n g =
      (to : ℕ) (numbers : List ℕ) (body : B)
      → Has sent (record { from = x; to = to; frame = State n numbers body })
      → IsStateOf m g numbers body

  -- the pieces of one stamp together carry the state of g
  abbrev pub PiecesAreTrue : List (Addressed P B) → (x n : ℕ) → S → Type 0
  PiecesAreTrue sent x n g =
      (stamp : ℕ) (pieces : List (List ℕ)) (numbers : List ℕ) (body : B) → 0 < length pieces
      → ((i : ℕ) → i < length pieces → WasPieceSent sent x n stamp pieces i)
      → m.join pieces ≡ Some (numbers, body) → IsStateOf m g numbers body

  -- while the source copies, each page is to be sent and not yet looked at, or is in the dirty log,
  -- or equals its newest copy; once the guest is paused, each page is to be sent or to be fixed, or
  -- equals its newest copy
  abbrev pub CopiesAreFresh : List (Addressed P B) → ℕ → Mode S P → Type 0
  CopiesAreFresh sent x (Copying n r) =
      (p : ℕ) → p < page_count m r.guest
      → ((r.scan ≤ p) × (r.to_send p ≡ true))
      ⊎ ((r.log p ≡ true) ⊎ NewestCopy sent x n p (page_of m r.guest p))
  CopiesAreFresh sent x (Stopped n l) =
      ((p : ℕ) → p < page_count m l.guest
      → (l.to_send p ≡ true)
      ⊎ ((l.to_fix p ≡ true) ⊎ NewestCopy sent x n p (page_of m l.guest p)))
      × NamesTrueCopies sent x n l.guest × PiecesNameTrueCopies sent x n l.guest
      × StatesAreTrue sent x n l.guest × PiecesAreTrue sent x n l.guest
  CopiesAreFresh sent x mode = Unit {0}

  -- copies are fresh at each host after any events from a new world
  unfoldable pub NoStalePage : Type 0
  NoStalePage =
      (g : S) (version origin count : ℕ) (limits : ℕ → ℕ) (events : List (Event E)) (x : ℕ)
      → m.valid g ≡ true
      → CopiesAreFresh (read m (run m (new_world m version origin g count limits) events).sent) x
      (mode_at m (run m (new_world m version origin g count limits) events) x)
