-- A guest: any machine that answers events in order and says which pages of its memory each of them wrote. Live
-- migration knows nothing else of it (Clark, Fraser, Hand, Hansen, Jul, Limpach, Pratt, Warfield: Live Migration of
-- Virtual Machines, NSDI 2005).
use Rattle.std.specs.Prelude.{◌≡◌, ℕ, ◌^◌, ◌<◌, Bool, true, false, List, length, get_or}
use Rattle.std.specs.declared.option.Option.{Option}
use Rattle.std.specs.declared.option.Option.TheVariants.{Some}

-- what a guest does: S its states, P its pages, E its events, A its answers, B its state as it is written, without the
-- pages
pub record Guest (S P E A B : Type 0) : Type 0 where
  pub answer : S → E → A
  pub next : S → E → S
  pub pages : S → List P
  -- the pages that an event writes, even if their bytes stay equal
  pub wrote : S → E → ℕ → Bool
  pub processors : S → ℕ
  -- a page of zeros, and its test
  pub zeros : P
  pub is_zeros : P → Bool
  -- the state as it is written, without the pages
  pub body : S → B
  -- the guest that a number of processors, a written state and pages make, if they make one
  pub build : ℕ → B → List P → Option S
  -- the pieces in which the newest copies' numbers and a written state are sent, and their reader
  pub cut : List ℕ → B → List (List ℕ)
  pub join : List (List ℕ) → Option (List ℕ × B)
  -- the states that can be met
  pub valid : S → Bool

-- the laws of a guest that can move
pub record IsGuest {S P E A B : Type 0} (m : Guest S P E A B) : Type 0 where
  -- an event leads from a state that can be met to another one
  pub stays : (s : S) (e : E) → m.valid s ≡ true → m.valid (m.next s e) ≡ true
  -- no event changes how many pages or processors there are
  pub same_length : (s : S) (e : E) → length (m.pages (m.next s e)) ≡ length (m.pages s)
  pub same_processors : (s : S) (e : E) → m.processors (m.next s e) ≡ m.processors s
  -- a page that was not written does not change
  pub unwritten : (s : S) (e : E) (p : ℕ) → m.wrote s e p ≡ false
      → get_or (m.pages (m.next s e)) p m.zeros ≡ get_or (m.pages s) p m.zeros
  -- what was written is read back
  pub read_back : (s : S) → m.valid s ≡ true
      → m.build (m.processors s) (m.body s) (m.pages s) ≡ Some s
  -- the test of zeros is right
  pub zeros_pass : m.is_zeros m.zeros ≡ true
  pub only_zeros_pass : (p : P) → m.is_zeros p ≡ true → p ≡ m.zeros
  -- there is a piece, and the pieces of a state with a copy number for each page are read back
  pub some_piece : (numbers : List ℕ) (b : B) → 0 < length (m.cut numbers b)
  pub joined : (s : S) (numbers : List ℕ) → m.valid s ≡ true → length numbers ≡ length (m.pages s)
      → ((p : ℕ) → p < length numbers
      → (0 < get_or numbers p 0) × (get_or numbers p 0 < 2 ^ 32))
      → m.join (m.cut numbers (m.body s)) ≡ Some (numbers, m.body s)
