-- Which replies came before a frame: a ReadySent before each Ready, a Committed before each Go, a
-- StartedHere before each Started.
use Rattle.std.specs.Prelude.{◌≡◌, ◌⊎◌, ℕ, true, List, [], ◌∷◌}
use Rattle.rvm_protocol.specs.Guest.{Guest}
use Rattle.rvm_protocol.specs.Frames.{Frame, State, Part, Ready, Go, Started, Addressed}
use Rattle.rvm_protocol.specs.Commands.{HostEvent, Came}
use Rattle.rvm_protocol.specs.Replies.{Reply, ReadySent, Committed, StartedHere}
use Rattle.rvm_protocol.specs.World.{Event, Entry, run, history, new_world, Has}

-- Q holds of some entry of the list
unfoldable pub Somewhere : {X : Type 0} → (X → Type 0) → List X → Type 0
Somewhere Q [] = ⊥
Somewhere Q (y ∷ ys) = Q y ⊎ Somewhere Q ys

-- move n was committed
abbrev pub says_committed : {A : Type 0} → ℕ → Reply A → Type 0
says_committed n (Committed k) = k ≡ n
says_committed n r = ⊥

module _ {P B : Type 0} where
  -- what a frame needs: a Ready R, a Go C and a Started T of its move
  abbrev pub IsCaused : (R C T : ℕ → Type 0) → Frame P B → Type 0
  IsCaused R C T (Ready n) = R n
  IsCaused R C T (Go n) = C n
  IsCaused R C T (Started n) = T n
  IsCaused R C T f = Unit {0}

module _ {P E A B : Type 0} where
  -- the reply to the state of move n, or to a piece of it, was ReadySent
  abbrev pub says_ready : ℕ → HostEvent P E B → Reply A → Type 0
  says_ready n (Came from (State k numbers body)) ReadySent = k ≡ n
  says_ready n (Came from (Part k stamp part parts bytes)) ReadySent = k ≡ n
  says_ready n e r = ⊥

  -- the reply to Go of move n was StartedHere
  abbrev pub says_started : ℕ → HostEvent P E B → Reply A → Type 0
  says_started n (Came from (Go k)) StartedHere = k ≡ n
  says_started n e r = ⊥

  -- an entry tells that the reply to the state of move n was ReadySent
  abbrev pub WasReady : List (Entry P E A B) → ℕ → Type 0
  WasReady past n = Somewhere (λ (x : Entry P E A B). says_ready n x.event x.reply) past

  -- an entry tells that move n was committed
  abbrev pub WasCommitted : List (Entry P E A B) → ℕ → Type 0
  WasCommitted past n = Somewhere (λ (x : Entry P E A B). says_committed n x.reply) past

  -- an entry tells that the reply to Go of move n was StartedHere
  abbrev pub WasStarted : List (Entry P E A B) → ℕ → Type 0
  WasStarted past n = Somewhere (λ (x : Entry P E A B). says_started n x.event x.reply) past

module _ {S P E A B : Type 0} (m : Guest S P E A B) where
  -- every Ready, Go or Started of a move was made at or after that move's first ReadySent,
  -- Committed or StartedHere
  unfoldable pub FramesFollowTheirCauses : Type 0
  FramesFollowTheirCauses =
      (g : S) (version origin count : ℕ) (limits : ℕ → ℕ) (events : List (Event E)) (a : Addressed P B)
      → m.valid g ≡ true
      → Has (run m (new_world m version origin g count limits) events).sent a
      → IsCaused (WasReady (history m (new_world m version origin g count limits) events))
      (WasCommitted (history m (new_world m version origin g count limits) events))
      (WasStarted (history m (new_world m version origin g count limits) events)) a.frame
