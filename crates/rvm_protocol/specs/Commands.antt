-- The events of a host: it is given a command, or a frame of another host comes.
use Rattle.std.specs.Prelude.{ℕ, Bool, ◌&&◌, nat_le}
use Rattle.rvm_protocol.specs.Frames.{Frame}

-- when pre-copy ends: after this many rounds, or with fewer dirty pages left than this, or after more copies than this
-- many times the guest's pages (Clark and others, 3.2 and 4.1)
pub record Policy : Type 0 where
  pub max_rounds : ℕ
  pub min_left : ℕ
  pub factor : ℕ

-- a policy within its limits
abbrev pub is_allowed : Policy → Bool
is_allowed r =
    nat_le 1 r.max_rounds && nat_le r.max_rounds 1000 && nat_le 1 r.min_left
    && nat_le r.min_left 4096 && nat_le 1 r.factor && nat_le r.factor 100

-- a command at a host: an event of the guest, or a command of a move
pub data Command (E : Type 0) : Type 0 where
  -- an event of the guest
  Board : (event : E) → Command E
  -- begin a move to another host
  Begin : (to : ℕ) → (policy : Policy) → Command E
  -- copy the next page, or take the next step of the move
  Copy : Command E
  -- send the last frame of this mode again
  Resend : Command E
  -- give up the move
  AbortMove : Command E

-- an event of a host: a command, or a frame that comes, with the host that sent it
pub data HostEvent (P E B : Type 0) : Type 0 where
  Do : (command : Command E) → HostEvent P E B
  Came : (from : ℕ) → (frame : Frame P B) → HostEvent P E B
