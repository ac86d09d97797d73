-- What the replies alone tell of a run: where the guest is, whether it is paused, which hosts wait,
-- and which guest it is.
use Rattle.std.specs.Prelude.{ℕ, Bool, true, false, ◌==◌, if◌then◌else◌, nat_lt, List, [], ◌∷◌}
use Rattle.rvm_protocol.specs.Guest.{Guest}
use Rattle.rvm_protocol.specs.Commands.{Board, Begin, HostEvent, Do}
use Rattle.rvm_protocol.specs.Replies.{NotHere, Paused, BadHost, Reply, Answered, Begun, Committed, Stopping, Aborted, StartedHere, ReadySent, Accepted, Dropped, Refused}
use Rattle.rvm_protocol.specs.Pages.{put}
use Rattle.rvm_protocol.specs.World.{Entry}

-- what the replies so far told of the guest and its moves
pub record Told (S : Type 0) : Type 0 where
  pub current : ℕ
  pub paused : Bool
  pub waiting : ℕ → Bool
  -- the target of each move begun
  pub targets : ℕ → ℕ
  -- the guest that answered, had it never moved
  pub guest : S

-- the current host after a reply: Committed makes it the target of its move
abbrev pub reply_current : {A : Type 0} → Reply A → (ℕ → ℕ) → ℕ → ℕ
reply_current (Committed n) targets x = targets n
reply_current r targets x = x

-- the targets of moves after a reply: Begun adds the target that Begin named
abbrev pub reply_targets : {P E A B : Type 0} → HostEvent P E B → Reply A → (ℕ → ℕ) → ℕ → ℕ
reply_targets (Do (Begin to p)) (Begun n) targets = put targets n to
reply_targets e r targets = targets

-- the guest is paused if the last reply among Stopping, Aborted and StartedHere was Stopping
abbrev pub reply_paused : {A : Type 0} → Reply A → Bool → Bool
reply_paused Stopping b = true
reply_paused Aborted b = false
reply_paused StartedHere b = false
reply_paused r b = b

-- a host waits if its last reply among ReadySent, Accepted, Dropped and StartedHere was ReadySent
abbrev pub reply_waits : {A : Type 0} → Reply A → Bool → Bool
reply_waits ReadySent b = true
reply_waits Accepted b = false
reply_waits Dropped b = false
reply_waits StartedHere b = false
reply_waits r b = b

-- at the start the guest runs at the origin
abbrev pub at_start : {S : Type 0} → (origin : ℕ) → S → Told S
at_start origin g =
    record {
      current = origin;
      paused = false;
      waiting = λ x. false;
      targets = λ n. 0;
      guest = g;
    }

module _ {S P E A B : Type 0} (m : Guest S P E A B) where
  -- the guest after a reply: an event that was answered moves it on
  abbrev pub reply_guest : HostEvent P E B → Reply A → S → S
  reply_guest (Do (Board e)) (Answered a) g = m.next g e
  reply_guest e r g = g

  -- what is told after one more reply, to an event at host x
  abbrev pub told_reply : ℕ → HostEvent P E B → Reply A → Told S → Told S
  told_reply x e r t =
      record {
        current = reply_current r t.targets t.current;
        paused = reply_paused r t.paused;
        waiting = put t.waiting x (reply_waits r (t.waiting x));
        targets = reply_targets e r t.targets;
        guest = reply_guest e r t.guest;
      }

  -- what is told after the entries of a run
  unfoldable pub told : Told S → List (Entry P E A B) → Told S
  told t [] = t
  told t (e ∷ es) = told (told_reply e.host e.event e.reply t) es

  -- the reply that an event of the guest must get at host x of count hosts
  abbrev pub due : ℕ → Told S → ℕ → E → Reply A
  due count t x e =
      if nat_lt x count then (
      if x == t.current then (
      if t.paused then Refused Paused else Answered (m.answer t.guest e)
      ) else (if t.waiting x then Refused Paused else Refused NotHere)
      ) else Refused BadHost
