-- A world: hosts by number, and every frame that was ever sent. A frame never delivered is lost,
-- one delivered twice is repeated, one delivered after a later one is reordered.
use Rattle.std.specs.Prelude.{◌≡◌, ◌⊎◌, ℕ, ◌==◌, if◌then◌else◌, nat_lt, List, [], ◌∷◌, ◌++◌, slice_get}
use Rattle.std.specs.declared.option.Option.{Option}
use Rattle.std.specs.declared.option.Option.TheVariants.{Some, None}
use Rattle.rvm_protocol.specs.Guest.{Guest}
use Rattle.rvm_protocol.specs.Frames.{Addressed}
use Rattle.rvm_protocol.specs.Commands.{Command, HostEvent, Do, Came}
use Rattle.rvm_protocol.specs.Replies.{NoFrame, BadHost, Reply, Refused}
use Rattle.rvm_protocol.specs.Pages.{put}
use Rattle.rvm_protocol.specs.Modes.{Mode, Empty, Run}
use Rattle.rvm_protocol.specs.Host.{Host, Result, host_step}

-- hosts by number, and all frames that were sent
pub record World (S P B : Type 0) : Type 0 where
  -- the version of its streams: 1, 2 or 3
  pub version : ℕ
  -- its hosts are the numbers below count; the laws hold of any count, a world has two to eight
  pub count : ℕ
  -- how many pages each of them takes
  pub limits : ℕ → ℕ
  pub hosts : ℕ → Host S P
  -- each frame ever sent, oldest first
  pub sent : List (Addressed P B)

-- an event of a world: a command at a host, or a frame that is delivered
pub data Event (E : Type 0) : Type 0 where
  -- a command at a host
  At : (host : ℕ) → (command : Command E) → Event E
  -- one of the frames sent comes to its host
  Deliver : (which : ℕ) → Event E

-- what was seen of one event: its host, what happened there, the reply
pub record Entry (P E A B : Type 0) : Type 0 where
  pub host : ℕ
  pub event : HostEvent P E B
  pub reply : Reply A

-- x is in the list
unfoldable pub Has : {X : Type 0} → List X → X → Type 0
Has [] x = ⊥
Has (y ∷ ys) x = (y ≡ x) ⊎ Has ys x

-- the frames that were sent, and after them the one that was made, if any
abbrev pub and_sent : {P B : Type 0} → List (Addressed P B) → Option (Addressed P B)
    → List (Addressed P B)
and_sent sent None = sent
and_sent sent (Some f) = sent ++ f ∷ []

module _ {S P E A B : Type 0} (m : Guest S P E A B) where
  -- the mode of host x
  abbrev pub mode_at : World S P B → ℕ → Mode S P
  mode_at w x = (w.hosts x).mode

  -- what an event gives at host x
  abbrev pub result_at : World S P B → ℕ → HostEvent P E B → Result S P A B
  result_at w x e = host_step m w.version x w.count (w.limits x) e (w.hosts x)

  -- the world after an event at host x; no other host changes
  abbrev pub world_at : World S P B → ℕ → HostEvent P E B → World S P B
  world_at w x e =
      let o = result_at w x e in
      record w { hosts = put w.hosts x o.next; sent = and_sent w.sent o.made }

  -- a frame that comes, if there is one: the host that it is for, and its event there
  abbrev pub frame_for : Option (Addressed P B) → Option (ℕ × HostEvent P E B)
  frame_for None = None
  frame_for (Some f) = Some (f.to, Came f.from f.frame)

  -- the host of an event and what happens there: none if there is no such frame or no such host
  abbrev pub meaning : World S P B → Event E → Option (ℕ × HostEvent P E B)
  meaning w (At x c) = if nat_lt x w.count then Some (x, Do c) else None
  meaning w (Deliver k) = frame_for (slice_get w.sent k)

  -- the world after what happened at a host, unchanged if nothing did
  abbrev pub happened : World S P B → Option (ℕ × HostEvent P E B) → World S P B
  happened w None = w
  happened w (Some e) = world_at w e.0 e.1

  -- what is seen of what happened at a host, nothing if nothing did
  abbrev pub entry_of : World S P B → Option (ℕ × HostEvent P E B) → List (Entry P E A B)
  entry_of w None = []
  entry_of w (Some e) =
      record { host = e.0; event = e.1; reply = (result_at w e.0 e.1).reply } ∷ []

  -- the reply to what happened at a host, or r if nothing did
  abbrev pub reply_or : World S P B → Reply A → Option (ℕ × HostEvent P E B) → Reply A
  reply_or w r None = r
  reply_or w r (Some e) = (result_at w e.0 e.1).reply

  -- the reply to an event
  abbrev pub reply_to : World S P B → Event E → Reply A
  reply_to w (At x c) = reply_or w (Refused BadHost) (meaning w (At x c))
  reply_to w (Deliver k) = reply_or w (Refused NoFrame) (meaning w (Deliver k))

  -- the world after an event
  abbrev pub step : World S P B → Event E → World S P B
  step w e = happened w (meaning w e)

  -- the world after a list of events
  unfoldable pub run : World S P B → List (Event E) → World S P B
  run w [] = w
  run w (e ∷ es) = run (step w e) es

  -- what was seen of a list of events; an event of a frame or host that is not there is left out
  unfoldable pub history : World S P B → List (Event E) → List (Entry P E A B)
  history w [] = []
  history w (e ∷ es) = entry_of w (meaning w e) ++ history (step w e) es

  -- the replies to a list of events, all of them
  unfoldable pub replies : World S P B → List (Event E) → List (Reply A)
  replies w [] = []
  replies w (e ∷ es) = reply_to w e ∷ replies (step w e) es

  -- a host at the start: the guest runs at the origin, and no other host has one
  abbrev pub new_host : (origin : ℕ) → S → ℕ → Host S P
  new_host origin g x = record { mode = if x == origin then Run 0 g else Empty 0; partner = x }

  -- a world at its start: the guest runs at the origin, and no frame was sent
  abbrev pub new_world : (version origin : ℕ) → S → (count : ℕ) → (limits : ℕ → ℕ) → World S P B
  new_world version origin g count limits =
      record {
        version = version;
        count = count;
        limits = limits;
        hosts = new_host origin g;
        sent = [];
      }
