-- The host relation: what an event does at a host, whom the frame that it makes is for, and which frames the host
-- hears.
use Rattle.std.specs.Prelude.{ℕ, Bool, false, not, ◌&&◌, ◌||◌, ◌==◌, if◌then◌else◌, nat_lt}
use Rattle.std.specs.declared.option.Option.{Option}
use Rattle.rvm_protocol.specs.Guest.{Guest}
use Rattle.rvm_protocol.specs.Frames.{Frame, Offer, Addressed, posted, made_as, plain}
use Rattle.rvm_protocol.specs.Commands.{Command, Begin, HostEvent, Do, Came}
use Rattle.rvm_protocol.specs.Replies.{BadHost, Reply, Begun, Accepted}
use Rattle.rvm_protocol.specs.Modes.{Mode, Run, Outcome, move_of, refuses, ignores}
use Rattle.rvm_protocol.specs.Obeying.{begin, obey}
use Rattle.rvm_protocol.specs.Receiving.{came}

-- a host: its mode, and the other party of the highest move that it has begun or staged, at first itself
pub record Host (S P : Type 0) : Type 0 where
  pub mode : Mode S P
  pub partner : ℕ

-- what an event gives at a host: a reply, a frame with its address if one is made, and the host after it
pub record Result (S P A B : Type 0) : Type 0 where
  pub reply : Reply A
  pub made : Option (Addressed P B)
  pub next : Host S P

-- x is another host of a world of count hosts
abbrev pub is_there : (self count x : ℕ) → Bool
is_there self count x = nat_lt x count && not (x == self)

-- an offer of a move above n
abbrev pub is_offer_above : {P B : Type 0} → ℕ → Frame P B → Bool
is_offer_above n (Offer k a b) = nat_lt n k
is_offer_above n f = false

-- a frame is heard if it is the partner's, or another host's offer of a higher move
abbrev pub is_heard : {S P B : Type 0} → (self count from : ℕ) → Frame P B → Host S P → Bool
is_heard self count from f h =
    is_there self count from && (from == h.partner || is_offer_above (move_of h.mode) f)

-- the partner after a reply: the target that Begin names, or the source of an accepted offer
abbrev pub partner_then : {P E A B : Type 0} → HostEvent P E B → Reply A → ℕ → ℕ
partner_then (Do (Begin to p)) (Begun n) x = to
partner_then (Came from f) Accepted x = from
partner_then e r x = x

-- the host that a frame made is for: the sender of what came, else the partner
abbrev pub addressee : {P E B : Type 0} → HostEvent P E B → ℕ → ℕ
addressee (Do c) partner = partner
addressee (Came from f) partner = from

module _ {S P E A B : Type 0} (m : Guest S P E A B) where
  -- what a command does at a host; Begin first checks the target that it names
  abbrev pub obey_at : (version self count : ℕ) → Command E → Mode S P → Outcome S P A B
  obey_at version self count (Begin to p) (Run n g) =
      if is_there self count to then begin m p (Run n g) else refuses BadHost (Run n g)
  obey_at version self count c mode = obey m version c mode

  -- what a frame that comes does; one that is not heard is ignored
  abbrev pub came_at : (self count limit from : ℕ) → Frame P B → Host S P → Outcome S P A B
  came_at self count limit from f h =
      if is_heard self count from f h then came m limit f h.mode else ignores h.mode

  -- the reply, the frame and the mode that an event gives at a host
  abbrev pub outcome : (version self count limit : ℕ) → HostEvent P E B → Host S P
      → Outcome S P A B
  outcome version self count limit (Do c) h = obey_at version self count c h.mode
  outcome version self count limit (Came from f) h = came_at self count limit from (plain m f) h

  -- the result of an outcome: its frame gets an address and is written for the stream, and its reply determines the
  -- partner
  abbrev pub settled : (version self : ℕ) → HostEvent P E B → ℕ → Outcome S P A B
      → Result S P A B
  settled version self e partner o =
      let p = partner_then e o.reply partner in
      record {
        reply = o.reply;
        made = posted self (addressee e p) (made_as m version o.made);
        next = record { mode = o.next; partner = p };
      }

  -- one event at host self of a world of count hosts, which takes guests of at most limit pages and writes frames of
  -- this stream version
  abbrev pub host_step : (version self count limit : ℕ) → HostEvent P E B → Host S P
      → Result S P A B
  host_step version self count limit e h =
      settled version self e h.partner (outcome version self count limit e h)
