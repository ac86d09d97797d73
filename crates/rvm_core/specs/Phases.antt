-- The phases of a driven move: its events, and the replies to them if it goes as the protocol says.
use Rattle.std.specs.Prelude.{◌≡◌, ℕ, suc, ◌+◌, ◌*◌, ◌<◌, ◌≤◌, Bool, true, false, List, [], ◌∷◌, ◌++◌, length, Option, Some, None}
use Rattle.rvm_board.specs.declared.event.BoardEvent.{BoardEvent}
use Rattle.rvm_board.specs.declared.event.BoardReply.{BoardReply}
use Rattle.rvm_guest.specs.TheGuest.{board}
use Rattle.rvm_protocol.specs.Commands.{Copy}
use Rattle.rvm_protocol.specs.DrivenMove.{arrival_replies, state_replies}
use Rattle.rvm_protocol.specs.Pages.{listed}
use Rattle.rvm_protocol.specs.Replies.{Reply, Begun, Copied, RoundEnded, Stopping, PartSent, Declined, Stored, Noted, Committed, StartedHere, Finished, Refused}
use Rattle.rvm_protocol.specs.World.{At, Deliver, Event, replies, run}
use Rattle.rvm_core.specs.Worlds.{BoardWorld, IsPartOf}

-- the command Copy at a host, this many times
abbrev pub copies : (from n : ℕ) → List (Event BoardEvent)
copies from n = listed (λ p. At from Copy) 0 n

-- the deliveries of this many frames, from this place on
abbrev pub deliveries : (first n : ℕ) → List (Event BoardEvent)
deliveries first n = listed (λ p. Deliver (first + p)) 0 n

-- the events that send a guest of n pages once its target takes it: the copies of its pages and the round's end, the
-- deliveries of these frames from a place on, the stop, the s frames of its state, and the deliveries of these and of
-- Ready, Go and Started
abbrev pub sending : (from first n s : ℕ) → List (Event BoardEvent)
sending from first n s =
    copies from (n + 1)
    ++ (deliveries first (n + 1) ++ (At from Copy ∷ (copies from s ++ deliveries (first + n + 1) (s + 3))))

-- the replies to the copies of a first round
abbrev pub round_replies : (n : ℕ) → List (Reply BoardReply)
round_replies n = listed (λ p. Copied p (suc p)) 0 n ++ RoundEnded 1 n 0 0 ∷ []

-- the replies to the events that send a guest of n pages with a state of s frames
abbrev pub sending_replies : (version move n s : ℕ) → List (Reply BoardReply)
sending_replies version move n s =
    round_replies n
    ++ ((listed (λ p. Stored p (suc p)) 0 n ++ Noted ∷ [])
    ++ (Stopping ∷ (state_replies version s
    ++ (arrival_replies version s ++ Committed move ∷ StartedHere ∷ Finished ∷ []))))

-- whether a page was copied
abbrev pub is_copied : Reply BoardReply → Bool
is_copied (Copied page number) = true
is_copied r = false

-- whether a move began or was refused
abbrev pub begins_or_not : Reply BoardReply → Bool
begins_or_not (Begun n) = true
begins_or_not (Refused why) = true
begins_or_not r = false

-- the number of frames in which a state is sent, by the reply to the first Copy of it
abbrev pub frames_told : Reply BoardReply → ℕ
frames_told (PartSent part parts) = parts
frames_told r = 1

-- the most pages that a target takes, if it declined
abbrev pub limit_told : Reply BoardReply → Option ℕ
limit_told (Declined limit) = Some limit
limit_told r = None

-- if the replies are those of a first round of n pages, that round was made, and this many frames were counted
abbrev pub IsRound : (frames : ℕ) → (old new : BoardWorld) → (from : ℕ) → Type 0
IsRound frames old new from =
    (n : ℕ) → n ≤ 4096 → replies board old (copies from (n + 1)) ≡ round_replies n
    → (frames ≡ n + 1) × (new ≡ run board old (copies from (n + 1)))

-- if the replies are those of a state of s frames, the state was sent, and this many frames were counted
abbrev pub IsState : (frames : ℕ) → (old new : BoardWorld) → (from : ℕ) → Type 0
IsState frames old new from =
    (version s : ℕ) → 0 < s → replies board old (copies from s) ≡ state_replies version s
    → (frames ≡ s) × (new ≡ run board old (copies from s))

-- if the replies are those of a guest that is sent, it was sent, and this many events were counted
abbrev pub IsSent : (events : ℕ) → (old new : BoardWorld) → (from first : ℕ) → Type 0
IsSent events old new from first =
    (version move n s : ℕ) → n ≤ 4096 → 0 < s → length (state_replies {A = BoardReply} version s) ≡ s
    → replies board old (sending from first n s) ≡ sending_replies version move n s
    → (events ≡ 2 * n + 6 + 2 * s) × (new ≡ run board old (sending from first n s))

-- if the replies are those of a first round of n pages, memory ran out in that round, after some of its copies
abbrev pub IsRoundLeft : (old new : BoardWorld) → (from : ℕ) → Type 0
IsRoundLeft old new from =
    (n : ℕ) → n ≤ 4096 → replies board old (copies from (n + 1)) ≡ round_replies n
    → IsPartOf (copies from (n + 1)) old new

-- if the replies are those of a state, memory ran out while it was sent, after some of its copies
abbrev pub IsStateLeft : (old new : BoardWorld) → (from : ℕ) → Type 0
IsStateLeft old new from =
    (version s : ℕ) → 0 < s → replies board old (copies from s) ≡ state_replies version s
    → IsPartOf (copies from s) old new

-- if the replies are those of a guest that is sent, memory ran out while it was sent, after some of the events
abbrev pub IsSentLeft : (old new : BoardWorld) → (from first : ℕ) → Type 0
IsSentLeft old new from first =
    (version move n s : ℕ) → n ≤ 4096 → 0 < s → length (state_replies {A = BoardReply} version s) ≡ s
    → replies board old (sending from first n s) ≡ sending_replies version move n s
    → IsPartOf (sending from first n s) old new
