-- The replies of a host in each mode to each command and each kind of frame, of its move and of a
-- later one.
use Rattle.std.proofs.Common.{◌≡◌, ℕ, suc, List, [], ◌∷◌, map, refl}
use Rattle.rvm_protocol.specs.Commands.{Policy, Board, Begin, Copy, Resend, AbortMove, HostEvent, Do, Came}
use Rattle.rvm_protocol.specs.Frames.{Zero, Page, Offer, Accept, Refuse, RoundEnd, Lost, State, Part, Ready, Go, Started, Abort}
use Rattle.rvm_protocol.specs.Modes.{Mode, Empty, Run, Offering, Copying, Stopped, Given, Staging, Held}
use Rattle.rvm_protocol.specs.Pages.{least, size, listed, members, gathered, is_in, none}
use Rattle.rvm_protocol.specs.Replies.{BadState, Busy, NotHere, Paused, Ignored, BadHost, BadSize, NoMove, Reply, Answered, Begun, Copied, StateSent, Resent, Aborted, Accepted, Open, MoveDeclined, Stored, Noted, Kept, Lacking, ReadySent, Fixing, Committed, StartedHere, Finished, Dropped, Refused}
use Rattle.rvm_protocol.specs.Rounds.{opened}
use Rattle.rvm_protocol.specs.Staging.{new_stage}
use Rattle.rvm_protocol.specs.Host.{host_step}
use Rattle.rvm_protocol.proofs.Counter.{Counter, CounterEvent, Tick, counter, fresh, policy}

abbrev g : Counter
g = fresh 2

abbrev some_policy : Policy
some_policy = policy 3 1 3

-- host 0 of two, version 1
abbrev says_to : Mode Counter ℕ → HostEvent ℕ CounterEvent ℕ → Reply ℕ
says_to x e = (host_step counter 1 0 2 4096 e (record { mode = x; partner = 1 })).reply

-- the commands, then the frames of move 1, then those of move 2
abbrev events : List (HostEvent ℕ CounterEvent ℕ)
events = Do (Board Tick) ∷ Do (Begin 1 some_policy) ∷ Do (Begin 0 some_policy)
    ∷ Do (Begin 1 (policy 0 1 3)) ∷ Do Copy ∷ Do Resend ∷ Do AbortMove ∷ Came 1 (Offer 1 2 1)
    ∷ Came 1 (Accept 1) ∷ Came 1 (Refuse 1 3) ∷ Came 1 (Page 1 1 1 0) ∷ Came 1 (Page 1 2 1 0)
    ∷ Came 1 (Zero 1 1 1) ∷ Came 1 (RoundEnd 1 1 2 3 4) ∷ Came 1 (Lost 1 (0 ∷ 3 ∷ []))
    ∷ Came 1 (State 1 (1 ∷ 1 ∷ []) 0) ∷ Came 1 (State 1 (1 ∷ []) 0) ∷ Came 1 (Part 1 1 0 2 (7 ∷ []))
    ∷ Came 1 (Ready 1) ∷ Came 1 (Go 1) ∷ Came 1 (Started 1) ∷ Came 1 (Abort 1)
    ∷ Came 1 (Offer 2 2 1) ∷ Came 1 (Accept 2) ∷ Came 1 (Refuse 2 3) ∷ Came 1 (Page 2 1 1 0)
    ∷ Came 1 (Page 2 2 1 0) ∷ Came 1 (Zero 2 1 1) ∷ Came 1 (RoundEnd 2 1 2 3 4) ∷ Came 1 (Lost 2 (0 ∷ 3 ∷ []))
    ∷ Came 1 (State 2 (1 ∷ 1 ∷ []) 0) ∷ Came 1 (State 2 (1 ∷ []) 0)
    ∷ Came 1 (Part 2 1 0 2 (7 ∷ [])) ∷ Came 1 (Ready 2) ∷ Came 1 (Go 2) ∷ Came 1 (Started 2)
    ∷ Came 1 (Abort 2) ∷ []

at_empty : map (says_to (Empty 1)) events ≡ Refused NotHere ∷ Refused NotHere ∷ Refused NotHere
    ∷ Refused NotHere ∷ Refused NotHere ∷ Refused NoMove ∷ Refused NotHere ∷ Refused Ignored
    ∷ Refused Ignored ∷ Refused Ignored ∷ Refused Ignored ∷ Refused Ignored ∷ Refused Ignored
    ∷ Refused Ignored ∷ Refused Ignored ∷ Refused Ignored ∷ Refused Ignored ∷ Refused Ignored
    ∷ Refused Ignored ∷ Refused Ignored ∷ Refused Ignored ∷ Refused Ignored ∷ Accepted
    ∷ Refused Ignored ∷ Refused Ignored ∷ Refused Ignored ∷ Refused Ignored ∷ Refused Ignored
    ∷ Refused Ignored ∷ Refused Ignored ∷ Refused Ignored ∷ Refused Ignored ∷ Refused Ignored
    ∷ Refused Ignored ∷ Refused Ignored ∷ Refused Ignored ∷ Refused Ignored ∷ []
unfolding least size listed members gathered is_in
at_empty = refl

at_run : map (says_to (Run 1 g)) events ≡ Answered 0 ∷ Begun 2 ∷ Refused BadHost ∷ Refused BadSize
    ∷ Refused NoMove ∷ Refused NoMove ∷ Refused NoMove ∷ Refused Ignored ∷ Refused Ignored
    ∷ Refused Ignored ∷ Refused Ignored ∷ Refused Ignored ∷ Refused Ignored ∷ Refused Ignored
    ∷ Refused Ignored ∷ Refused Ignored ∷ Refused Ignored ∷ Refused Ignored ∷ Refused Ignored
    ∷ Resent ∷ Refused Ignored ∷ Refused Ignored ∷ Refused Ignored ∷ Refused Ignored
    ∷ Refused Ignored ∷ Refused Ignored ∷ Refused Ignored ∷ Refused Ignored ∷ Refused Ignored
    ∷ Refused Ignored ∷ Refused Ignored ∷ Refused Ignored ∷ Refused Ignored ∷ Refused Ignored
    ∷ Refused Ignored ∷ Refused Ignored ∷ Refused Ignored ∷ []
unfolding least size listed members gathered is_in
at_run = refl

at_offering : map (says_to (Offering 1 g some_policy)) events ≡ Answered 0 ∷ Refused Busy
    ∷ Refused Busy ∷ Refused Busy ∷ Refused Busy ∷ Resent ∷ Aborted ∷ Refused Ignored ∷ Open
    ∷ MoveDeclined 3 ∷ Refused Ignored ∷ Refused Ignored ∷ Refused Ignored ∷ Refused Ignored
    ∷ Refused Ignored ∷ Refused Ignored ∷ Refused Ignored ∷ Refused Ignored ∷ Refused Ignored
    ∷ Refused Ignored ∷ Refused Ignored ∷ Refused Ignored ∷ Refused Ignored ∷ Refused Ignored
    ∷ Refused Ignored ∷ Refused Ignored ∷ Refused Ignored ∷ Refused Ignored ∷ Refused Ignored
    ∷ Refused Ignored ∷ Refused Ignored ∷ Refused Ignored ∷ Refused Ignored ∷ Refused Ignored
    ∷ Refused Ignored ∷ Refused Ignored ∷ Refused Ignored ∷ []
unfolding least size listed members gathered is_in
at_offering = refl

at_copying : map (says_to (Copying 1 (opened counter g some_policy))) events ≡ Answered 0
    ∷ Refused Busy ∷ Refused Busy ∷ Refused Busy ∷ Copied 0 1 ∷ Refused NoMove ∷ Aborted
    ∷ Refused Ignored ∷ Refused Ignored ∷ Refused Ignored ∷ Refused Ignored ∷ Refused Ignored
    ∷ Refused Ignored ∷ Refused Ignored ∷ Refused Ignored ∷ Refused Ignored ∷ Refused Ignored
    ∷ Refused Ignored ∷ Refused Ignored ∷ Refused Ignored ∷ Refused Ignored ∷ Refused Ignored
    ∷ Refused Ignored ∷ Refused Ignored ∷ Refused Ignored ∷ Refused Ignored ∷ Refused Ignored
    ∷ Refused Ignored ∷ Refused Ignored ∷ Refused Ignored ∷ Refused Ignored ∷ Refused Ignored
    ∷ Refused Ignored ∷ Refused Ignored ∷ Refused Ignored ∷ Refused Ignored ∷ Refused Ignored ∷ []
unfolding least size listed members gathered is_in
at_copying = refl

at_stopped : map (says_to (Stopped 1 (record { guest = g; to_send = none; to_fix = none; newest = λ p. suc p; copies = 2; turn = 0 }))) events
    ≡ Refused Paused ∷ Refused Busy ∷ Refused Busy ∷ Refused Busy ∷ StateSent ∷ Resent ∷ Aborted
    ∷ Refused Ignored ∷ Refused Ignored ∷ Refused Ignored ∷ Refused Ignored ∷ Refused Ignored
    ∷ Refused Ignored ∷ Refused Ignored ∷ Fixing 1 ∷ Refused Ignored ∷ Refused Ignored
    ∷ Refused Ignored ∷ Committed 1 ∷ Refused Ignored ∷ Refused Ignored ∷ Refused Ignored
    ∷ Refused Ignored ∷ Refused Ignored ∷ Refused Ignored ∷ Refused Ignored ∷ Refused Ignored
    ∷ Refused Ignored ∷ Refused Ignored ∷ Refused Ignored ∷ Refused Ignored ∷ Refused Ignored
    ∷ Refused Ignored ∷ Refused Ignored ∷ Refused Ignored ∷ Refused Ignored ∷ Refused Ignored ∷ []
unfolding least size listed members gathered is_in
at_stopped = refl

at_given : map (says_to (Given 1 (fresh 4))) events ≡ Refused NotHere ∷ Refused NotHere ∷ Refused NotHere
    ∷ Refused NotHere ∷ Refused NotHere ∷ Resent ∷ Refused NotHere ∷ Refused Ignored
    ∷ Refused Ignored ∷ Refused Ignored ∷ Refused Ignored ∷ Refused Ignored ∷ Refused Ignored
    ∷ Refused Ignored ∷ Refused Ignored ∷ Refused Ignored ∷ Refused Ignored ∷ Refused Ignored
    ∷ Refused Ignored ∷ Refused Ignored ∷ Finished ∷ Refused Ignored ∷ Accepted ∷ Refused Ignored
    ∷ Refused Ignored ∷ Refused Ignored ∷ Refused Ignored ∷ Refused Ignored ∷ Refused Ignored
    ∷ Refused Ignored ∷ Refused Ignored ∷ Refused Ignored ∷ Refused Ignored ∷ Refused Ignored
    ∷ Refused Ignored ∷ Refused Ignored ∷ Refused Ignored ∷ []
unfolding least size listed members gathered is_in
at_given = refl

at_staging : map (says_to (Staging 1 (new_stage 0 2 1))) events ≡ Refused NotHere ∷ Refused NotHere
    ∷ Refused NotHere ∷ Refused NotHere ∷ Refused NotHere ∷ Refused NoMove ∷ Refused NotHere
    ∷ Accepted ∷ Refused Ignored ∷ Refused Ignored ∷ Stored 1 1 ∷ Refused Ignored ∷ Stored 1 1
    ∷ Noted ∷ Refused Ignored ∷ Lacking 2 ∷ Refused BadState ∷ Kept 0 2 ∷ Refused Ignored
    ∷ Refused Ignored ∷ Refused Ignored ∷ Dropped ∷ Accepted ∷ Refused Ignored ∷ Refused Ignored
    ∷ Refused Ignored ∷ Refused Ignored ∷ Refused Ignored ∷ Refused Ignored ∷ Refused Ignored
    ∷ Refused Ignored ∷ Refused Ignored ∷ Refused Ignored ∷ Refused Ignored ∷ Refused Ignored
    ∷ Refused Ignored ∷ Refused Ignored ∷ []
unfolding least size listed members gathered is_in
at_staging = refl

at_held : map (says_to (Held 1 g)) events ≡ Refused Paused ∷ Refused NotHere ∷ Refused NotHere
    ∷ Refused NotHere ∷ Refused NotHere ∷ Resent ∷ Refused NotHere ∷ Refused Ignored
    ∷ Refused Ignored ∷ Refused Ignored ∷ Refused Ignored ∷ Refused Ignored ∷ Refused Ignored
    ∷ Refused Ignored ∷ Refused Ignored ∷ ReadySent ∷ ReadySent ∷ ReadySent ∷ Refused Ignored
    ∷ StartedHere ∷ Refused Ignored ∷ Dropped ∷ Accepted ∷ Refused Ignored ∷ Refused Ignored
    ∷ Refused Ignored ∷ Refused Ignored ∷ Refused Ignored ∷ Refused Ignored ∷ Refused Ignored
    ∷ Refused Ignored ∷ Refused Ignored ∷ Refused Ignored ∷ Refused Ignored ∷ Refused Ignored
    ∷ Refused Ignored ∷ Refused Ignored ∷ []
unfolding least size listed members gathered is_in
at_held = refl
