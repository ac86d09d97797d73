-- What a drain took.
use Rattle.std.specs.Prelude.{ℕ, Bool, true, false, ◌==◌, ◌&&◌, List, [], ◌∷◌}
use Rattle.rvm_board.specs.declared.event.BoardEvent.TheVariants as asked
use Rattle.rvm_board.specs.declared.event.BoardReply.TheVariants as answer
use Rattle.rvm_message.specs.declared.event.Command.TheVariants as command
use Rattle.rvm_message.specs.declared.event.HostEvent.{HostEvent}
use Rattle.rvm_message.specs.declared.event.HostEvent.TheVariants as event
use Rattle.rvm_message.specs.declared.reply.HostReply.{HostReply}
use Rattle.rvm_message.specs.declared.reply.HostReply.TheVariants as reply
use Rattle.rvm_cell.specs.declared.pair.Drained.{Drained}
use Rattle.rvm_cell.specs.declared.pair.Drained.TheVariants as drained

-- the bytes that a host's reply to a drain tells
abbrev pub bytes_told : HostReply → List ℕ
bytes_told (reply.Board (answer.Bytes bs)) = bs
bytes_told r = []

-- what the reply to a drain says that it found: if it is no list of bytes, not even an empty one, the guest is
-- elsewhere
abbrev pub told_by : HostReply → Drained
told_by (reply.Board (answer.Bytes [])) = drained.Nothing
told_by (reply.Board (answer.Bytes (b ∷ bs))) = drained.Bytes
told_by r = drained.Elsewhere

-- the bytes that a drain took, by what it found, if `taken` are those that were taken last
abbrev pub bytes_of : Drained → (taken : List ℕ) → List ℕ
bytes_of drained.Bytes taken = taken
bytes_of d taken = []

-- the bytes that were taken last, if the guest had sent any
abbrev pub if_sent : Bool → (taken : List ℕ) → List ℕ
if_sent true taken = taken
if_sent false taken = []

-- the guest was there, and had sent nothing more
abbrev pub is_nothing : Drained → Bool
is_nothing drained.Nothing = true
is_nothing d = false

-- an event was a drain of up to 256 bytes that found nothing, by the reply to it
abbrev pub found_nothing : HostEvent → HostReply → Bool
found_nothing (event.Do (command.Board (asked.Drain n))) r = (n == 256) && is_nothing (told_by r)
found_nothing e r = false
