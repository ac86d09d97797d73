-- Replies of hosts as the protocol of live migration has them.
use Rattle.std.specs.Prelude.{Bool, true, false}
use Rattle.rvm_board.specs.declared.event.BoardReply.{BoardReply}
use Rattle.rvm_board.specs.Events as events
use Rattle.rvm_protocol.specs.Replies as protocol
use Rattle.rvm_message.specs.declared.reply.HostRefusal.{HostRefusal}
use Rattle.rvm_message.specs.declared.reply.HostRefusal.TheVariants as refusal
use Rattle.rvm_message.specs.declared.reply.HostReply.{HostReply}
use Rattle.rvm_message.specs.declared.reply.HostReply.TheVariants as reply

-- a refusal as the protocol has it
abbrev pub refusal_of : HostRefusal → protocol.Refusal
refusal_of refusal.BadSize = protocol.BadSize
refusal_of refusal.BadState = protocol.BadState
refusal_of refusal.SeqSpent = protocol.SeqSpent
refusal_of refusal.NotHere = protocol.NotHere
refusal_of refusal.Paused = protocol.Paused
refusal_of refusal.Busy = protocol.Busy
refusal_of refusal.NoMove = protocol.NoMove
refusal_of refusal.EpochsSpent = protocol.EpochsSpent
refusal_of refusal.Ignored = protocol.Ignored
refusal_of refusal.NoFrame = protocol.NoFrame
refusal_of refusal.BadHost = protocol.BadHost

-- a reply as the protocol has it
abbrev pub reply_of : HostReply → protocol.Reply BoardReply
reply_of (reply.Board answer) = protocol.Answered answer
reply_of (reply.Begun n) = protocol.Begun n
reply_of (reply.Copied page number) = protocol.Copied page number
reply_of (reply.RoundEnded round sent skipped left) = protocol.RoundEnded round sent skipped left
reply_of reply.Stopping = protocol.Stopping
reply_of reply.StateSent = protocol.StateSent
reply_of (reply.PartSent part parts) = protocol.PartSent part parts
reply_of reply.Resent = protocol.Resent
reply_of reply.Aborted = protocol.Aborted
reply_of reply.Open = protocol.Open
reply_of (reply.MoveDeclined limit) = protocol.MoveDeclined limit
reply_of (reply.Fixing count) = protocol.Fixing count
reply_of (reply.Committed n) = protocol.Committed n
reply_of reply.Finished = protocol.Finished
reply_of reply.Accepted = protocol.Accepted
reply_of (reply.Declined limit) = protocol.Declined limit
reply_of (reply.Stored page number) = protocol.Stored page number
reply_of reply.Noted = protocol.Noted
reply_of (reply.Kept part parts) = protocol.Kept part parts
reply_of (reply.Lacking count) = protocol.Lacking count
reply_of reply.ReadySent = protocol.ReadySent
reply_of reply.Started = protocol.StartedHere
reply_of reply.Dropped = protocol.Dropped
reply_of (reply.Refused why) = protocol.Refused (refusal_of why)

-- whether consecutive steps end with the step that has this reply
abbrev pub ends_steps : protocol.Reply BoardReply → Bool
ends_steps (protocol.Answered answer) = events.ends_steps answer
ends_steps r = true

-- whether the reply is a refusal that is known before anything is allocated. BadState is not: before it, the pieces of
-- a state are joined and the whole state is read
abbrev pub is_refused_outright : protocol.Reply BoardReply → Bool
is_refused_outright (protocol.Refused protocol.BadState) = false
is_refused_outright (protocol.Refused why) = true
is_refused_outright r = false

-- whether the reply says that no copy number is left
abbrev pub is_seq_spent : protocol.Reply BoardReply → Bool
is_seq_spent (protocol.Refused protocol.SeqSpent) = true
is_seq_spent r = false
