-- The texts of the replies of a world. Each ends with a line feed.
use Rattle.std.specs.Prelude.{ℕ, List, [], ◌++◌, codes, Option, Some, None}
use Rattle.std.specs.Fmt.{decimal}
use Rattle.rvm_board.specs.declared.event.BoardReply.{BoardReply}
use Rattle.rvm_protocol.specs.Replies as reply
use Rattle.rvm_protocol.specs.Replies.{Reply}
use Rattle.rvm_refusal.specs.declared.refusal.Refusal.{Refusal}
use Rattle.rvm_refusal.specs.declared.refusal.Refusal.TheVariants as all
use Rattle.rvm_refusal.specs.Refusal.{text_of}
use Rattle.rvm_debug.specs.Answers.{reply_text, reply_word, step_text}

-- a refusal in the list of all refusals
abbrev pub listed : reply.Refusal → Refusal
listed reply.BadSize = all.BadSize
listed reply.BadState = all.BadState
listed reply.SeqSpent = all.SeqSpent
listed reply.NotHere = all.NotHere
listed reply.Paused = all.Paused
listed reply.Busy = all.Busy
listed reply.NoMove = all.NoMove
listed reply.EpochsSpent = all.EpochsSpent
listed reply.Ignored = all.Ignored
listed reply.NoFrame = all.NoFrame
listed reply.BadHost = all.BadHost

-- a reply in words; an answer of the guest as its debugger has it
abbrev pub words_of : Reply BoardReply → List ℕ
words_of (reply.Answered answer) = reply_word answer
words_of (reply.Begun n) = codes "begun " ++ decimal n
words_of (reply.Copied page number) = codes "copied " ++ decimal page ++ codes " " ++ decimal number
words_of (reply.RoundEnded round sent skipped left) =
    codes "round " ++ decimal round ++ codes " sent " ++ decimal sent ++ codes " skipped " ++ decimal skipped
    ++ codes " left " ++ decimal left
words_of reply.Stopping = codes "stopping"
words_of reply.StateSent = codes "state sent"
words_of (reply.PartSent part parts) = codes "part " ++ decimal part ++ codes " of " ++ decimal parts ++ codes " sent"
words_of reply.Resent = codes "resent"
words_of reply.Aborted = codes "aborted"
words_of reply.Open = codes "open"
words_of (reply.MoveDeclined limit) = codes "move declined " ++ decimal limit
words_of (reply.Fixing count) = codes "fixing " ++ decimal count
words_of (reply.Committed n) = codes "committed " ++ decimal n
words_of reply.Finished = codes "finished"
words_of reply.Accepted = codes "accepted"
words_of (reply.Declined limit) = codes "declined " ++ decimal limit
words_of (reply.Stored page number) = codes "stored " ++ decimal page ++ codes " " ++ decimal number
words_of reply.Noted = codes "noted"
words_of (reply.Kept part parts) = codes "kept " ++ decimal part ++ codes " of " ++ decimal parts
words_of (reply.Lacking count) = codes "lacking " ++ decimal count
words_of reply.ReadySent = codes "ready"
words_of reply.StartedHere = codes "started"
words_of reply.Dropped = codes "dropped"
words_of (reply.Refused why) = text_of (listed why)

-- ` -> K`, with the place of the frame that was made, if one was
abbrev pub place_text : Option ℕ → List ℕ
place_text None = []
place_text (Some k) = codes " -> " ++ decimal k

-- the text of the reply to an event of a move, or to a frame that came
abbrev pub move_text : Reply BoardReply → (place : Option ℕ) → List ℕ
move_text r place = words_of r ++ place_text place ++ codes "\n"

-- the text of the reply to an event of the guest other than a step; if there is an address, its bytes are those of
-- RAM from that address on
abbrev pub guest_text : (address : Option ℕ) → Reply BoardReply → List ℕ
guest_text address (reply.Answered answer) = reply_text address answer
guest_text address r = move_text r None

-- the text of this many steps of a hart, with the reply to the last
abbrev pub steps_text : (hart count : ℕ) → Reply BoardReply → List ℕ
steps_text h n (reply.Answered answer) = step_text h n answer
steps_text h n r = move_text r None
