-- What a worker does after a reply.
use Rattle.std.specs.Prelude.{Bool, true, false}
use Rattle.rvm_message.specs.declared.reply.HostRefusal.{HostRefusal}
use Rattle.rvm_message.specs.declared.reply.HostRefusal.TheVariants as refusal
use Rattle.rvm_message.specs.declared.reply.HostReply.{HostReply}
use Rattle.rvm_message.specs.declared.reply.HostReply.TheVariants as reply
use Rattle.rvm_cell.specs.declared.next.Next.{Next}
use Rattle.rvm_cell.specs.declared.next.Next.TheVariants as next

-- what the copier does after a refused Copy: waits if nothing can be copied yet, has the last frame sent again if the
-- guest is gone, is done if no move is left, and gives up the move for any other reason
abbrev pub after_refusal : HostRefusal → Next
after_refusal refusal.Busy = next.Wait 1
after_refusal refusal.NotHere = next.Resend
after_refusal refusal.NoMove = next.Done
after_refusal why = next.GiveUp

-- what the copier does after Copy: copies again at once, or in ten milliseconds if the state or a part of it was sent;
-- or what a refusal says
abbrev pub after_copy : HostReply → Next
after_copy reply.StateSent = next.Wait 10
after_copy (reply.PartSent part parts) = next.Wait 10
after_copy (reply.Refused why) = after_refusal why
after_copy r = next.Copy

-- the reply says that the move is over for the receiver
abbrev pub ends_hearing : HostReply → Bool
ends_hearing reply.Finished = true
ends_hearing reply.Dropped = true
ends_hearing (reply.Declined limit) = true
ends_hearing (reply.MoveDeclined limit) = true
ends_hearing r = false

-- the reply says that no move is left at this host
abbrev pub says_no_move : HostReply → Bool
says_no_move (reply.Refused refusal.NoMove) = true
says_no_move r = false

-- the reply says that the guest is at another host
abbrev pub is_gone : HostReply → Bool
is_gone (reply.Refused refusal.NotHere) = true
is_gone r = false
