-- The events of a guest in a journal, worked out by hand.
use Rattle.std.proofs.Common.{◌≡◌, true, false, List, [], ◌∷◌, None, arith, codes, refl}
use Rattle.rvm_recorder.specs.Receipts.{PlainReceipt}
use Rattle.rvm_board.specs.declared.event.BoardEvent.TheVariants as asked
use Rattle.rvm_board.specs.declared.event.BoardReply.TheVariants as answer
use Rattle.rvm_recorder.specs.Entries.{PlainEntry}
use Rattle.rvm_message.specs.declared.event.Command.TheVariants as command
use Rattle.rvm_message.specs.declared.event.HostEvent.{HostEvent}
use Rattle.rvm_message.specs.declared.event.HostEvent.TheVariants as event
use Rattle.rvm_message.specs.declared.reply.HostRefusal.TheVariants.{NoMove}
use Rattle.rvm_message.specs.declared.reply.HostReply.{HostReply}
use Rattle.rvm_message.specs.declared.reply.HostReply.TheVariants as reply
use Rattle.rvm_message.specs.Exchanges.{PlainExchange, exchange}
use Rattle.rvm_move.specs.Ends.{TellsEnd, tells_end}
use Rattle.rvm_move.specs.Runs.{called_of_guest, of_guest}

abbrev entry : HostEvent → HostReply → PlainEntry
entry e r = record { event = e; reply = r; frame = None }

abbrev step : HostEvent
step = event.Do (command.Board (asked.Step 0))

abbrev drain : HostEvent
drain = event.Do (command.Board (asked.Drain 256))

-- between two events of the guest a page is copied
abbrev journal : List PlainEntry
journal =
    entry step (reply.Board answer.Retired)
    ∷ entry (event.Do command.Copy) (reply.Copied 0 1)
    ∷ entry drain (reply.Board (answer.Bytes (codes "H")))
    ∷ []

abbrev two_events : List PlainExchange
two_events = exchange step (reply.Board answer.Retired) ∷ exchange drain (reply.Board (answer.Bytes (codes "H"))) ∷ []

a_copy_is_no_event_of_the_guest : of_guest journal ≡ two_events
a_copy_is_no_event_of_the_guest = refl

-- the receipts of its two calls, whatever their places
abbrev receipts : List PlainReceipt
receipts =
    record { place = 7; seat = 2; count = 0; event = step; reply = reply.Board answer.Retired }
    ∷ record { place = 9; seat = 2; count = 1; event = drain; reply = reply.Board (answer.Bytes (codes "H")) }
    ∷ []

they_are_the_calls_of_one_seat : of_guest journal ≡ called_of_guest receipts
they_are_the_calls_of_one_seat = refl

-- WHAT TELLS THAT A MOVE IS OVER

no_move_left_tells_it : tells_end (exchange (event.Do command.Resend) (reply.Refused NoMove)) ≡ true
no_move_left_tells_it = refl

a_move_that_was_given_up_tells_it : tells_end (exchange (event.Do command.Abort) reply.Aborted) ≡ true
a_move_that_was_given_up_tells_it = refl

a_commit_does_not : tells_end (exchange (event.Do command.Resend) (reply.Committed 1)) ≡ false
a_commit_does_not = refl

-- the last entry of a journal may tell it
abbrev ended : List PlainEntry
ended = entry (event.Do command.Copy) reply.StateSent ∷ entry (event.Do command.Resend) (reply.Refused NoMove) ∷ []

this_journal_tells_it : TellsEnd ended
this_journal_tells_it = (1, entry (event.Do command.Resend) (reply.Refused NoMove), omega arith, refl, refl)
