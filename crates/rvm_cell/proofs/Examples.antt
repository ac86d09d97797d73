-- What workers hear and how they end, worked out by hand.
use Rattle.std.proofs.Common.{◌≡◌, ℕ, true, false, List, [], ◌∷◌, None, Some, arith, inr, refl}
use Rattle.rvm_recorder.specs.Receipts.{PlainReceipt}
use Rattle.rvm_frame.specs.declared.frame.Frame.TheVariants.{Abort, Accept, Go, Hello}
use Rattle.rvm_message.specs.declared.event.Command.TheVariants as command
use Rattle.rvm_message.specs.declared.event.HostEvent.{HostEvent}
use Rattle.rvm_message.specs.declared.event.HostEvent.TheVariants.{Came, Do}
use Rattle.rvm_message.specs.declared.reply.HostRefusal.TheVariants.{Busy, NoMove, NotHere}
use Rattle.rvm_message.specs.declared.reply.HostReply.{HostReply}
use Rattle.rvm_message.specs.declared.reply.HostReply.TheVariants as reply
use Rattle.rvm_message.specs.Exchanges.{exchange}
use Rattle.rvm_cell.specs.declared.end.WorkEnd.TheVariants.{Done, Failed, LinkEnded, LinkFault, NoThread}
use Rattle.rvm_cell.specs.declared.next.Next.TheVariants as next
use Rattle.rvm_precopy.specs.declared.policy.Policy.{Policy}
use Rattle.rvm_cell.specs.Copiers.{MayAsk}
use Rattle.rvm_cell.specs.Endings.{IsCopierEnd, TellsOver, last_of, tells_done, tells_given_up}
use Rattle.rvm_cell.specs.Heard.{IsAllButLast, IsReceiverEnd, IsWholeStream, frames_in}
use Rattle.rvm_station.specs.Streams.{all_for_host}
use Rattle.rvm_cell.specs.Next.{after_copy}

-- WHAT THE COPIER DOES NEXT

a_move_that_is_busy_is_waited_for : after_copy (reply.Refused Busy) ≡ next.Wait 1
a_move_that_is_busy_is_waited_for = refl

the_state_is_waited_for : after_copy reply.StateSent ≡ next.Wait 10
the_state_is_waited_for = refl

a_guest_that_is_gone_is_handed_over : after_copy (reply.Refused NotHere) ≡ next.Resend
a_guest_that_is_gone_is_handed_over = refl

-- HOW THE COPIER ENDS

no_move_left_ends_it : tells_done (exchange (Do command.Resend) (reply.Refused NoMove)) ≡ true
no_move_left_ends_it = refl

a_frame_sent_again_does_not : tells_done (exchange (Do command.Resend) reply.Resent) ≡ false
a_frame_sent_again_does_not = refl

a_move_is_given_up : tells_given_up (exchange (Do command.Abort) reply.Aborted) ≡ true
a_move_is_given_up = refl

a_guest_that_is_gone_cannot_be_kept : tells_given_up (exchange (Do command.Abort) (reply.Refused NotHere)) ≡ false
a_guest_that_is_gone_cannot_be_kept = refl

a_copy_gives_nothing_up : tells_given_up (exchange (Do command.Copy) (reply.Refused Busy)) ≡ false
a_copy_gives_nothing_up = refl

without_a_call_it_is_not_done : IsCopierEnd Done None → ⊥
without_a_call_it_is_not_done is = is

an_answer_that_does_not_come_is_a_fault_of_its_link : IsCopierEnd LinkFault (Some (exchange (Do command.Resend) reply.Resent))
an_answer_that_does_not_come_is_a_fault_of_its_link = refl

a_copy_that_is_busy_is_none : IsCopierEnd LinkFault (Some (exchange (Do command.Copy) (reply.Refused Busy))) → ⊥
a_copy_that_is_busy_is_none is = absurd cc

it_never_reads_a_stream : IsCopierEnd Failed None → ⊥
it_never_reads_a_stream is = absurd cc

-- WHAT THE COPIER MAY ASK

abbrev policy : Policy
policy = record { max_rounds = 29; min_left = 50; factor = 3 }

it_may_not_copy_first : MayAsk 1 policy None (Do command.Copy) → ⊥
it_may_not_copy_first may = may

it_may_copy_once_the_move_has_begun : MayAsk 1 policy (Some (exchange (Do (command.Begin 1 policy)) (reply.Begun 1))) (Do command.Copy)
it_may_copy_once_the_move_has_begun = refl

it_may_not_ask_for_a_frame_again_while_the_guest_is_there : MayAsk 1 policy (Some (exchange (Do command.Copy) (reply.Refused Busy))) (Do command.Resend) → ⊥
it_may_not_ask_for_a_frame_again_while_the_guest_is_there may = absurd cc

it_may_once_the_guest_is_gone : MayAsk 1 policy (Some (exchange (Do command.Copy) (reply.Refused NotHere))) (Do command.Resend)
it_may_once_the_guest_is_gone = refl

-- THE CALLS OF A RECEIVER

abbrev receipt : HostEvent → HostReply → PlainReceipt
receipt e r = record { place = 0; seat = 0; count = 0; event = e; reply = r }

-- Go came, and then the move was given up
abbrev receipts : List PlainReceipt
receipts = receipt (Came 0 (Go 1)) reply.Started ∷ receipt (Came 0 (Abort 1)) reply.Dropped ∷ []

both_frames_came : frames_in receipts ≡ Go 1 ∷ Abort 1 ∷ []
both_frames_came = refl

the_last_was_dropped : last_of receipts ≡ Some (exchange (Came 0 (Abort 1)) reply.Dropped)
the_last_was_dropped = refl

there_is_no_last_of_none : last_of [] ≡ None
there_is_no_last_of_none = refl

that_ends_the_move : TellsOver (last_of receipts)
that_ends_the_move = refl

-- WHICH FRAMES ARE HEARD

hello_comes_to_no_host : all_for_host 0 1 ((None, Hello 1) ∷ (None, Accept 1) ∷ []) ≡ Accept 1 ∷ []
hello_comes_to_no_host = refl

-- a frame that names other hosts comes to none of these
a_frame_of_another_host_does_not_come : all_for_host 0 1 ((Some (2, 1), Accept 1) ∷ (Some (0, 1), Accept 2) ∷ []) ≡ Accept 2 ∷ []
a_frame_of_another_host_does_not_come = refl

-- the bytes of Hello in version 1: kind, move number, length of the body, version
abbrev hello : List ℕ
hello = 0 ∷ 0 ∷ 0 ∷ 0 ∷ 0 ∷ 0 ∷ 0 ∷ 0 ∷ 0 ∷ 4 ∷ 0 ∷ 0 ∷ 0 ∷ 1 ∷ 0 ∷ 0 ∷ 0 ∷ []

-- of it nothing is heard
hello_is_a_whole_stream : IsWholeStream 0 1 hello []
hello_is_a_whole_stream = record {
  frames = (None, Hello 1) ∷ [];
  stream = (
    record { hosts = refl; move_number = refl; body = refl; body_length = omega arith },
    (refl, refl),
    ([], refl, (refl, refl)),
  );
  told = refl;
}

so_a_receiver_may_end_with_its_link : IsReceiverEnd 0 1 LinkEnded None (Some hello) []
so_a_receiver_may_end_with_its_link = hello_is_a_whole_stream

-- but it is not done, since no call told so
it_is_not_done : IsReceiverEnd 0 1 Done None (Some hello) [] → ⊥
it_is_not_done is = is

it_never_ends_as_a_worker_without_a_thread : IsReceiverEnd 0 1 NoThread None (Some hello) [] → ⊥
it_never_ends_as_a_worker_without_a_thread is = absurd cc

-- if it is not done, one frame may be missing, and no more
a_frame_may_be_missing : IsAllButLast LinkFault (Go 1 ∷ []) (Go 1 ∷ Abort 1 ∷ [])
a_frame_may_be_missing = inr (Abort 1, refl)

none_may_be_missing_where_it_is_done : IsAllButLast Done [] (Go 1 ∷ []) → ⊥
none_may_be_missing_where_it_is_done is = absurd cc
