-- What is reported of the replies in a journal.
use Rattle.std.specs.Prelude.{ℕ, List, [], None, if◌then◌else◌}
use Rattle.std.specs.List.{flat_map}
use Rattle.rvm_recorder.specs.Entries.{PlainEntry}
use Rattle.rvm_recorder.specs.History.{is_board}
use Rattle.rvm_message.specs.declared.event.HostEvent.{HostEvent}
use Rattle.rvm_message.specs.declared.reply.HostReply.{HostReply}
use Rattle.rvm_message.specs.Replies.{reply_of}
use Rattle.rvm_core.specs.Replies.{move_text}

-- the line of the reply to a command of a move or to a frame; nothing for the guest's own events
abbrev pub reply_text : HostEvent → HostReply → List ℕ
reply_text event reply = if is_board event then [] else move_text (reply_of reply) None

-- the line of the reply in an entry; nothing if its event is the guest's own
abbrev pub answer_text : PlainEntry → List ℕ
answer_text e = reply_text e.event e.reply

-- the lines of the replies in a journal, in order
abbrev pub answers_text : List PlainEntry → List ℕ
answers_text = flat_map answer_text
