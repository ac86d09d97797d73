-- What a look at the guest of a host gives.
use Rattle.std.specs.Prelude.{Result, Ok, Err}
use Rattle.rvm_board.specs.declared.event.BoardEvent.{BoardEvent}
use Rattle.rvm_board.specs.declared.event.BoardReply.{BoardReply}
use Rattle.rvm_board.specs.Guest.{Guest}
use Rattle.rvm_guest.specs.TheGuest.{board}
use Rattle.rvm_host.specs.Modes.{PlainMode, Empty, Run, Leaving, Given, Staging, Held}
use Rattle.rvm_message.specs.declared.reply.HostRefusal.{HostRefusal}
use Rattle.rvm_message.specs.declared.reply.HostRefusal.TheVariants.{NotHere, Paused}
use Rattle.rvm_message.specs.Replies.{refusal_of}
use Rattle.rvm_protocol.specs.Replies.{Answered, Refused, Reply}
use Rattle.rvm_source.specs.Looks.{source_asked}

-- the guest to which a host gives events, or why it refuses them
abbrev pub asked_guest : PlainMode → Result Guest HostRefusal
asked_guest (Empty k) = Err NotHere
asked_guest (Run k g) = Ok g
asked_guest (Leaving s) = source_asked s
asked_guest (Given k g) = Err NotHere
asked_guest (Staging k s) = Err NotHere
asked_guest (Held k g) = Err Paused

-- the reply to an event that comes to this guest, or is refused for this reason
abbrev pub reply_by : Result Guest HostRefusal → BoardEvent → Reply BoardReply
reply_by (Ok g) e = Answered (board.answer g e)
reply_by (Err why) e = Refused (refusal_of why)
