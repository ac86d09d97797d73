-- What operators are told of looks at the guest.
use Rattle.std.specs.Io.KnownBytes.{Appends}
use Rattle.std.specs.Prelude.{◌≡◌, ℕ, ◌==◌, ◌&&◌, nat_lt, List, ◌∷◌, ◌++◌, codes, length, Option, None, Some, Result, Ok, Err, if◌then◌else◌}
use Rattle.rvm_board.specs.Guest.{Guest}
use Rattle.rvm_board.specs.State.{state_of}
use Rattle.rvm_command.specs.declared.extended_line.ExtendedLine.{ExtendedLine}
use Rattle.rvm_command.specs.declared.extended_line.ExtendedLine.TheVariants as further
use Rattle.rvm_command.specs.ExtendedAnswers.{csrs_answer, devices_text}
use Rattle.rvm_core.specs.Replies.{guest_text}
use Rattle.rvm_host_command.specs.declared.answers.Outcome.{Outcome}
use Rattle.rvm_host_command.specs.declared.answers.Outcome.TheVariants.{Done, Refused}
use Rattle.rvm_message.specs.declared.reply.HostRefusal.{HostRefusal}
use Rattle.rvm_message.specs.declared.reply.HostReply.TheVariants as reply
use Rattle.rvm_message.specs.Replies.{reply_of}
use Rattle.rvm_refusal.specs.declared.refusal.Refusal.TheVariants.{BadToken}
use Rattle.rvm_refusal.specs.Refusal.{text_of}

-- a line that begins with this letter of a host and a space, without both; each other line as it is
abbrev pub unlettered : (letter : ℕ) → List ℕ → List ℕ
unlettered letter (b ∷ c ∷ bytes) = if b == letter && c == 32 then bytes else b ∷ c ∷ bytes
unlettered letter bytes = bytes

-- what is written of an event of the guest that is refused, and of a look
abbrev pub refusal_text : HostRefusal → List ℕ
refusal_text why = guest_text None (reply_of (reply.Refused why))

-- the registers of hart h of the guest, or why the host shows none
abbrev pub csrs_told : (h : ℕ) → Result Guest HostRefusal → List ℕ
csrs_told h (Ok g) = csrs_answer h g
csrs_told h (Err why) = refusal_text why

-- whether the registers of hart h were shown: the host shows its guest, which has that hart
abbrev pub csrs_outcome : (h : ℕ) → Result Guest HostRefusal → Outcome
csrs_outcome h (Ok g) = if nat_lt h (length g.board.harts) then Done else Refused
csrs_outcome h (Err why) = Refused

-- what the devices of the guest keep, or why the host shows nothing
abbrev pub devices_told : Result Guest HostRefusal → List ℕ
devices_told (Ok g) = devices_text (state_of g)
devices_told (Err why) = refusal_text why

-- whether it was shown
abbrev pub devices_outcome : Result Guest HostRefusal → Outcome
devices_outcome (Ok g) = Done
devices_outcome (Err why) = Refused

-- the host showed its guest, or refused to; the text of that was written, and the outcome is that of what it showed
pub record IsShownTold (showed : Result Guest HostRefusal → Type 0) (text : Result Guest HostRefusal → List ℕ)
    (end : Result Guest HostRefusal → Outcome) (outcome : Outcome) (before now : Option (List ℕ)) : Type 0 where
  pub guest : Result Guest HostRefusal
  pub shown : showed guest
  pub written : Appends before now (text guest)
  pub ended : outcome ≡ end guest

-- what is told of `csrs H`
abbrev pub AreCsrsTold : (showed : Result Guest HostRefusal → Type 0) → (h : ℕ) → Outcome → (before now : Option (List ℕ)) → Type 0
AreCsrsTold showed h outcome before now = IsShownTold showed (csrs_told h) (csrs_outcome h) outcome before now

-- what is told of `devices`
abbrev pub AreDevicesTold : (showed : Result Guest HostRefusal → Type 0) → Outcome → (before now : Option (List ℕ)) → Type 0
AreDevicesTold showed outcome before now = IsShownTold showed devices_told devices_outcome outcome before now

-- the line is not one that a host is told, and that was written
abbrev pub IsBadToken : Outcome → (before now : Option (List ℕ)) → Type 0
IsBadToken outcome before now = (outcome ≡ Refused) × Appends before now (text_of BadToken ++ codes "\n")

-- what is told of a line that is none of a script, by what it asks for in an extended session
abbrev pub IsFurtherTold : (showed : Result Guest HostRefusal → Type 0) → Option ExtendedLine → Outcome → (before now : Option (List ℕ)) → Type 0
IsFurtherTold showed (Some (further.Csrs h)) outcome before now = AreCsrsTold showed h outcome before now
IsFurtherTold showed (Some further.Devices) outcome before now = AreDevicesTold showed outcome before now
IsFurtherTold showed line outcome before now = IsBadToken outcome before now
