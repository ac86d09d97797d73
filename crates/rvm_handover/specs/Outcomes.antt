-- The outcome of a frame at the target of a move, as the protocol of live migration has it, for the guest `board`.
use Rattle.std.specs.Prelude.{◌≡◌, ℕ, Bool, true, false, if◌then◌else◌, List, length, Option, None, is_some}
use Rattle.rvm_frame.specs.Bodies.{lost}
use Rattle.rvm_protocol.specs.Frames.{Lost, Ready}
use Rattle.rvm_protocol.specs.Modes.{Outcome, Held, Staging, says, sends, refuses, ignores}
use Rattle.rvm_protocol.specs.Replies as replies
use Rattle.rvm_protocol.specs.Replies.{Reply, Lacking, ReadySent, Refused, Stored}
use Rattle.rvm_board.specs.declared.event.BoardReply.{BoardReply}
use Rattle.rvm_board.specs.Guest.{Guest}
use Rattle.rvm_state.specs.declared.fault.StateFault.{StateFault}
use Rattle.rvm_state.specs.declared.fault.StateFault.TheVariants as faults
use Rattle.rvm_handover.specs.declared.not_ready.NotReady.{NotReady}
use Rattle.rvm_handover.specs.declared.not_ready.NotReady.TheVariants as reasons
use Rattle.rvm_handover.specs.Stages.{PlainStage, stage_of}

-- the outcome of a frame: a reply, a frame if one is made, and the mode after it
abbrev pub BoardOutcome : Type 0
BoardOutcome = Outcome Guest (List ℕ) BoardReply (List ℕ)

-- COPIES

-- the outcome of a copy of a page that was stored or ignored, and left this stage
abbrev pub copied : (move page number : ℕ) → (stored : Bool) → PlainStage → BoardOutcome
copied move page number stored s =
    if stored then says (Stored page number) (Staging move (stage_of s))
    else ignores (Staging move (stage_of s))

-- STATES

-- the outcome of a state with which the whole guest is here
abbrev pub ready : (move : ℕ) → Guest → BoardOutcome
ready move g = sends ReadySent (Ready move) (Held move g)

-- whether a state is refused as a bad one
abbrev pub is_bad : Reply BoardReply → Bool
is_bad (Refused replies.BadState) = true
is_bad reply = false

-- the outcome of a state that made no guest for this reason, and left this stage; if the state is bad, the reason is
-- not that memory ran out
abbrev pub IsLeft : (move : ℕ) → NotReady → PlainStage → BoardOutcome → Type 0
IsLeft move (reasons.Lacking pages) s o =
    o ≡ sends (Lacking (length pages)) (Lost move pages) (Staging move (stage_of s))
IsLeft move reasons.BadState s o = o ≡ refuses replies.BadState (Staging move (stage_of s))
IsLeft move reasons.OutOfMemory s o = is_bad o.reply ≡ false

-- the pages whose copies are missing fit in a Lost frame
abbrev pub CanBeTold : NotReady → Type 0
CanBeTold (reasons.Lacking pages) = lost.fits pages ≡ true
CanBeTold reason = Unit {0}

-- the fault of reading a state, as a reason
abbrev pub reason_of : StateFault → NotReady
reason_of faults.BadState = reasons.BadState
reason_of faults.OutOfMemory = reasons.OutOfMemory

-- the fault is right for a state that makes this guest, if any: a bad state makes none; if memory ran out, it makes
-- one
abbrev pub IsFault : StateFault → Option Guest → Type 0
IsFault faults.BadState made = made ≡ None
IsFault faults.OutOfMemory made = is_some made ≡ true
