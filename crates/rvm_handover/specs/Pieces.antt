-- The pieces of a state that are kept, and the outcome of one that comes.
use Rattle.std.specs.Prelude.{◌≡◌, ℕ, Bool, true, false, nat_lt, if◌then◌else◌, List, length, slice_set, replicate, Option, Some, None}
use Rattle.rvm_frame.specs.Bodies.{lost}
use Rattle.rvm_protocol.specs.Frames.{Lost}
use Rattle.rvm_protocol.specs.Modes.{Staging, says, sends, refuses, ignores}
use Rattle.rvm_protocol.specs.Replies as replies
use Rattle.rvm_protocol.specs.Replies.{Reply, Refused}
use Rattle.rvm_board.specs.declared.event.BoardReply.{BoardReply}
use Rattle.rvm_handover.specs.declared.not_joined.NotJoined.{NotJoined}
use Rattle.rvm_handover.specs.declared.not_joined.NotJoined.TheVariants as reasons
use Rattle.rvm_handover.specs.declared.not_ready.NotReady.{NotReady}
use Rattle.rvm_handover.specs.declared.not_ready.NotReady.TheVariants as ready
use Rattle.rvm_handover.specs.Outcomes.{BoardOutcome}
use Rattle.rvm_handover.specs.Stages.{PlainStage, stage_of}

-- the pieces that stay beside a new one: those that are kept, or none if its stamp is higher
abbrev pub pieces_before : (stamp : ℕ) → PlainStage → List (Option (List ℕ))
pieces_before stamp s = if nat_lt s.stamp stamp then replicate 6 None else s.pieces

-- a stage that keeps this piece too, with its stamp and its count of parts
abbrev pub with_piece : (stamp part parts : ℕ) → List ℕ → PlainStage → PlainStage
with_piece stamp part parts bytes s =
    record s { stamp = stamp; parts = parts; pieces = slice_set (pieces_before stamp s) part (Some bytes) }

-- the stage that is left for this reason: the one with the piece if the piece is kept, and else the one before
abbrev pub left_of : NotJoined → (kept before : PlainStage) → PlainStage
left_of reasons.Ignored kept before = before
left_of reasons.Kept kept before = kept
left_of (reasons.Lacking pages) kept before = kept
left_of reasons.BadState kept before = before
left_of reasons.OutOfMemory kept before = before

-- whether a piece is ignored, or kept while others are missing
abbrev pub is_partial : Reply BoardReply → Bool
is_partial (Refused replies.Ignored) = true
is_partial (replies.Kept part parts) = true
is_partial reply = false

-- the outcome of a piece that made no guest for this reason, and left this stage; the reason is that memory ran out
-- only if with this piece all are there
abbrev pub IsPartLeft : (move part parts : ℕ) → NotJoined → PlainStage → BoardOutcome → Type 0
IsPartLeft move part parts reasons.Ignored s o = o ≡ ignores (Staging move (stage_of s))
IsPartLeft move part parts reasons.Kept s o = o ≡ says (replies.Kept part parts) (Staging move (stage_of s))
IsPartLeft move part parts (reasons.Lacking pages) s o =
    o ≡ sends (replies.Lacking (length pages)) (Lost move pages) (Staging move (stage_of s))
IsPartLeft move part parts reasons.BadState s o = o ≡ refuses replies.BadState (Staging move (stage_of s))
IsPartLeft move part parts reasons.OutOfMemory s o = is_partial o.reply ≡ false

-- the pages whose copies are missing fit in a Lost frame
abbrev pub PartCanBeTold : NotJoined → Type 0
PartCanBeTold (reasons.Lacking pages) = lost.fits pages ≡ true
PartCanBeTold reason = Unit {0}

-- the reason of a state, as a reason of the last of its pieces
abbrev pub reason_joined : NotReady → NotJoined
reason_joined (ready.Lacking pages) = reasons.Lacking pages
reason_joined ready.BadState = reasons.BadState
reason_joined ready.OutOfMemory = reasons.OutOfMemory
