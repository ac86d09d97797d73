-- The replies of a host to its events.
use Rattle.std.specs.Prelude.{ℕ}

-- why an event was refused
pub data Refusal : Type 0 where
  -- a policy out of its limits
  BadSize : Refusal
  -- a state that does not fit its offer, or that no guest has
  BadState : Refusal
  -- no copy number is left in this move
  SeqSpent : Refusal
  -- no guest is here
  NotHere : Refusal
  -- the guest is paused here
  Paused : Refusal
  -- a move is going on
  Busy : Refusal
  -- no move is going on
  NoMove : Refusal
  -- no move number is left
  EpochsSpent : Refusal
  -- a frame that this host does not wait for
  Ignored : Refusal
  -- no such frame was sent
  NoFrame : Refusal
  -- no such other host
  BadHost : Refusal

-- the reply of a host: the guest's answer to its event, or how a move goes on
pub data Reply (A : Type 0) : Type 0 where
  -- the guest's answer to an event of its own
  Answered : (answer : A) → Reply A
  -- replies to commands of a move
  Begun : (move : ℕ) → Reply A
  Copied : (page number : ℕ) → Reply A
  RoundEnded : (round sent skipped left : ℕ) → Reply A
  Stopping : Reply A
  StateSent : Reply A
  PartSent : (part parts : ℕ) → Reply A
  Resent : Reply A
  Aborted : Reply A
  -- replies to frames, at the source
  Open : Reply A
  MoveDeclined : (limit : ℕ) → Reply A
  Fixing : (count : ℕ) → Reply A
  Committed : (move : ℕ) → Reply A
  Finished : Reply A
  -- replies to frames, at the target
  Accepted : Reply A
  Declined : (limit : ℕ) → Reply A
  Stored : (page number : ℕ) → Reply A
  Noted : Reply A
  Kept : (part parts : ℕ) → Reply A
  Lacking : (count : ℕ) → Reply A
  ReadySent : Reply A
  StartedHere : Reply A
  Dropped : Reply A
  Refused : (why : Refusal) → Reply A
