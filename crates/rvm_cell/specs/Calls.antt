-- What the calls of a worker at two hosts told it, and which turns they made.
use Rattle.std.specs.Prelude.{◌≡◌, ◌≢◌, ℕ, Bool, true, false, ◌==◌, List, [], ◌∷◌, ◌++◌, Option, Result, Err, is_ok}
use Rattle.std.specs.Io.KnownBytes.{Appends}
use Rattle.std.specs.List.{All, flat_map}
use Rattle.rvm_recorder.specs.Receipts.{PlainReceipt}
use Rattle.rvm_board.specs.declared.event.BoardEvent.TheVariants as asked
use Rattle.rvm_message.specs.declared.event.Command.TheVariants as command
use Rattle.rvm_message.specs.declared.event.HostEvent.{HostEvent}
use Rattle.rvm_message.specs.declared.event.HostEvent.TheVariants as event
use Rattle.rvm_message.specs.declared.reply.HostReply.{HostReply}
use Rattle.rvm_cell.specs.Work.{PlainCaller}
use Rattle.rvm_cell.specs.declared.harts.TurnsEnd.{TurnsEnd}
use Rattle.rvm_cell.specs.Drains.{bytes_told, found_nothing}
use Rattle.rvm_cell.specs.Turns.{AreTurns, Mark, mark_made}
use Rattle.rvm_cell.specs.declared.end.WorkEnd.{WorkEnd}
use Rattle.rvm_cell.specs.declared.end.WorkEnd.TheVariants.{LinkFault}

-- a call at the first host or at the second one, by its receipt
pub data Call : Type 0 where
  AtA : PlainReceipt → Call
  AtB : PlainReceipt → Call

-- the receipt of a call, if it was made at the first host
abbrev pub in_a : Call → List PlainReceipt
in_a (AtA r) = r ∷ []
in_a (AtB r) = []

-- the receipt of a call, if it was made at the second host
abbrev pub in_b : Call → List PlainReceipt
in_b (AtA r) = []
in_b (AtB r) = r ∷ []

-- the bytes that the reply to an event tells, if the event was a drain
abbrev pub drained_by : HostEvent → HostReply → List ℕ
drained_by (event.Do (command.Board (asked.Drain n))) r = bytes_told r
drained_by e r = []

-- the bytes that the reply to a call tells, if the call was a drain
abbrev pub bytes_in : Call → List ℕ
bytes_in (AtA r) = drained_by r.event r.reply
bytes_in (AtB r) = drained_by r.event r.reply

-- the turn that a call made, or that it was a drain that found nothing, if one of the two is so
abbrev pub marks_in : Call → List Mark
marks_in (AtA r) = mark_made r.event r.reply
marks_in (AtB r) = mark_made r.event r.reply

-- the event of a call
abbrev pub event_in : Call → HostEvent
event_in (AtA r) = r.event
event_in (AtB r) = r.event

-- an event by which a run goes on: a hart steps, or up to 256 bytes are drained
abbrev pub is_of_run : HostEvent → Bool
is_of_run (event.Do (command.Board (asked.Step hart))) = true
is_of_run (event.Do (command.Board (asked.Drain n))) = n == 256
is_of_run e = false

-- a call was a drain of up to 256 bytes that found nothing
abbrev pub is_dry : Call → Bool
is_dry (AtA r) = found_nothing r.event r.reply
is_dry (AtB r) = found_nothing r.event r.reply

-- the last of these calls was a drain of up to 256 bytes that found nothing
pub record EndsDry (calls : List Call) : Type 0 where
  pub before : List Call
  pub last : Call
  pub is_last : calls ≡ before ++ last ∷ []
  pub dry : is_dry last ≡ true

-- a caller at each of two hosts made calls, none but steps and drains: the drains told these bytes, and the calls left
-- these turns and drains that found nothing; if `dry`, the last call found nothing
pub record Made (old new : PlainCaller × PlainCaller) (bytes : List ℕ) (marks : List Mark) (dry : Bool) : Type 0 where
  pub calls : List Call
  pub start_a : new.0.start ≡ old.0.start
  pub start_b : new.1.start ≡ old.1.start
  pub at_a : new.0.receipts ≡ old.0.receipts ++ flat_map in_a calls
  pub at_b : new.1.receipts ≡ old.1.receipts ++ flat_map in_b calls
  pub only : All (λ c. is_of_run (event_in c) ≡ true) calls
  pub told : flat_map bytes_in calls ≡ bytes
  pub turned : flat_map marks_in calls ≡ marks
  pub ends : dry ≡ true → EndsDry calls

-- calls were made, and a writer was given the bytes that their drains told, unless it failed
pub record Written (old new : PlainCaller × PlainCaller) (before after : Option (List ℕ)) (works : Type 0)
    (marks : List Mark) (dry : Bool) : Type 0 where
  pub bytes : List ℕ
  pub made : Made old new bytes marks dry
  pub written : works → Appends before after bytes

-- the calls of a run that ended so were made, and a writer was given the bytes that their drains told, unless it failed
pub record HasRun (old new : PlainCaller × PlainCaller) (before after : Option (List ℕ)) (harts steps : ℕ)
    (end : Result TurnsEnd WorkEnd) : Type 0 where
  pub marks : List Mark
  pub are : AreTurns harts steps end marks
  pub written : Written old new before after (end ≢ Err LinkFault) marks (is_ok end)

-- the receipts at two hosts are those of a run's calls, none but steps and drains, in an order in which the steps are
-- the turns of the run, with a drain that found nothing after each 64th turn and at the end; a writer was given the
-- bytes that the drains told, unless it failed; if the run came to its end, the last call is a drain that found nothing
pub record IsRun (at_a at_b : List PlainReceipt) (before after : Option (List ℕ)) (works : Type 0) (harts steps : ℕ)
    (end : Result TurnsEnd WorkEnd) : Type 0 where
  pub calls : List Call
  pub first : at_a ≡ flat_map in_a calls
  pub second : at_b ≡ flat_map in_b calls
  pub only : All (λ c. is_of_run (event_in c) ≡ true) calls
  pub turned : AreTurns harts steps end (flat_map marks_in calls)
  pub written : works → Appends before after (flat_map bytes_in calls)
  pub ends : is_ok end ≡ true → EndsDry calls
