-- The turns of a guest that moves, and what was written of what it sent.
use Rattle.std.specs.Io.KnownBytes.{Appends}
use Rattle.std.specs.List.{All, filter, flat_map}
use Rattle.std.specs.Prelude.{◌≡◌, ◌≢◌, ℕ, true, List, map, Option, None, Result, Err, is_ok}
use Rattle.rvm_recorder.specs.declared.closing.CloseKind.{CloseKind}
use Rattle.rvm_recorder.specs.Receipts.{PlainReceipt}
use Rattle.rvm_recorder.specs.Seats.{PlainSeat}
use Rattle.rvm_cell.specs.Calls.{Call, EndsDry, bytes_in, event_in, in_a, in_b, is_of_run, marks_in}
use Rattle.rvm_cell.specs.Turns.{AreTurns}
use Rattle.rvm_cell.specs.declared.harts.TurnsEnd.{TurnsEnd}
use Rattle.rvm_recorder.specs.Entries.{PlainEntry, exchange_of}
use Rattle.rvm_recorder.specs.History.{is_board}
use Rattle.rvm_message.specs.Exchanges.{PlainExchange, exchange}
use Rattle.rvm_move.specs.declared.ends.Ends.{Ends}
use Rattle.rvm_cell.specs.Work.{IsWork}
use Rattle.rvm_cell.specs.declared.end.WorkEnd.{WorkEnd}
use Rattle.rvm_cell.specs.declared.end.WorkEnd.TheVariants.{LinkFault}

-- the events of the guest in a journal, and the replies to them
abbrev pub of_guest : List PlainEntry → List PlainExchange
of_guest entries = map exchange_of (filter (λ e. is_board e.event) entries)

-- the events of the guest among calls, and the replies to them, by the receipts
abbrev pub called_of_guest : List PlainReceipt → List PlainExchange
called_of_guest receipts = map (λ r. exchange r.event r.reply) (filter (λ r. is_board r.event) receipts)

-- the receipts of calls of one seat, in order
pub record AreOfOne (receipts : List PlainReceipt) : Type 0 where
  pub first : PlainSeat
  pub last : PlainSeat
  pub work : IsWork first last receipts

-- the events of the guest in two journals are calls in one sequence, steps and drains alone: the steps are the turns of
-- a run that ended so, with a drain that found nothing after each 64th turn and at the end; what was written are the
-- bytes that the drains told, in that order; if the run came to its end, the last call is a drain that found nothing
pub record IsRunOf (first second : List PlainEntry) (before after : Option (List ℕ)) (harts steps : ℕ)
    (end : Result TurnsEnd WorkEnd) : Type 0 where
  pub calls : List Call
  pub of_first : of_guest first ≡ called_of_guest (flat_map in_a calls)
  pub of_second : of_guest second ≡ called_of_guest (flat_map in_b calls)
  pub only : All (λ c. is_of_run (event_in c) ≡ true) calls
  pub turned : AreTurns harts steps end (flat_map marks_in calls)
  pub written : Appends before after (flat_map bytes_in calls)
  pub ends : is_ok end ≡ true → EndsDry calls

-- if both hosts were closed and the writer did not fail, the events of the guest in both journals are such a run
abbrev pub IsEndRun : Ends → (a b : Option CloseKind) → (first second : List PlainEntry)
    → (before after : Option (List ℕ)) → (harts steps : ℕ) → Type 0
IsEndRun ends a b first second before after harts steps =
    ends.harts ≢ Err LinkFault → a ≡ None → b ≡ None → IsRunOf first second before after harts steps ends.harts
