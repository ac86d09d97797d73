-- With which ends of its workers a move fails, and which replies tell that it is over.
use Rattle.std.specs.List.{All}
use Rattle.std.specs.Prelude.{◌≡◌, Bool, true, false, ◌||◌, List, Option, None, Some, Result, Ok, Err, Any, if◌then◌else◌}
use Rattle.rvm_recorder.specs.declared.closing.CloseKind.{CloseKind}
use Rattle.rvm_recorder.specs.declared.closing.CloseKind.TheVariants.{OutOfMemory}
use Rattle.rvm_cell.specs.Calls.{is_of_run}
use Rattle.rvm_cell.specs.declared.harts.TurnsEnd.{TurnsEnd}
use Rattle.rvm_recorder.specs.Entries.{PlainEntry, exchange_of}
use Rattle.rvm_message.specs.Exchanges.{PlainExchange}
use Rattle.rvm_cell.specs.declared.end.WorkEnd.{WorkEnd}
use Rattle.rvm_cell.specs.declared.end.WorkEnd.TheVariants as e
use Rattle.rvm_cell.specs.Endings.{is_uncalled, tells_done, tells_given_up, tells_left}
use Rattle.rvm_cell.specs.Heard.{ends_receiver}
use Rattle.rvm_cell.specs.Next.{ends_hearing}
use Rattle.rvm_move.specs.declared.ends.Ends.{Ends}

-- the end with which a move fails: of its turns, if they did not come to their end, else `rest`
abbrev pub failure_of_turns : Result TurnsEnd WorkEnd → Option WorkEnd → Option WorkEnd
failure_of_turns (Ok end) rest = rest
failure_of_turns (Err end) rest = Some end

-- a move fails with this end of its copier: any but with the move, done or given up
abbrev pub fails_copying : WorkEnd → Bool
fails_copying e.Done = false
fails_copying e.GivenUp = false
fails_copying end = true

-- a move fails with this end of a receiver: out of memory, with a full journal, without a thread, or stopped at its
-- gate; a receiver may end with its link
abbrev pub fails_hearing : WorkEnd → Bool
fails_hearing e.OutOfMemory = true
fails_hearing (e.RecorderFull n) = true
fails_hearing e.Stopped = true
fails_hearing e.NoThread = true
fails_hearing end = false

-- the first end with which a move fails: of the turns, the copier, the receiver at A, the receiver at B
abbrev pub failure : Ends → Option WorkEnd
failure ends =
    failure_of_turns ends.harts
    (if fails_copying ends.copier then Some ends.copier
    else (if fails_hearing ends.receiver_a then Some ends.receiver_a
    else (if fails_hearing ends.receiver_b then Some ends.receiver_b else None)))

-- a reply tells that the move is over at its host: no move is left there, or it was given up while the guest was not
-- gone
abbrev pub tells_end : PlainExchange → Bool
tells_end x = tells_done x || tells_given_up x

-- an entry of a journal tells that the move is over at its host
abbrev pub TellsEnd : List PlainEntry → Type 0
TellsEnd entries = Any (λ e. tells_end (exchange_of e) ≡ true) entries

-- the journal of the copier's host has a reply that tells how the copier ended; or it ended without a call
abbrev pub IsCopiedEnd : WorkEnd → List PlainEntry → Type 0
IsCopiedEnd e.Done entries = Any (λ x. tells_done (exchange_of x) ≡ true) entries
IsCopiedEnd e.GivenUp entries = Any (λ x. tells_given_up (exchange_of x) ≡ true) entries
IsCopiedEnd e.LinkFault entries = Any (λ x. tells_left (exchange_of x) ≡ true) entries
IsCopiedEnd end entries = is_uncalled end ≡ true

-- the journal of a receiver's host tells how the receiver ended: it is done only if a reply tells that the move is
-- over, and had no thread only if nothing but turns and drains of the guest was asked
abbrev pub IsHeardEnd : WorkEnd → List PlainEntry → Type 0
IsHeardEnd e.Done entries = Any (λ x. ends_hearing x.reply ≡ true) entries
IsHeardEnd e.NoThread entries = All (λ x. is_of_run x.event ≡ true) entries
IsHeardEnd end entries = ends_receiver end ≡ true

-- why a host was not closed, if it was not: out of memory if something was not given back, else the fault of `close`
abbrev pub first_fault : (is_whole : Bool) → Option CloseKind → Option CloseKind
first_fault true fault = fault
first_fault false fault = Some OutOfMemory
