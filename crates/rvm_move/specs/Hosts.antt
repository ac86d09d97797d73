-- What is asked of the two hosts of a move.
use Rattle.std.specs.List.{All}
use Rattle.std.specs.Prelude.{◌≡◌, ◌⊎◌, ℕ, true, List, [], Option, None}
use Rattle.rvm_recorder.specs.Closing.{IsClosed}
use Rattle.rvm_recorder.specs.Receipts.{PlainReceipt}
use Rattle.rvm_recorder.specs.Seats.{PlainSeat}
use Rattle.rvm_recorder.specs.declared.closing.CloseKind.{CloseKind}
use Rattle.rvm_cell.specs.Calls.{is_of_run}
use Rattle.rvm_recorder.specs.Entries.{PlainEntry}
use Rattle.rvm_message.specs.declared.event.HostEvent.{HostEvent}
use Rattle.rvm_precopy.specs.declared.policy.Policy.{Policy}
use Rattle.rvm_move.specs.declared.ends.Ends.{Ends}
use Rattle.rvm_move.specs.Ends.{IsCopiedEnd, IsHeardEnd}
use Rattle.rvm_cell.specs.declared.end.WorkEnd.{WorkEnd}
use Rattle.rvm_cell.specs.declared.end.WorkEnd.TheVariants.{NoThread}
use Rattle.rvm_cell.specs.Copiers.{IsCopied}
use Rattle.rvm_cell.specs.Heard.{IsReceived}
use Rattle.rvm_cell.specs.Work.{IsOfReceiver}
use Rattle.rvm_station.specs.Movers.{IsOfCopier}

-- with some seats, these receipts account for all entries of a journal
pub record AreAll (entries : List PlainEntry) (receipts : List PlainReceipt) : Type 0 where
  pub seats : List PlainSeat
  pub closed : IsClosed entries seats receipts

-- what the receiver at host 1 leaves: the workers that it is to hear had no thread, and nothing came; or it heard host
-- 0
abbrev pub IsReceivedAtB : (bytes : Option (List ℕ)) → WorkEnd → List PlainReceipt → Type 0
IsReceivedAtB bytes end receipts = ((end ≡ NoThread) × (receipts ≡ [])) ⊎ IsReceived 0 1 bytes end receipts

-- the calls of the workers that move a guest from host 0 to host 1, and how each worker ended; their links were to give
-- these bytes
pub record AreCarried (policy : Policy) (bytes_a bytes_b : Option (List ℕ)) (copied ended_a ended_b : WorkEnd)
    (copier receiver_a receiver_b : List PlainReceipt) : Type 0 where
  pub of_copier : IsCopied 1 policy copied copier
  pub of_first : IsReceived 1 0 bytes_a ended_a receiver_a
  pub of_second : IsReceivedAtB bytes_b ended_b receiver_b

-- what is asked of host 0: a turn or a drain of its guest, the guest's move to host 1 with this policy, or a frame from
-- there
abbrev pub IsAskedOfFirst : Policy → HostEvent → Type 0
IsAskedOfFirst policy e = (is_of_run e ≡ true) ⊎ (IsOfCopier 1 policy e ⊎ IsOfReceiver 1 e)

-- what is asked of host 1: a turn or a drain of the guest, or a frame from host 0
abbrev pub IsAskedOfSecond : HostEvent → Type 0
IsAskedOfSecond e = (is_of_run e ≡ true) ⊎ IsOfReceiver 0 e

-- if a host was closed, nothing else was asked of it
abbrev pub IsEnd : (asked : HostEvent → Type 0) → (fault : Option CloseKind) → List PlainEntry → Type 0
IsEnd asked fault entries = fault ≡ None → All (λ e. asked e.event) entries

-- the first host at the end of a move, if it was closed: what was asked of it, and what its journal tells of the ends
-- of its copier and its receiver
pub record IsFirstEnd (policy : Policy) (ends : Ends) (fault : Option CloseKind) (entries : List PlainEntry) : Type 0 where
  pub asked : IsEnd (IsAskedOfFirst policy) fault entries
  pub copied : fault ≡ None → IsCopiedEnd ends.copier entries
  pub heard : fault ≡ None → IsHeardEnd ends.receiver_a entries

-- the second host at the end of a move, if it was closed: what was asked of it, and what its journal tells of the end
-- of its receiver
pub record IsSecondEnd (ends : Ends) (fault : Option CloseKind) (entries : List PlainEntry) : Type 0 where
  pub asked : IsEnd IsAskedOfSecond fault entries
  pub heard : fault ≡ None → IsHeardEnd ends.receiver_b entries
