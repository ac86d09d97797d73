-- Threads may share a host with its sending end, and what a worker gives back may go to any thread.
use denote.RattleType.{RattleType}
use denote.Param.Send.{IsSend, sendable}
use Rattle.std.proofs.Crossing.{crosses}
use Rattle.std.specs.declared.sync.ledger.Ledger as Ledger
use Rattle.rvm_recorder.specs.declared.seat.Seating as Seating
use Rattle.rvm_recorder.specs.contracts.seat.Seat as Seat
use Rattle.rvm_recorder.proofs.SharedSends.{item_send, seat_send}
use Rattle.rvm_cell.specs.contracts.end.Worked as Worked

pub worked_send : (L : RattleType) (g : Seating.Ghosts L.Denot) (h : Ledger.Ghosts L.Denot) → IsSend (Worked.the_row L g h)
worked_send L g h =
    let seat : IsSend (Seat.the_row L g h) = seat_send L g h in
    search (item_send, sendable, crosses) depth 40 fits 10000
