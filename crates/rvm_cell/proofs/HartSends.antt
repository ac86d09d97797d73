-- What the hart worker gives back may go to any thread.
use denote.RattleType.{RattleType}
use denote.Param.Send.{IsSend, sendable}
use Rattle.std.proofs.Crossing.{crosses}
use Rattle.std.specs.declared.sync.ledger.Ledger as Ledger
use Rattle.rvm_recorder.specs.declared.seat.Seating as Seating
use Rattle.rvm_recorder.specs.contracts.seat.Seat as Seat
use Rattle.rvm_recorder.proofs.SharedSends.{seat_send, item_send}
use Rattle.rvm_cell.specs.contracts.harts.HartsWorked as HartsWorked

pub harts_worked_send : (A B : RattleType) (a : Seating.Ghosts A.Denot) (k : Ledger.Ghosts A.Denot)
    (b : Seating.Ghosts B.Denot) (l : Ledger.Ghosts B.Denot) → IsSend (HartsWorked.the_row A B a k b l)
harts_worked_send A B a k b l =
    let at_a : IsSend (Seat.the_row A a k) = seat_send A a k in
    let at_b : IsSend (Seat.the_row B b l) = seat_send B b l in
    search (item_send, sendable, crosses) depth 40 fits 10000
