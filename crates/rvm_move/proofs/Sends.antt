-- What is handed to a thread of a move may go there.
use denote.RattleType.{RattleType}
use denote.Param.Send.{IsSend, sendable}
use denote.Struct.Tuple.{TupleAt}
use mathlib.Core.List.{[], ◌∷◌}
use mir.Syntax.{Sym}
use Rattle.std.proofs.Crossing.{crosses}
use Rattle.std.specs.declared.sync.ledger.Ledger as Ledger
use Rattle.rvm_recorder.specs.declared.seat.Seating as Seating
use Rattle.rvm_recorder.specs.contracts.seat.Seat as Seat
use Rattle.rvm_recorder.proofs.SharedSends.{seat_send}
use Rattle.rvm_move.specs.contracts.threads.Taken as Taken
use Rattle.rvm_move.specs.contracts.threads.TakenAtA as TakenAtA
use Rattle.rvm_move.specs.contracts.threads.TakenAtB as TakenAtB

-- a tuple, or what a closure takes, may go where each part may
pub two_send : (name : Sym) (A B : RattleType) → IsSend A → IsSend B → IsSend (TupleAt name (A ∷ B ∷ []))
two_send name A B a b = search (sendable, crosses) depth 40 fits 10000

pub six_send : (name : Sym) (A B C D E F : RattleType)
    → IsSend A → IsSend B → IsSend C → IsSend D → IsSend E → IsSend F
    → IsSend (TupleAt name (A ∷ B ∷ C ∷ D ∷ E ∷ F ∷ []))
six_send name A B C D E F a b c d e f = search (sendable, crosses) depth 40 fits 10000

pub taken_at_a_send : (L K : RattleType) (g : Seating.Ghosts L.Denot) (h : Ledger.Ghosts L.Denot)
    → IsSend K → IsSend (TakenAtA.the_row L K g h)
taken_at_a_send L K g h link =
    let seat : IsSend (Seat.the_row L g h) = seat_send L g h in
    search (sendable, crosses) depth 40 fits 10000

pub taken_at_b_send : (N K : RattleType) (i : Seating.Ghosts N.Denot) (j : Ledger.Ghosts N.Denot)
    → IsSend K → IsSend (TakenAtB.the_row N K i j)
taken_at_b_send N K i j link =
    let seat : IsSend (Seat.the_row N i j) = seat_send N i j in
    search (sendable, crosses) depth 40 fits 10000

pub taken_send : (L N K : RattleType) (g : Seating.Ghosts L.Denot) (h : Ledger.Ghosts L.Denot)
    (i : Seating.Ghosts N.Denot) (j : Ledger.Ghosts N.Denot)
    → IsSend K → IsSend (Taken.the_row L N K g h i j)
taken_send L N K g h i j link =
    let at_a : IsSend (TakenAtA.the_row L K g h) = taken_at_a_send L K g h link in
    let at_b : IsSend (TakenAtB.the_row N K i j) = taken_at_b_send N K i j link in
    let seat_a : IsSend (Seat.the_row L g h) = seat_send L g h in
    let seat_b : IsSend (Seat.the_row N i j) = seat_send N i j in
    search (sendable, crosses) depth 60 fits 40000
