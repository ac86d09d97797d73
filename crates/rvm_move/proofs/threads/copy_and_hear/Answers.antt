use Rattle.std.proofs.Crossing.{send}
use denote.Param.{param}
use denote.Param.Send.{IsSync, IsSend, sendable}
use Rattle.rvm_recorder.specs.contracts.shared.SharedHost as SharedHost
use Rattle.rvm_recorder.specs.contracts.seat.Seat as Seat
use Rattle.rvm_recorder.proofs.SharedSends.{shared_sync, seat_send}
use Rattle.rvm_link.specs.contracts.outgoing.Outgoing as Outgoing
use Rattle.rvm_link.proofs.Sends.{outgoing_sync}
use Rattle.rvm_move.proofs.threads.copy_and_hear.Goals as goal

pub join-heard-requires-send-F : goal.join-heard-requires-send-F
join-heard-requires-send-F g c κs within =
    let host : IsSync (SharedHost.the_row (param 0 g.row.L) (param 1 g.row.M) g.L.Seating g.L.Ledger g.M.Memory) =
    shared_sync (param 0 g.row.L) (param 1 g.row.M) g.L.Seating g.L.Ledger g.M.Memory c.type_bounds.send-M in
    let outgoing : IsSync (Outgoing.the_row (param 2 g.row.K)) = outgoing_sync (param 2 g.row.K) c.type_bounds.send-K in
    let seat : IsSend (Seat.the_row (param 0 g.row.L) g.L.Seating g.L.Ledger) =
    seat_send (param 0 g.row.L) g.L.Seating g.L.Ledger in
    let heap = send in
    let link = c.type_bounds.send-K in
    let gate = c.type_bounds.sync-G in
    let rt = c.type_bounds.sync-R in
    search sendable depth 20
