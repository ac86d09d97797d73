use Rattle.std.proofs.Crossing.{send}
use denote.Param.{param}
use denote.Param.Send.{IsSync, IsSend, sendable}
use Rattle.rvm_recorder.specs.contracts.shared.SharedHost as SharedHost
use Rattle.rvm_recorder.proofs.SharedSends.{shared_sync}
use Rattle.rvm_link.specs.contracts.outgoing.Outgoing as Outgoing
use Rattle.rvm_link.proofs.Sends.{outgoing_sync}
use Rattle.rvm_move.specs.contracts.threads.Taken as Taken
use Rattle.rvm_move.proofs.Sends.{six_send, taken_send, two_send}
use Rattle.rvm_move.proofs.threads.work.Goals as goal

pub beside-carried-requires-send-F : goal.beside-carried-requires-send-F
beside-carried-requires-send-F g c κs within =
    let host_a : IsSync (SharedHost.the_row (param 0 g.row.L) (param 2 g.row.M) g.L.Seating g.L.Ledger g.M.Memory) =
    shared_sync (param 0 g.row.L) (param 2 g.row.M) g.L.Seating g.L.Ledger g.M.Memory c.type_bounds.send-M in
    let host_b : IsSync (SharedHost.the_row (param 1 g.row.N) (param 2 g.row.M) g.N.Seating g.N.Ledger g.M.Memory) =
    shared_sync (param 1 g.row.N) (param 2 g.row.M) g.N.Seating g.N.Ledger g.M.Memory c.type_bounds.send-M in
    let outgoing : IsSync (Outgoing.the_row (param 3 g.row.K)) = outgoing_sync (param 3 g.row.K) c.type_bounds.send-K in
    let taken : IsSend (Taken.the_row (param 0 g.row.L) (param 1 g.row.N) (param 3 g.row.K)
    g.L.Seating g.L.Ledger g.N.Seating g.N.Ledger) =
    taken_send (param 0 g.row.L) (param 1 g.row.N) (param 3 g.row.K)
    g.L.Seating g.L.Ledger g.N.Seating g.N.Ledger c.type_bounds.send-K in
    let heap = send in
    let gate = c.type_bounds.sync-G in
    let rt = c.type_bounds.sync-R in
    search (six_send, two_send, sendable) depth 20
