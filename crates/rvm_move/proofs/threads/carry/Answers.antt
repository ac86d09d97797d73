use Rattle.std.proofs.Crossing.{crosses, send}
use denote.Param.{param}
use denote.Param.Send.{IsSync, IsSend, sendable}
use Rattle.rvm_recorder.specs.contracts.shared.SharedHost as SharedHost
use Rattle.rvm_recorder.proofs.SharedSends.{shared_sync}
use Rattle.rvm_link.specs.contracts.outgoing.Outgoing as Outgoing
use Rattle.rvm_link.proofs.Sends.{outgoing_sync}
use Rattle.rvm_move.specs.contracts.threads.TakenAtA as TakenAtA
use Rattle.rvm_move.proofs.Sends.{taken_at_a_send}
use Rattle.rvm_move.proofs.threads.carry.Goals as goal

pub join-copier-requires-send-F : goal.join-copier-requires-send-F
join-copier-requires-send-F g c κs within =
    let host : IsSync (SharedHost.the_row (param 0 g.row.L) (param 2 g.row.M) g.L.Seating g.L.Ledger g.M.Memory) =
    shared_sync (param 0 g.row.L) (param 2 g.row.M) g.L.Seating g.L.Ledger g.M.Memory c.type_bounds.send-M in
    let outgoing : IsSync (Outgoing.the_row (param 3 g.row.K)) = outgoing_sync (param 3 g.row.K) c.type_bounds.send-K in
    let taken : IsSend (TakenAtA.the_row (param 0 g.row.L) (param 3 g.row.K) g.L.Seating g.L.Ledger) =
    taken_at_a_send (param 0 g.row.L) (param 3 g.row.K) g.L.Seating g.L.Ledger c.type_bounds.send-K in
    let heap = send in
    let gate = c.type_bounds.sync-G in
    let rt = c.type_bounds.sync-R in
    search (sendable, crosses) depth 40 fits 20000
