use denote.Param.{param}
use denote.Param.Send.{IsSend, sendable}
use Rattle.std.proofs.Crossing.{crosses}
use Rattle.rvm_move.specs.contracts.hosts.HostEnd as HostEnd
use Rattle.rvm_move.proofs.CommandSends.{end_send}
use Rattle.rvm_move.proofs.move_over.give_back.Goals as goal

pub spawn-requires-send-F : goal.spawn-requires-send-F
spawn-requires-send-F g c κs =
    let end : IsSend (HostEnd.the_row (param 0 g.row.M) g.M.Memory) = end_send (param 0 g.row.M) g.M.Memory c.type_bounds.send-M in
    search (sendable, crosses) depth 20
