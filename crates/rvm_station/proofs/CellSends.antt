-- Threads may share a host under its lock, if its memory and its log may go to any thread.
use denote.RattleType.{RattleType}
use denote.Param.Send.{IsSend, IsSync, sendable}
use Rattle.std.proofs.Crossing.{crosses}
use Rattle.rvm_mem.specs.declared.memory.Memory as Memory
use Rattle.rvm_host.proofs.Sends.{host_send}
use Rattle.rvm_station.specs.declared.log.EventLog as EventLog
use Rattle.rvm_station.specs.declared.origin.Opening as Opening
use Rattle.rvm_station.specs.contracts.reached.Reached as Reached
use Rattle.rvm_station.specs.contracts.cell.HostCell as HostCell

reached_send : (L M J : RattleType) (o : Opening.Ghosts L.Denot) (g : Memory.Ghosts M.Denot) (l : EventLog.Ghosts J.Denot)
    → IsSend M → IsSend J → IsSend (Reached.the_row L M J o g l)
reached_send L M J o g l m s = search (host_send, sendable, crosses) depth 40 fits 10000

pub cell_sync : (L M J : RattleType) (o : Opening.Ghosts L.Denot) (g : Memory.Ghosts M.Denot) (l : EventLog.Ghosts J.Denot)
    → IsSend M → IsSend J → IsSync (HostCell.the_row L M J o g l)
cell_sync L M J o g l m s = search (reached_send, sendable, crosses) depth 40 fits 10000
