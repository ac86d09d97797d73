-- A host after a move may go to any thread, if its memory may.
use denote.RattleType.{RattleType}
use denote.Param.Send.{IsSend, sendable}
use Rattle.std.proofs.Crossing.{crosses}
use Rattle.rvm_recorder.proofs.Sends.{recorded_send}
use Rattle.rvm_mem.specs.declared.memory.Memory as Memory
use Rattle.rvm_move.specs.contracts.hosts.HostEnd as HostEnd

pub end_send : (M : RattleType) (g : Memory.Ghosts M.Denot) → IsSend M → IsSend (HostEnd.the_row M g)
end_send M g s = search (recorded_send, sendable, crosses) depth 40 fits 10000
