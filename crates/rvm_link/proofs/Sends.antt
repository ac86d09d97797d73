-- Threads may share the sending end of a side, if its link may go to any thread.
use denote.RattleType.{RattleType}
use denote.Param.Send.{IsSend, IsSync, sendable}
use Rattle.std.proofs.Crossing.{crosses}
use Rattle.rvm_link.specs.contracts.outgoing.Outgoing as Outgoing

pub outgoing_sync : (K : RattleType) → IsSend K → IsSync (Outgoing.the_row K)
outgoing_sync K s = search (sendable, crosses) depth 40 fits 10000
