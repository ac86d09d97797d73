-- What the threads of a host process share may be shared by them.
use denote.RattleType.{RattleType}
use denote.Param.Send.{IsSend, IsSync, sendable}
use Rattle.std.proofs.Crossing.{crosses}
use Rattle.rvm_station.specs.declared.origin.Hosting as Hosting
use Rattle.rvm_link.specs.declared.made.Origin as Origin
use Rattle.std.specs.declared.io.traits.Read as Read
use Rattle.std.specs.declared.io.traits.Write as Write
use Rattle.std.specs.declared.net.handle.OpenStream as OpenStream
use Rattle.rvm_host_command.specs.contracts.process.Process as Process

pub process_sync : (L S : RattleType) (o : Hosting.Ghosts L.Denot) (p : Origin.Ghosts L.Denot) (r : Read.Ghosts S.Denot) (w : Write.Ghosts S.Denot)
    → (n : OpenStream.Ghosts S.Denot) → IsSend S → IsSync (Process.the_row L S o p r w n)
process_sync L S o p r w n s = search (sendable, crosses) depth 60 fits 40000
