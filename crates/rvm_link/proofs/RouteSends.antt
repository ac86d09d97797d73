-- Threads may share the sending ends, if their connections may go to any thread.
use denote.RattleType.{RattleType}
use denote.Param.Send.{IsSend, IsSync, sendable}
use Rattle.std.proofs.Crossing.{crosses}
use Rattle.std.specs.declared.io.traits.Write as Write
use Rattle.rvm_link.specs.declared.made.Origin as Origin
use Rattle.rvm_link.specs.contracts.stream.Stream as Stream
use Rattle.rvm_link.specs.contracts.route.Route as Route
use Rattle.rvm_link.specs.contracts.routes.Routes as Routes

stream_send : (L W : RattleType) (o : Origin.Ghosts L.Denot) (w : Write.Ghosts W.Denot) → IsSend W
    → IsSend (Stream.the_row L W o w)
stream_send L W o w s = search (sendable, crosses) depth 40 fits 10000

route_send : (L W : RattleType) (o : Origin.Ghosts L.Denot) (w : Write.Ghosts W.Denot) → IsSend W
    → IsSend (Route.the_row L W o w)
route_send L W o w s = search (stream_send, sendable, crosses) depth 40 fits 10000

pub routes_sync : (L W : RattleType) (o : Origin.Ghosts L.Denot) (w : Write.Ghosts W.Denot) → IsSend W
    → IsSync (Routes.the_row L W o w)
routes_sync L W o w s = search (route_send, sendable, crosses) depth 40 fits 10000
