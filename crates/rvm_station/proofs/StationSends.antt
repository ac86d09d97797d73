-- Threads may share what workers share, if the memory of the host and the connections may go to any thread.
use denote.RattleType.{RattleType}
use denote.Param.Send.{IsSend, IsSync, sendable}
use Rattle.std.proofs.Crossing.{crosses}
use Rattle.std.specs.declared.io.traits.Write as Write
use Rattle.rvm_station.specs.declared.origin.Hosting as Hosting
use Rattle.rvm_link.specs.declared.made.Origin as Origin
use Rattle.rvm_station.specs.contracts.host_harts.HartsPlan as HartsPlan
use Rattle.rvm_station.specs.contracts.input.InputQueue as InputQueue
use Rattle.rvm_station.specs.contracts.news.Awaited as Awaited
use Rattle.rvm_station.specs.contracts.news.News as News
use Rattle.rvm_station.specs.contracts.news.Told as Told
use Rattle.rvm_station.specs.contracts.station.Station as Station

awaited_send : (L : RattleType) (o : Hosting.Ghosts L.Denot) (r : Origin.Ghosts L.Denot) → IsSend (Awaited.the_row L o r)
awaited_send L o r = search (sendable, crosses) depth 40 fits 10000

told_send : (L : RattleType) (o : Hosting.Ghosts L.Denot) (r : Origin.Ghosts L.Denot) → IsSend (Told.the_row L o r)
told_send L o r = search (awaited_send, sendable, crosses) depth 40 fits 10000

pub news_sync : (L : RattleType) (o : Hosting.Ghosts L.Denot) (r : Origin.Ghosts L.Denot) → IsSync (News.the_row L o r)
news_sync L o r = search (told_send, sendable, crosses) depth 40 fits 10000

pub station_sync : (L W : RattleType) (o : Hosting.Ghosts L.Denot) (r : Origin.Ghosts L.Denot) (w : Write.Ghosts W.Denot)
    → IsSend W → IsSync (Station.the_row L W o r w)
station_sync L W o r w s = search (told_send, sendable, crosses) depth 60 fits 40000

pub queue_sync : IsSync InputQueue.the_row
queue_sync = search (sendable, crosses) depth 40 fits 10000

pub plan_sync : IsSync HartsPlan.the_row
plan_sync = search (sendable, crosses) depth 40 fits 10000
