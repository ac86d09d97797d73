use Rattle.rvm_station.proofs.Begins.{begins}
use Rattle.rvm_station.proofs.mover.begun.Goals as goal

pub unreachable-requires : goal.unreachable-requires
unreachable-requires g c =
    begins g.L.Hosting.gave g.L.Hosting.is_reply c.args.reply c.requires c.in_default.not-Begun c.in_default.not-Refused
