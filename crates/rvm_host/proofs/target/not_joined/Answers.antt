use Rattle.std.proofs.Common.{subst}
use Rattle.rvm_handover.specs.Pieces.{PartCanBeTold}
use Rattle.rvm_host.proofs.Sendings.{lost_sent}
use Rattle.rvm_host.proofs.target.not_joined.Goals as goal

pub returns-in-Lacking-clause-sent : goal.returns-in-Lacking-clause-sent
returns-in-Lacking-clause-sent c =
    lost_sent c.args.move_number c.in-Lacking.pages c.with.result.1 c.requires.number c.ranges.move_number.fits
    (subst PartCanBeTold c.in-Lacking.is c.requires.pages) c.with.ensures.frame
