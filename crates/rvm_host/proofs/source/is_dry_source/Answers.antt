use Rattle.std.proofs.Common.{arith}
use Rattle.std.proofs.lemmas.Bool.{le-ltb, leb-true}
use Rattle.rvm_host.proofs.Drying.{leaving_dry}
use Rattle.rvm_host.proofs.source.is_dry_source.Goals as goal

pub returns-then-count-le-DRAIN_SIZE : goal.returns-then-count-le-DRAIN_SIZE
returns-then-count-le-DRAIN_SIZE g c = λ is.
    leaving_dry c.args.count c.args.from.now (le-ltb 256 c.args.count c.if-count-le-DRAIN_SIZE.true)
    (c.is_quiet.ensures.quiet is) c.is_quiet.ensures.log

pub returns-else-count-le-DRAIN_SIZE : goal.returns-else-count-le-DRAIN_SIZE
returns-else-count-le-DRAIN_SIZE g c = λ is.
    absurd (omega (arith, leb-true c.args.count 256 is, c.if-count-le-DRAIN_SIZE.false))
