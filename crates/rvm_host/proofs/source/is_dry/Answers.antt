use Rattle.std.proofs.Common.{◌∙◌, sym, arith}
use Rattle.std.proofs.lemmas.Bool.{eqb-true, le-ltb, leb-true}
use Rattle.rvm_host.proofs.Drying.{dry_guest}
use Rattle.rvm_host.proofs.source.is_dry.Goals as goal

pub returns-then-count-le-DRAIN_SIZE : goal.returns-then-count-le-DRAIN_SIZE
returns-then-count-le-DRAIN_SIZE g c = λ is.
    dry_guest c.args.count c.args.guest.now.guest (le-ltb 256 c.args.count c.if-count-le-DRAIN_SIZE.true)
    (sym c.waiting.ensures ∙ eqb-true c.waiting.result 0 is)

pub returns-else-count-le-DRAIN_SIZE : goal.returns-else-count-le-DRAIN_SIZE
returns-else-count-le-DRAIN_SIZE g c = λ is.
    absurd (omega (arith, leb-true c.args.count 256 is, c.if-count-le-DRAIN_SIZE.false))
