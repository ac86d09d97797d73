use Rattle.rvm_replay.specs.Audited.{HasHeaderOf}
use Rattle.rvm_replay.proofs.OnlyOne.{below_next}
use Rattle.rvm_replay.specs.Journals.{headers_of}
use Rattle.rvm_replay.proofs.headers.check_headers.Goals as goal

pub loop-index-preserved : goal.loop-index-preserved
loop-index-preserved g c =
    below_next (HasHeaderOf (headers_of c.args.readers.now) c.args.opening.now.hosts c.args.opening.now.world) c.loop-index.index c.loop-index.invariant c.in_ok-check_header.ensures.header
