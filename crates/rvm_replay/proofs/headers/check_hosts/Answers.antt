use Rattle.std.proofs.Common.{Option, ℕ}
use Rattle.rvm_replay.specs.Audited.{IsOnlyOne}
use Rattle.rvm_replay.specs.Journals.{headers_of}
use Rattle.rvm_replay.specs.declared.headers.Wanted.TheVariants.{OfHost}
use Rattle.rvm_replay.proofs.OnlyOne.{below_next}
use Rattle.rvm_replay.proofs.headers.check_hosts.Goals as goal

pub loop-host-preserved : goal.loop-host-preserved
loop-host-preserved g c =
    below_next (λ x. (found : Option ℕ) × IsOnlyOne (headers_of c.args.readers.now) (OfHost x) found) c.loop-host.host
    c.loop-host.invariant (c.in_ok-_only._only, c.in_ok-_only.ensures.only)
