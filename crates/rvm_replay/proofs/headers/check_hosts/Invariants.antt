use Rattle.rvm_replay.specs.Audited.{AreOnce}
use Rattle.rvm_replay.specs.Journals.{headers_of}
use Rattle.rvm_replay.proofs.headers.check_hosts.Given as goal

-- no two journals are of one of the hosts so far
abbrev pub invariant-loop-host : goal.invariant-loop-host
invariant-loop-host g l = AreOnce (headers_of l.readers) l.host
