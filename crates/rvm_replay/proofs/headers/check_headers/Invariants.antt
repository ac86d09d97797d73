use Rattle.rvm_replay.specs.Audited.{HaveHeadersOf}
use Rattle.rvm_replay.specs.Journals.{headers_of}
use Rattle.rvm_replay.proofs.headers.check_headers.Given as goal

-- the journals so far are of this world
abbrev pub invariant-loop-index : goal.invariant-loop-index
invariant-loop-index g l = HaveHeadersOf (headers_of l.readers) l.index l.opening.hosts l.opening.world
