use Rattle.rvm_replay.specs.Audited.{IsOnly, is_wanted}
use Rattle.rvm_replay.specs.Journals.{headers_of}
use Rattle.rvm_replay.proofs.headers.index_of.Given as goal

-- of the journals so far, the one that is wanted
abbrev pub invariant-loop-index : goal.invariant-loop-index
invariant-loop-index g l = IsOnly (λ i. is_wanted l.wanted ((headers_of l.readers).at i)) l.index l.found
