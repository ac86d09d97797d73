use Rattle.rvm_replay.specs.Audited.{IsOnly, is_wanted}
use Rattle.std.proofs.Common.{None}
use Rattle.rvm_replay.specs.Journals.{header_number}
use Rattle.rvm_replay.specs.declared.headers.Wanted.TheVariants.{OfHost}
use Rattle.rvm_replay.proofs.turns.index_of_host.Given as goal

-- no journal so far is of the host
abbrev pub invariant-loop-index : goal.invariant-loop-index
invariant-loop-index l = IsOnly (λ i. is_wanted (OfHost l.host) (header_number l.files i)) l.index None
