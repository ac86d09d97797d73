use Rattle.std.proofs.Common.{ap}
use Rattle.rvm_journal.specs.Written.{is_empty}
use Rattle.rvm_journal.proofs.Adding.{begun, nothing_kept}
use Rattle.rvm_journal.proofs.file.JournalFile.begin.Goals as goal

pub invariant_of-result : goal.invariant_of-result
invariant_of-result g c =
    begun _ _ _ _ _ _ _ _ (ap (λ w. is_empty (g.W.Write.contents w)) c.of-began.ensures) c.none.ensures
    c.in_ok-digest.ensures

pub returns : goal.returns
returns g c =
    nothing_kept c.args.hosts c.args.host _ _ _ _ _ _ (ap (λ w. is_empty (g.W.Write.contents w)) c.of-began.ensures)
    c.none.ensures c.in_ok-digest.ensures
