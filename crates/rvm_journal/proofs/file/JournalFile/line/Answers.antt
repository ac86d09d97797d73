use Rattle.std.proofs.Common.{ap, ◌∙◌, None}
use Rattle.rvm_journal.specs.Noting.{events_of}
use Rattle.rvm_journal.specs.Written.{Keeping, with_more}
use Rattle.rvm_journal.proofs.Adding.{file, grown}
use Rattle.rvm_journal.proofs.file.JournalFile.line.Goals as goal

pub invariant_of-result : goal.invariant_of-result
invariant_of-result g c =
    file _ _ _ _ _ _ _ _ _ c.in_ok-check.ensures c.self.invariant c.in_ok-digest.ensures

pub returns : goal.returns
returns g c =
    ap (λ told. record { told = told; run = None })
    (grown _ _ _ _ _ _ _ _ _ c.in_ok-check.ensures c.self.invariant c.in_ok-digest.ensures
    ∙ ap (λ (k : Keeping). with_more k.told (events_of c.args.noted.now)) c.self.view_is)
