use Rattle.std.proofs.Common.{List, None, Some, ℕ, subst}
use Rattle.rvm_journal.specs.Reading.{IsTextOf}
use Rattle.rvm_replay.specs.FileFaults.{IsFileFault}
use Rattle.rvm_journal.proofs.Replayed.{handed_on}
use Rattle.rvm_replay.proofs.Replayed.{with_its_text}
use Rattle.rvm_replay.proofs.hosts.record_journal.Goals as goal

pub returns-in_err-host-clause-fault : goal.returns-in_err-host-clause-fault
returns-in_err-host-clause-fault g c =
    let why = c.in_err-host.field-0.0 in
    let o = c.args.reader in
    let image = c.args.image.now in
    handed_on (λ e. (text : List ℕ) × IsTextOf o text × IsFileFault e None 4294967295 (Some o.header) text image) why
    c.from_residual.result c.from_residual.ensures.1
    (with_its_text o why None 4294967295 image c.header.ensures.text
    (λ bytes. subst (λ h. IsFileFault why None 4294967295 (Some h) bytes image) c.header.ensures.header
    (c.in_err-host.ensures.fault c.header.ensures.range None 4294967295 bytes)))
