use Rattle.std.proofs.Common.{subst}
use Rattle.rvm_journal.specs.Reading.{IsOpened}
use Rattle.rvm_journal.proofs.Reading.{has_text}
use Rattle.rvm_journal.proofs.reader.JournalReader.header.Goals as goal

pub returns-clause-text : goal.returns-clause-text
returns-clause-text g c =
    let now = g.I.Read.remaining c.self.inside.input in
    has_text c.args.self.now now c.self.inside.read c.self.inside.digest.bytes
    (subst (λ o. IsOpened o.known now o.header c.self.inside.read c.self.inside.digest.bytes) c.self.view_is c.self.invariant)
