use Rattle.std.proofs.Common.{◌∙◌, List, ℕ, map, sym}
use Rattle.std.proofs.lemmas.List.{length-map}
use Rattle.std.specs.Io.Buffered.{writer_contents}
use Rattle.rvm_replay.specs.Journals.{JournalText}
use Rattle.rvm_program.specs.Ended.{AreAuditedTo, IsAuditEnd, ToTell, Written, written}
use Rattle.rvm_program.proofs.AuditedFiles.{audit_untold, audited_to, with_texts, with_texts_untold}
use Rattle.rvm_program.proofs.ReplayEnds.{buffer_ended, buffer_untold}
use Rattle.rvm_program.proofs.journals.audit_inputs.Goals as goal

pub returns-in-Ok-clause-audited : goal.returns-in-Ok-clause-audited
returns-in-Ok-clause-audited g c =
    audited_to c.args.names.now (map g.J.Read.remaining c.args.inputs.items) c.args.image.now c.args.text
    (writer_contents (λ w. g.O.Write.contents w.now) c.in-Ok.output) (g.O.Write.contents c.args.output.now)
    (writer_contents (λ w. g.O.Write.contents w.now) c.audit_journals.new.output) c.in-Ok.ensures.empty
    c.audit_journals.result
    (written (g.E.Write.contents c.args.errors.now) (g.E.Write.contents c.audit_journals.new.errors))
    c.audit_journals.ensures.status

pub returns-in-Ok-clause-untold : goal.returns-in-Ok-clause-untold
returns-in-Ok-clause-untold g c =
    audit_untold c.args.names.now (map g.J.Read.remaining c.args.inputs.items) c.args.image.now c.args.text
    (writer_contents (λ w. g.O.Write.contents w.now) c.in-Ok.output) (g.O.Write.contents c.args.output.now)
    (writer_contents (λ w. g.O.Write.contents w.now) c.audit_journals.new.output) c.in-Ok.ensures.empty
    c.audit_journals.result c.audit_journals.ensures.untold

pub returns-in-Err-clause-audited : goal.returns-in-Err-clause-audited
returns-in-Err-clause-audited g c files =
    let out = g.O.Write.contents c.args.output.now in
    let errors = written (g.E.Write.contents c.args.errors.now) (g.E.Write.contents c.tell.new.errors) in
    let Ends : List JournalText → ℕ → Written → Type 0 = λ journals status errors. AreAuditedTo status journals
    c.args.image.now c.args.text out errors in
    with_texts c.tell.result c.args.names.now (map g.J.Read.remaining c.args.inputs.items)
    (λ journals status. IsAuditEnd status files journals c.args.image.now c.args.text out errors)
    (c.requires ∙ sym (length-map c.args.inputs.items g.J.Read.remaining))
    (λ journals. buffer_ended c.tell.result (Ends journals) files c.in-Err.why errors c.in-Err.ensures.refused c.from.result
    c.from.ensures c.tell.ensures)

pub returns-in-Err-clause-untold : goal.returns-in-Err-clause-untold
returns-in-Err-clause-untold g c files =
    let out = g.O.Write.contents c.args.output.now in
    let Ends : List JournalText → ℕ → Written → Type 0 = λ journals status errors. AreAuditedTo status journals
    c.args.image.now c.args.text out errors in
    with_texts_untold c.tell.result c.args.names.now (map g.J.Read.remaining c.args.inputs.items)
    (λ journals. ToTell (λ status errors. IsAuditEnd status files journals c.args.image.now c.args.text out errors))
    (c.requires ∙ sym (length-map c.args.inputs.items g.J.Read.remaining))
    (λ journals. buffer_untold c.tell.result (Ends journals) files c.in-Err.why c.in-Err.ensures.refused)
