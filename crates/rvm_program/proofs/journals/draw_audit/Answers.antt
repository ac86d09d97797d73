use Rattle.std.proofs.Common.{◌∙◌, List, ℕ, ap, inl, refl}
use Rattle.rvm_replay.specs.Journals.{JournalText, known_in, known_of}
use Rattle.rvm_refusal.specs.declared.refusal.Refusal.TheVariants.{OutOfMemory}
use Rattle.rvm_program.specs.Ended.{AreDrawn, IsDrawnEnd, ToTell, Written, written}
use Rattle.rvm_program.proofs.AuditedFiles.{as_many_known, chart_drawn, chart_untold, with_texts, with_texts_untold}
use Rattle.rvm_program.proofs.ReplayEnds.{buffer_ended, buffer_untold, file_ended, file_untold}
use Rattle.rvm_program.proofs.journals.draw_audit.Goals as goal

pub returns-in-Ok-create_chart-clause-ended : goal.returns-in-Ok-create_chart-clause-ended
returns-in-Ok-create_chart-clause-ended g c =
    let files = g.F.NamedFiles.bytes_of c.args.files.now in
    let known = known_in c.args.read.now.journals.items in
    let slices = known_of c.in-Ok.slices.items in
    chart_drawn files (g.F.NamedFiles.created_of c.args.files.now) c.args.chart.now c.args.names.now slices known
    c.deref.result.now c.args.read.now.image.items (g.F.Created.Write.contents c.in-Ok-create_chart.file)
    (c.in-Ok.ensures.known ∙ ap known_in c.as_slice.ensures.value) c.deref.ensures.value c.in-Ok-create_chart.ensures.created
    c.audit_inputs.result
    (written (g.E.Write.contents c.args.errors.now) (g.E.Write.contents c.audit_inputs.new.errors)) (c.audit_inputs.ensures.audited files)

pub returns-in-Ok-create_chart-clause-untold : goal.returns-in-Ok-create_chart-clause-untold
returns-in-Ok-create_chart-clause-untold g c =
    let files = g.F.NamedFiles.bytes_of c.args.files.now in
    let known = known_in c.args.read.now.journals.items in
    let slices = known_of c.in-Ok.slices.items in
    chart_untold files (g.F.NamedFiles.created_of c.args.files.now) c.args.chart.now c.args.names.now slices known
    c.deref.result.now c.args.read.now.image.items (g.F.Created.Write.contents c.in-Ok-create_chart.file)
    (c.in-Ok.ensures.known ∙ ap known_in c.as_slice.ensures.value) c.deref.ensures.value c.in-Ok-create_chart.ensures.created
    c.audit_inputs.result (c.audit_inputs.ensures.untold files)

pub returns-in-Err-clause-ended : goal.returns-in-Err-clause-ended
returns-in-Err-clause-ended g c =
    let files = g.F.NamedFiles.bytes_of c.args.files.now in
    let created = g.F.NamedFiles.created_of c.args.files.now in
    let known = known_in c.args.read.now.journals.items in
    let image = c.args.read.now.image.items in
    let errors = written (g.E.Write.contents c.args.errors.now) (g.E.Write.contents c.tell_file.new.errors) in
    let Ends : List JournalText → ℕ → Written → Type 0 = λ journals status errors. AreDrawn created c.args.chart.now status
    journals image errors in
    with_texts c.tell_file.result c.args.names.now known
    (λ journals status. IsDrawnEnd files created c.args.chart.now status journals image errors)
    (as_many_known c.args.names.now c.args.read.now.journals.items c.requires)
    (λ journals. file_ended c.tell_file.result (Ends journals) files c.args.chart.now c.in-Err.why errors
    (inl c.in-Err.ensures.refused) c.tell_file.ensures)

pub returns-in-Err-clause-untold : goal.returns-in-Err-clause-untold
returns-in-Err-clause-untold g c =
    let files = g.F.NamedFiles.bytes_of c.args.files.now in
    let created = g.F.NamedFiles.created_of c.args.files.now in
    let known = known_in c.args.read.now.journals.items in
    let image = c.args.read.now.image.items in
    let Ends : List JournalText → ℕ → Written → Type 0 = λ journals status errors. AreDrawn created c.args.chart.now status
    journals image errors in
    with_texts_untold c.tell_file.result c.args.names.now known
    (λ journals. ToTell (λ status errors. IsDrawnEnd files created c.args.chart.now status journals image errors))
    (as_many_known c.args.names.now c.args.read.now.journals.items c.requires)
    (λ journals. file_untold c.tell_file.result (Ends journals) files c.args.chart.now c.in-Err.why (inl c.in-Err.ensures.refused))

pub returns-in_default-clause-ended : goal.returns-in_default-clause-ended
returns-in_default-clause-ended g c =
    let files = g.F.NamedFiles.bytes_of c.args.files.now in
    let created = g.F.NamedFiles.created_of c.args.files.now in
    let known = known_in c.args.read.now.journals.items in
    let image = c.args.read.now.image.items in
    let errors = written (g.E.Write.contents c.args.errors.now) (g.E.Write.contents c.tell.new.errors) in
    let Ends : List JournalText → ℕ → Written → Type 0 = λ journals status errors. AreDrawn created c.args.chart.now status
    journals image errors in
    with_texts c.tell.result c.args.names.now known
    (λ journals status. IsDrawnEnd files created c.args.chart.now status journals image errors)
    (as_many_known c.args.names.now c.args.read.now.journals.items c.requires)
    (λ journals. buffer_ended c.tell.result (Ends journals) files OutOfMemory errors (inl refl) c.from.result
    c.from.ensures c.tell.ensures)

pub returns-in_default-clause-untold : goal.returns-in_default-clause-untold
returns-in_default-clause-untold g c =
    let files = g.F.NamedFiles.bytes_of c.args.files.now in
    let created = g.F.NamedFiles.created_of c.args.files.now in
    let known = known_in c.args.read.now.journals.items in
    let image = c.args.read.now.image.items in
    let Ends : List JournalText → ℕ → Written → Type 0 = λ journals status errors. AreDrawn created c.args.chart.now status
    journals image errors in
    with_texts_untold c.tell.result c.args.names.now known
    (λ journals. ToTell (λ status errors. IsDrawnEnd files created c.args.chart.now status journals image errors))
    (as_many_known c.args.names.now c.args.read.now.journals.items c.requires)
    (λ journals. buffer_untold c.tell.result (Ends journals) files OutOfMemory (inl refl))
