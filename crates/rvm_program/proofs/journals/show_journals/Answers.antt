use Rattle.std.proofs.Common.{◌∙◌, List, ℕ, ap, length, map, subst}
use Rattle.std.proofs.lemmas.List.{length-map}
use Rattle.std.specs.Borrow.{Bor}
use Rattle.std.specs.Io.Buffered.{reader_remaining}
use Rattle.rvm_program.specs.Ended.{AreGiven, HasAudited, Written, written}
use Rattle.rvm_program.proofs.AuditedFiles.{given_long, shown_ended, shown_untold}
use Rattle.rvm_program.proofs.ReplayEnds.{file_untold}
use Rattle.rvm_program.proofs.journals.show_journals.Goals as goal

pub returns-in-Ok-clause-ended : goal.returns-in-Ok-clause-ended
returns-in-Ok-clause-ended g c =
    let files = g.F.NamedFiles.bytes_of c.args.files.now in
    let known = map (reader_remaining g.F.Opened.Read.remaining) c.in-Ok.opened.journals.items in
    let given = subst (λ (names : List (Bor (List ℕ))). AreGiven files names known) c.as_slice.ensures.value
    c.in-Ok.ensures.journals in
    shown_ended files (g.F.NamedFiles.created_of c.args.files.now) c.args.arguments.now known c.in-Ok.opened.image.items given
    c.in-Ok.ensures.image c.as_slice-in-Ok.result.now c.deref.result.now c.as_slice-in-Ok.ensures.value c.deref.ensures.value c.requires c.text_of.result c.text_of.ensures (g.O.Write.contents c.args.output.now)
    c.audit_inputs.result (written (g.E.Write.contents c.args.errors.now) (g.E.Write.contents c.audit_inputs.new.errors)) (c.audit_inputs.ensures.audited files)

pub returns-in-Ok-clause-untold : goal.returns-in-Ok-clause-untold
returns-in-Ok-clause-untold g c =
    let files = g.F.NamedFiles.bytes_of c.args.files.now in
    let known = map (reader_remaining g.F.Opened.Read.remaining) c.in-Ok.opened.journals.items in
    let given = subst (λ (names : List (Bor (List ℕ))). AreGiven files names known) c.as_slice.ensures.value
    c.in-Ok.ensures.journals in
    shown_untold files (g.F.NamedFiles.created_of c.args.files.now) c.args.arguments.now known c.in-Ok.opened.image.items given
    c.in-Ok.ensures.image c.as_slice-in-Ok.result.now c.deref.result.now c.as_slice-in-Ok.ensures.value c.deref.ensures.value c.requires c.text_of.result c.text_of.ensures (g.O.Write.contents c.args.output.now)
    c.audit_inputs.result (c.audit_inputs.ensures.untold files)

pub returns-in-Err-clause-untold : goal.returns-in-Err-clause-untold
returns-in-Err-clause-untold g c =
    let files = g.F.NamedFiles.bytes_of c.args.files.now in
    let Ends : ℕ → Written → Type 0 = λ status errors. HasAudited files (g.F.NamedFiles.created_of c.args.files.now)
    c.args.arguments.now status (g.O.Write.contents c.args.output.now) errors in
    file_untold c.tell_file.result Ends files c.in-Err.path.now c.in-Err.why c.in-Err.ensures.refused

pub audit_inputs-requires : goal.audit_inputs-requires
audit_inputs-requires g c =
    let files = g.F.NamedFiles.bytes_of c.args.files.now in
    let known = map (reader_remaining g.F.Opened.Read.remaining) c.in-Ok.opened.journals.items in
    let given = subst (λ (names : List (Bor (List ℕ))). AreGiven files names known) c.as_slice.ensures.value
    c.in-Ok.ensures.journals in
    ap length c.as_slice-in-Ok.ensures.value ∙ given_long files c.args.arguments.now.journals.items known given
    ∙ length-map c.in-Ok.opened.journals.items (reader_remaining g.F.Opened.Read.remaining)
