use Rattle.std.proofs.Common.{◌∙◌, List, ℕ, ap, length, refl, subst}
use Rattle.std.specs.Borrow.{Bor}
use Rattle.rvm_replay.specs.Journals.{known_in}
use Rattle.rvm_program.specs.Ended.{AreGiven, HasAudited, Written, written}
use Rattle.rvm_program.proofs.AuditedFiles.{drawn_ended, drawn_untold, read_long}
use Rattle.rvm_program.proofs.ReplayEnds.{file_untold}
use Rattle.rvm_program.proofs.journals.draw_journals.Goals as goal

pub returns-in-Ok-clause-ended : goal.returns-in-Ok-clause-ended
returns-in-Ok-clause-ended g c output =
    let files = g.F.NamedFiles.bytes_of c.args.files.now in
    let known = known_in c.in-Ok.read.journals.items in
    let given = subst (λ (names : List (Bor (List ℕ))). AreGiven files names known) c.as_slice.ensures.value
    c.in-Ok.ensures.journals in
    drawn_ended files (g.F.NamedFiles.created_of c.args.files.now) c.args.arguments.now known c.in-Ok.read.image.items given
    c.in-Ok.ensures.image c.as_slice-in-Ok.result.now c.in-Ok.read.image.items c.as_slice-in-Ok.ensures.value refl
    c.args.chart c.requires output c.draw_audit.result
    (written (g.E.Write.contents c.args.errors.now) (g.E.Write.contents c.draw_audit.new.errors)) c.draw_audit.ensures.ended

pub returns-in-Ok-clause-untold : goal.returns-in-Ok-clause-untold
returns-in-Ok-clause-untold g c output =
    let files = g.F.NamedFiles.bytes_of c.args.files.now in
    let known = known_in c.in-Ok.read.journals.items in
    let given = subst (λ (names : List (Bor (List ℕ))). AreGiven files names known) c.as_slice.ensures.value
    c.in-Ok.ensures.journals in
    drawn_untold files (g.F.NamedFiles.created_of c.args.files.now) c.args.arguments.now known c.in-Ok.read.image.items given
    c.in-Ok.ensures.image c.as_slice-in-Ok.result.now c.in-Ok.read.image.items c.as_slice-in-Ok.ensures.value refl
    c.args.chart c.requires output c.draw_audit.result c.draw_audit.ensures.untold

pub returns-in-Err-clause-untold : goal.returns-in-Err-clause-untold
returns-in-Err-clause-untold g c output =
    let files = g.F.NamedFiles.bytes_of c.args.files.now in
    let Ends : ℕ → Written → Type 0 = λ status errors. HasAudited files (g.F.NamedFiles.created_of c.args.files.now)
    c.args.arguments.now status output errors in
    file_untold c.tell_file.result Ends files c.in-Err.path.now c.in-Err.why c.in-Err.ensures.refused

pub draw_audit-requires : goal.draw_audit-requires
draw_audit-requires g c =
    let files = g.F.NamedFiles.bytes_of c.args.files.now in
    let known = known_in c.in-Ok.read.journals.items in
    let given = subst (λ (names : List (Bor (List ℕ))). AreGiven files names known) c.as_slice.ensures.value
    c.in-Ok.ensures.journals in
    ap length c.as_slice-in-Ok.ensures.value ∙ read_long files c.args.arguments.now.journals.items c.in-Ok.read.journals.items given
