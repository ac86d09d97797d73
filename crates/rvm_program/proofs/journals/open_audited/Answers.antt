use Rattle.std.proofs.Common.{◌∷◌, [], ◌∙◌, ap, map}
use Rattle.std.proofs.lemmas.List.{map-append}
use Rattle.std.specs.Io.Buffered.{reader_remaining}
use Rattle.rvm_program.proofs.AuditedFiles.{one_given}
use Rattle.rvm_program.proofs.journals.open_audited.Goals as goal

pub loop-index-preserved : goal.loop-index-preserved
loop-index-preserved g c =
    let remaining = reader_remaining g.F.Opened.Read.remaining in
    let opened = c.loop-index.opened.items in
    let one = c.in_ok-journal.journal in
    one_given (g.F.NamedFiles.bytes_of c.args.files.now) c.args.journals.now c.loop-index.index (map remaining opened)
    (map remaining c.keep_told.new.all.items) _ (remaining one) c.loop-index.invariant c.loop-index-test.true
    c.in_ok-journal.ensures.opened
    (ap (map remaining) c.in_ok-keep_told.ensures.kept ∙ map-append remaining opened (one ∷ []))
