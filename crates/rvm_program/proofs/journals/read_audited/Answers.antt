use Rattle.std.proofs.Common.{◌∷◌, [], ◌∙◌, Global, Some, Vec, ℕ, ap}
use Rattle.std.proofs.lemmas.List.{map-append}
use Rattle.rvm_replay.specs.Journals.{known_in}
use Rattle.rvm_program.proofs.AuditedFiles.{file_given, one_given}
use Rattle.rvm_program.proofs.journals.read_audited.Goals as goal

pub loop-index-preserved : goal.loop-index-preserved
loop-index-preserved g c =
    let read = c.loop-index.read.items in
    let one = c.in_ok-journal.journal in
    one_given (g.F.NamedFiles.bytes_of c.args.files.now) c.args.journals.now c.loop-index.index (known_in read)
    (known_in c.keep_told.new.all.items) _ (Some one.items) c.loop-index.invariant c.loop-index-test.true
    (file_given _ one.items c.in_ok-journal.ensures.bytes)
    (ap known_in c.in_ok-keep_told.ensures.kept ∙ map-append (λ (v : Vec ℕ Global). Some v.items) read (one ∷ []))
