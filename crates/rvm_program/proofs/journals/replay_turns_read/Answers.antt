use Rattle.std.proofs.Common.{◌∙◌, List, ℕ, inl, sym}
use Rattle.rvm_replay.specs.Journals.{JournalText, known_in}
use Rattle.rvm_program.specs.Ended.{AreTurnsMade, IsTurnsEnd, ToTell, Written, written}
use Rattle.rvm_program.proofs.AuditedFiles.{as_many_known, with_texts, with_texts_untold}
use Rattle.rvm_program.proofs.ReplayEnds.{file_ended, file_session, file_untold, standard_session}
use Rattle.rvm_program.proofs.TurnsEnds.{turns_made, turns_unmade}
use Rattle.rvm_program.proofs.journals.replay_turns_read.Goals as goal

pub returns-then-eq-clause-ended : goal.returns-then-eq-clause-ended
returns-then-eq-clause-ended g c =
    let files = g.F.NamedFiles.bytes_of c.args.files.now in
    let input = g.I.Read.remaining c.args.input.now in
    let known = known_in c.args.read.now.journals.items in
    turns_made files c.args.arguments.now known c.args.read.now.image.items input
    (g.O.Write.contents c.args.output.now) input
    (standard_session files c.args.arguments.now.script.now input (sym c.eq.ensures ∙ c.if-eq.true)) c.answer_turns.result
    (written (g.E.Write.contents c.args.errors.now) (g.E.Write.contents c.answer_turns.new.errors))
    (c.answer_turns.ensures.ended files)

pub returns-then-eq-clause-untold : goal.returns-then-eq-clause-untold
returns-then-eq-clause-untold g c =
    let files = g.F.NamedFiles.bytes_of c.args.files.now in
    let input = g.I.Read.remaining c.args.input.now in
    let known = known_in c.args.read.now.journals.items in
    turns_unmade files c.args.arguments.now known c.args.read.now.image.items input
    (g.O.Write.contents c.args.output.now) input
    (standard_session files c.args.arguments.now.script.now input (sym c.eq.ensures ∙ c.if-eq.true)) c.answer_turns.result
    (c.answer_turns.ensures.untold files)

pub returns-in-Ok-clause-ended : goal.returns-in-Ok-clause-ended
returns-in-Ok-clause-ended g c =
    let files = g.F.NamedFiles.bytes_of c.args.files.now in
    let input = g.I.Read.remaining c.args.input.now in
    let known = known_in c.args.read.now.journals.items in
    let session = g.F.Opened.Read.remaining c.in-Ok.script in
    turns_made files c.args.arguments.now known c.args.read.now.image.items input
    (g.O.Write.contents c.args.output.now) session
    (file_session files c.args.arguments.now.script.now input session (sym c.eq.ensures ∙ c.if-eq.false) c.in-Ok.ensures.bytes)
    c.answer_turns-in-Ok.result
    (written (g.E.Write.contents c.args.errors.now) (g.E.Write.contents c.answer_turns-in-Ok.new.errors))
    (c.answer_turns-in-Ok.ensures.ended files)

pub returns-in-Ok-clause-untold : goal.returns-in-Ok-clause-untold
returns-in-Ok-clause-untold g c =
    let files = g.F.NamedFiles.bytes_of c.args.files.now in
    let input = g.I.Read.remaining c.args.input.now in
    let known = known_in c.args.read.now.journals.items in
    let session = g.F.Opened.Read.remaining c.in-Ok.script in
    turns_unmade files c.args.arguments.now known c.args.read.now.image.items input
    (g.O.Write.contents c.args.output.now) session
    (file_session files c.args.arguments.now.script.now input session (sym c.eq.ensures ∙ c.if-eq.false) c.in-Ok.ensures.bytes)
    c.answer_turns-in-Ok.result (c.answer_turns-in-Ok.ensures.untold files)

pub returns-in-Err-clause-ended : goal.returns-in-Err-clause-ended
returns-in-Err-clause-ended g c =
    let files = g.F.NamedFiles.bytes_of c.args.files.now in
    let input = g.I.Read.remaining c.args.input.now in
    let known = known_in c.args.read.now.journals.items in
    let a = c.args.arguments.now in
    let image = c.args.read.now.image.items in
    let out = g.O.Write.contents c.args.output.now in
    let errors = written (g.E.Write.contents c.args.errors.now) (g.E.Write.contents c.tell_file.new.errors) in
    let Ends : List JournalText → ℕ → Written → Type 0 = λ journals status errors. IsTurnsEnd files a status journals image
    input out errors in
    with_texts c.tell_file.result a.journals.items known
    (λ journals status. AreTurnsMade files a status journals image input out errors)
    (as_many_known a.journals.items c.args.read.now.journals.items c.requires)
    (λ journals. file_ended c.tell_file.result (Ends journals) files a.script.now c.in-Err.why errors
    (inl c.in-Err.ensures.refused) c.tell_file.ensures)

pub returns-in-Err-clause-untold : goal.returns-in-Err-clause-untold
returns-in-Err-clause-untold g c =
    let files = g.F.NamedFiles.bytes_of c.args.files.now in
    let input = g.I.Read.remaining c.args.input.now in
    let known = known_in c.args.read.now.journals.items in
    let a = c.args.arguments.now in
    let image = c.args.read.now.image.items in
    let out = g.O.Write.contents c.args.output.now in
    let Ends : List JournalText → ℕ → Written → Type 0 = λ journals status errors. IsTurnsEnd files a status journals image
    input out errors in
    with_texts_untold c.tell_file.result a.journals.items known
    (λ journals. ToTell (λ status errors. AreTurnsMade files a status journals image input out errors))
    (as_many_known a.journals.items c.args.read.now.journals.items c.requires)
    (λ journals. file_untold c.tell_file.result (Ends journals) files a.script.now c.in-Err.why (inl c.in-Err.ensures.refused))
