use Rattle.std.proofs.Common.{List, ℕ, ap}
use Rattle.std.specs.Io.Buffered.{writer_contents}
use Rattle.rvm_replay.specs.Journals.{JournalText, known_in}
use Rattle.rvm_program.specs.Ended.{IsTurnsAnswer, IsTurnsAnswerEnd, ToTell, Written, written}
use Rattle.rvm_program.proofs.AuditedFiles.{as_many_known, with_texts, with_texts_untold}
use Rattle.rvm_program.proofs.ReplayEnds.{buffer_ended, buffer_untold}
use Rattle.rvm_program.proofs.TurnsEnds.{turns_answered, turns_unanswered}
use Rattle.rvm_program.proofs.journals.answer_turns.Goals as goal

pub returns-in-Ok-clause-ended : goal.returns-in-Ok-clause-ended
returns-in-Ok-clause-ended g c files =
    turns_answered c.args.arguments.now c.as_slice.result.now (known_in c.as_slice-in-Ok.result.now)
    (known_in c.args.read.now.journals.items) c.deref.result.now
    c.args.read.now.image.items (g.R.Read.remaining c.args.session.now)
    (writer_contents (λ w. g.O.Write.contents w.now) c.in-Ok.output) (g.O.Write.contents c.args.output.now)
    (writer_contents (λ w. g.O.Write.contents w.now) c.replay_turns.new.output)
    c.as_slice.ensures.value (ap known_in c.as_slice-in-Ok.ensures.value) c.deref.ensures.value c.in-Ok.ensures.empty
    c.replay_turns.result
    (written (g.E.Write.contents c.args.errors.now) (g.E.Write.contents c.replay_turns.new.errors)) files
    c.replay_turns.ensures.status

pub returns-in-Ok-clause-untold : goal.returns-in-Ok-clause-untold
returns-in-Ok-clause-untold g c files =
    turns_unanswered c.args.arguments.now c.as_slice.result.now (known_in c.as_slice-in-Ok.result.now)
    (known_in c.args.read.now.journals.items) c.deref.result.now
    c.args.read.now.image.items (g.R.Read.remaining c.args.session.now)
    (writer_contents (λ w. g.O.Write.contents w.now) c.in-Ok.output) (g.O.Write.contents c.args.output.now)
    (writer_contents (λ w. g.O.Write.contents w.now) c.replay_turns.new.output)
    c.as_slice.ensures.value (ap known_in c.as_slice-in-Ok.ensures.value) c.deref.ensures.value c.in-Ok.ensures.empty
    c.replay_turns.result files c.replay_turns.ensures.untold

pub returns-in-Err-clause-ended : goal.returns-in-Err-clause-ended
returns-in-Err-clause-ended g c files =
    let a = c.args.arguments.now in
    let known = known_in c.args.read.now.journals.items in
    let image = c.args.read.now.image.items in
    let session = g.R.Read.remaining c.args.session.now in
    let out = g.O.Write.contents c.args.output.now in
    let errors = written (g.E.Write.contents c.args.errors.now) (g.E.Write.contents c.tell.new.errors) in
    let Ends : List JournalText → ℕ → Written → Type 0 = λ journals status errors. IsTurnsAnswer a status journals image
    session out errors in
    with_texts c.tell.result a.journals.items known
    (λ journals status. IsTurnsAnswerEnd status files a journals image session out errors)
    (as_many_known a.journals.items c.args.read.now.journals.items c.requires)
    (λ journals. buffer_ended c.tell.result (Ends journals) files c.in-Err.why errors c.in-Err.ensures.refused c.from.result
    c.from.ensures c.tell.ensures)

pub returns-in-Err-clause-untold : goal.returns-in-Err-clause-untold
returns-in-Err-clause-untold g c files =
    let a = c.args.arguments.now in
    let known = known_in c.args.read.now.journals.items in
    let image = c.args.read.now.image.items in
    let session = g.R.Read.remaining c.args.session.now in
    let out = g.O.Write.contents c.args.output.now in
    let Ends : List JournalText → ℕ → Written → Type 0 = λ journals status errors. IsTurnsAnswer a status journals image
    session out errors in
    with_texts_untold c.tell.result a.journals.items known
    (λ journals. ToTell (λ status errors. IsTurnsAnswerEnd status files a journals image session out errors))
    (as_many_known a.journals.items c.args.read.now.journals.items c.requires)
    (λ journals. buffer_untold c.tell.result (Ends journals) files c.in-Err.why c.in-Err.ensures.refused)
