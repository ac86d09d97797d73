use Rattle.std.proofs.Common.{ℕ, List, Option}
use Rattle.std.specs.Io.Buffered.{writer_contents}
use Rattle.rvm_replay.specs.Replays.{HasSessionStatus}
use Rattle.rvm_program.specs.Ended.{IsAnswerEnd, ToTell, Written, written}
use Rattle.rvm_program.proofs.ReplayEnds.{answer_end, answer_untold, buffer_ended, buffer_untold, with_text, with_text_untold}
use Rattle.rvm_program.proofs.journals.answer_replay.Goals as goal

pub returns-in-Ok-clause-ended : goal.returns-in-Ok-clause-ended
returns-in-Ok-clause-ended g c files =
    answer_end c.args.arguments.now (g.J.Read.remaining c.args.opened.journal) c.deref.result.now c.args.opened.image.items
    (g.R.Read.remaining c.args.session.now)
    (writer_contents (λ w. g.O.Write.contents w.now) c.in-Ok.output) (g.O.Write.contents c.args.output.now)
    (writer_contents (λ w. g.O.Write.contents w.now) c.replay_session.new.output)
    c.deref.ensures.value c.in-Ok.ensures.empty c.replay_session.result
    (written (g.E.Write.contents c.args.errors.now) (g.E.Write.contents c.replay_session.new.errors)) files
    c.replay_session.ensures.status

pub returns-in-Ok-clause-untold : goal.returns-in-Ok-clause-untold
returns-in-Ok-clause-untold g c files =
    answer_untold c.args.arguments.now (g.J.Read.remaining c.args.opened.journal) c.deref.result.now c.args.opened.image.items
    (g.R.Read.remaining c.args.session.now)
    (writer_contents (λ w. g.O.Write.contents w.now) c.in-Ok.output) (g.O.Write.contents c.args.output.now)
    (writer_contents (λ w. g.O.Write.contents w.now) c.replay_session.new.output)
    c.deref.ensures.value c.in-Ok.ensures.empty c.replay_session.result files c.replay_session.ensures.untold

pub returns-in-Err-clause-ended : goal.returns-in-Err-clause-ended
returns-in-Err-clause-ended g c files =
    let image = c.args.opened.image.items in
    let session = g.R.Read.remaining c.args.session.now in
    let out = g.O.Write.contents c.args.output.now in
    let errors = written (g.E.Write.contents c.args.errors.now) (g.E.Write.contents c.tell.new.errors) in
    let a = c.args.arguments.now in
    let Ends : List ℕ → ℕ → Written → Type 0 = λ journal status errors. (told : Option (List ℕ)) × HasSessionStatus status
    a.journal.now a.until journal image session out told errors.before errors.after in
    with_text c.tell.result (g.J.Read.remaining c.args.opened.journal)
    (λ journal status. IsAnswerEnd status files a journal image session out errors)
    (λ journal. buffer_ended c.tell.result (Ends journal) files c.in-Err.why errors c.in-Err.ensures.refused c.from.result
    c.from.ensures c.tell.ensures)

pub returns-in-Err-clause-untold : goal.returns-in-Err-clause-untold
returns-in-Err-clause-untold g c files =
    let image = c.args.opened.image.items in
    let session = g.R.Read.remaining c.args.session.now in
    let out = g.O.Write.contents c.args.output.now in
    let a = c.args.arguments.now in
    let Ends : List ℕ → ℕ → Written → Type 0 = λ journal status errors. (told : Option (List ℕ)) × HasSessionStatus status
    a.journal.now a.until journal image session out told errors.before errors.after in
    with_text_untold c.tell.result (g.J.Read.remaining c.args.opened.journal)
    (λ journal. ToTell (λ status errors. IsAnswerEnd status files a journal image session out errors))
    (λ journal. buffer_untold c.tell.result (Ends journal) files c.in-Err.why c.in-Err.ensures.refused)
