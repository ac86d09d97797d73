use Rattle.std.proofs.Common.{Some, subst, sym}
use Rattle.std.specs.Io.Buffered.{writer_contents}
use Rattle.rvm_journal.specs.Whole.{IsJournal}
use Rattle.rvm_replay.proofs.TurnEnds.{session_answered, session_unanswered}
use Rattle.rvm_replay.proofs.Worlds.{known_at, name_at, text_same, text_there}
use Rattle.rvm_replay.proofs.turn_session.answer_at.Goals as goal

pub returns-clause-status : goal.returns-clause-status
returns-clause-status g c files turn are place =
    let at = c.args.place.index in
    let bytes = c.index-journals-place.result.items in
    let f = text_there c.args.names.now _ files at _ (Some bytes) are (name_at c.args.names.now at _ c.requires.there.0)
    (known_at c.args.journals.now at c.index-journals-place.result c.requires.there.1 (sym c.index-journals-place.is)) in
    session_answered files c.args.image.now turn at c.args.place.count f.0 place f.1 (g.R.Read.remaining c.args.reader.now)
    (writer_contents g.O.Write.contents c.args.output.now) (writer_contents g.O.Write.contents c.replay_session.new.output)
    _ c.as_slice-journal.result.now c.from.result f.2 c.from.ensures
    (λ text is. text_same bytes text f.0.text (subst (λ b. IsJournal (Some b) text) c.as_slice-journal.ensures.value is) f.3)
    c.replay_session.result (g.E.Write.contents c.args.errors.now) (g.E.Write.contents c.replay_session.new.errors)
    c.replay_session.ensures.status

pub returns-clause-untold : goal.returns-clause-untold
returns-clause-untold g c files turn are place =
    let at = c.args.place.index in
    let bytes = c.index-journals-place.result.items in
    let f = text_there c.args.names.now _ files at _ (Some bytes) are (name_at c.args.names.now at _ c.requires.there.0)
    (known_at c.args.journals.now at c.index-journals-place.result c.requires.there.1 (sym c.index-journals-place.is)) in
    session_unanswered files c.args.image.now turn at c.args.place.count f.0 place f.1 (g.R.Read.remaining c.args.reader.now)
    (writer_contents g.O.Write.contents c.args.output.now) (writer_contents g.O.Write.contents c.replay_session.new.output)
    _ c.as_slice-journal.result.now c.from.result f.2 c.from.ensures
    (λ text is. text_same bytes text f.0.text (subst (λ b. IsJournal (Some b) text) c.as_slice-journal.ensures.value is) f.3)
    c.replay_session.result c.replay_session.ensures.untold
