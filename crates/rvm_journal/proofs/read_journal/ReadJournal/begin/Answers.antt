use Rattle.std.proofs.Common.{◌∙◌, ◌++◌, ◌∷◌, [], ap}
use Rattle.std.specs.Prelude.{codes}
use Rattle.std.specs.Str.{bytes_eq}
use Rattle.rvm_journal.specs.Meetings.{meetings_in}
use Rattle.rvm_journal.specs.Told.{text_in}
use Rattle.rvm_journal.proofs.ReadJournals.{first_noted}
use Rattle.rvm_journal.proofs.read_journal.ReadJournal.begin.Goals as goal

pub invariant_of-result : goal.invariant_of-result
invariant_of-result c =
    first_noted c.args.line.now.items c.with-2.result c.args.header c.note_meeting.new.meetings.items c.tells_end.result
    (c.with-2.ensures ∙ ap (λ t. t ++ (c.args.line.now.items ++ codes "\n")) c.none.ensures)
    c.requires.one c.requires.header
    (c.in_ok-note_meeting.ensures.noted ∙ ap (λ ms. ms ++ meetings_in (c.deref.result.now ∷ [])) c.new-meetings.ensures.items
    ∙ ap (λ l. meetings_in (l ∷ [])) c.deref.ensures.value)
    (c.tells_end.ensures ∙ ap (λ l. bytes_eq (text_in l) (codes "end")) c.deref-2.ensures.value)
