use Rattle.std.proofs.Common.{◌∙◌, ◌++◌, ◌∷◌, [], ap}
use Rattle.std.specs.Prelude.{codes}
use Rattle.std.specs.Str.{bytes_eq}
use Rattle.rvm_journal.specs.Meetings.{meetings_in}
use Rattle.rvm_journal.specs.Told.{text_in}
use Rattle.rvm_journal.proofs.ReadJournals.{more_noted}
use Rattle.rvm_journal.proofs.read_journal.ReadJournal.add.Goals as goal

pub invariant_of-self-2 : goal.invariant_of-self-2
invariant_of-self-2 c =
    more_noted c.self.inside.text c.args.line.now.items c.with.result c.self.inside.header c.self.inside.meetings.items
    c.note_meeting.new.meetings.items c.self.inside.is_whole c.tells_end-self-inside.result c.self.invariant c.with.ensures
    c.requires
    (c.in_ok-note_meeting.ensures.noted
    ∙ ap (λ l. c.self.inside.meetings.items ++ meetings_in (l ∷ [])) c.deref.ensures.value)
    (c.tells_end-self-inside.ensures ∙ ap (λ l. bytes_eq (text_in l) (codes "end")) c.deref-2.ensures.value)
