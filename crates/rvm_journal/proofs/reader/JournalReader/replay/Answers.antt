use Rattle.std.proofs.Common.{rules, ◌∙◌, ℕ, ◌+◌, List, ap, length, subst, sym}
use Rattle.rvm_debug.specs.Words.{lines}
use Rattle.rvm_journal.specs.declared.replay.JournalFault.TheVariants.{LinkFault, OutOfMemory}
use Rattle.rvm_journal.specs.Reading.{IfLong, IsOpened, IsTextOf}
use Rattle.rvm_journal.specs.Recorders.{HasMore, room_of}
use Rattle.rvm_journal.specs.Noting.{events_of}
use Rattle.rvm_journal.specs.Replaying.{IsJournalFault, IsLineFault, first_of, noted_at}
use Rattle.rvm_journal.specs.Told.{text_in}
use Rattle.rvm_journal.proofs.Reading.{ended, goes_on, has_more, if_long, more_behind, no_room, not_long_line, not_long_room, on_error, refused, spent, starts, unread}
use Rattle.rvm_journal.proofs.Replayed.{handed_on, own_digest}
use Rattle.rvm_journal.proofs.reader.JournalReader.replay.Goals as goal

pub loop-before-init : goal.loop-before-init
loop-before-init g c =
    let now = g.I.Read.remaining c.self.inside.input in
    starts c.args.hosts c.args.host c.args.self c.args.most now c.self.inside.read c.self.inside.digest.bytes
    (g.R.Recorder.recording c.args.recorder.now)
    (subst (λ o. IsOpened o.known now o.header c.self.inside.read c.self.inside.digest.bytes) c.self.view_is c.self.invariant)

pub returns-in_err-next_line-clause-fault : goal.returns-in_err-next_line-clause-fault
returns-in_err-next_line-clause-fault g c =
    let l = c.loop-before in
    let a = g.R.Recorder.recording c.args.recorder.now in
    let why = c.in_err-next_line.field-0.0 in
    handed_on (λ e. (text : List ℕ) × IsTextOf c.args.self text
    × IsJournalFault e c.args.most c.args.hosts c.args.host (lines text) a.capacity (room_of a)) why
    c.from_residual.result c.from_residual.ensures.1
    (unread c.args.hosts c.args.host c.args.self c.args.most l.left (g.I.Read.remaining l.input) l.read l.digest.bytes l.before
    (l.before + 1) why a (g.R.Recorder.recording l.recorder) l.invariant c.in_err-next_line.ensures.fault)

pub returns-in_err-next_line-clause-long : goal.returns-in_err-next_line-clause-long
returns-in_err-next_line-clause-long g c =
    let l = c.loop-before in
    let a = g.R.Recorder.recording c.args.recorder.now in
    let why = c.in_err-next_line.field-0.0 in
    handed_on (IfLong c.args.self.known) why c.from_residual.result c.from_residual.ensures.1
    (if_long c.args.hosts c.args.host c.args.self c.args.most l.left (g.I.Read.remaining l.input) l.read l.digest.bytes l.before
    why a (g.R.Recorder.recording l.recorder) l.invariant c.in_err-next_line.ensures.fault)

pub returns-then-not-is_wanted-clause-told : goal.returns-then-not-is_wanted-clause-told
returns-then-not-is_wanted-clause-told g c =
    let l = c.loop-before in
    spent c.args.hosts c.args.host c.args.self c.args.most l.left (g.I.Read.remaining l.input) l.read l.digest.bytes l.before
    (g.R.Recorder.recording c.args.recorder.now) (g.R.Recorder.recording l.recorder) l.invariant (search rules)

pub returns-then-not-branch-clause-told : goal.returns-then-not-branch-clause-told
returns-then-not-branch-clause-told g c =
    let l = c.loop-before in
    ended c.args.hosts c.args.host c.args.self c.args.most l.left (g.I.Read.remaining l.input) l.read l.digest.bytes l.before
    (g.R.Recorder.recording c.args.recorder.now) (g.R.Recorder.recording l.recorder) l.invariant (search rules)

pub returns-in_err-noted-clause-fault : goal.returns-in_err-noted-clause-fault
returns-in_err-noted-clause-fault g c =
    let l = c.loop-before in
    let a = g.R.Recorder.recording c.args.recorder.now in
    let why = c.in_err-noted.field-0.0 in
    let line = c.next_line.new.line.items in
    let next = c.after-digest.result.bytes in
    handed_on (λ e. (text : List ℕ) × IsTextOf c.args.self text
    × IsJournalFault e c.args.most c.args.hosts c.args.host (lines text) a.capacity (room_of a)) why
    c.from_residual-in_err-noted.result c.from_residual-in_err-noted.ensures.1
    (refused c.args.hosts c.args.host c.args.self c.args.most l.left (g.I.Read.remaining l.input)
    (g.I.Read.remaining c.next_line.new.input) l.read line l.digest.bytes next l.before why a
    (g.R.Recorder.recording l.recorder) l.invariant (search rules) (search rules) (search rules)
    (own_digest l.digest.bytes next c.text_in.result.now line c.after-digest.ensures
    (c.text_in.ensures ∙ ap text_in c.deref.ensures.value))
    (subst (IsLineFault why c.args.hosts c.args.host (l.before + 1) next) c.deref-in-loop-before.ensures.value
    c.in_err-noted.ensures.fault))

pub returns-in_err-noted-clause-long : goal.returns-in_err-noted-clause-long
returns-in_err-noted-clause-long g c =
    let why = c.in_err-noted.field-0.0 in
    handed_on (IfLong c.args.self.known) why c.from_residual-in_err-noted.result c.from_residual-in_err-noted.ensures.1
    (not_long_line c.args.self.known why c.args.hosts c.args.host (c.loop-before.before + 1) c.after-digest.result.bytes
    c.deref-in-loop-before.result.now c.in_err-noted.ensures.fault)

pub returns-in_err-left-clause-fault : goal.returns-in_err-left-clause-fault
returns-in_err-left-clause-fault g c =
    let l = c.loop-before in
    let a = g.R.Recorder.recording c.args.recorder.now in
    let why = c.in_err-left.field-0.0 in
    let line = c.next_line.new.line.items in
    let next = c.after-digest.result.bytes in
    handed_on (λ e. (text : List ℕ) × IsTextOf c.args.self text
    × IsJournalFault e c.args.most c.args.hosts c.args.host (lines text) a.capacity (room_of a)) why
    c.from_residual-in_err-left.result c.from_residual-in_err-left.ensures.1
    (no_room c.args.hosts c.args.host c.args.self c.args.most l.left (g.I.Read.remaining l.input)
    (g.I.Read.remaining c.next_line.new.input) l.read line l.digest.bytes next l.before c.in_ok-noted.noted why a
    (g.R.Recorder.recording l.recorder) l.invariant (search rules) (search rules)
    (own_digest l.digest.bytes next c.text_in.result.now line c.after-digest.ensures
    (c.text_in.ensures ∙ ap text_in c.deref.ensures.value))
    (ap (noted_at c.args.hosts c.args.host next) (sym c.deref-in-loop-before.ensures.value) ∙ c.in_ok-noted.ensures.noted)
    c.in_err-left.ensures.room)

pub returns-in_err-left-clause-long : goal.returns-in_err-left-clause-long
returns-in_err-left-clause-long g c =
    let why = c.in_err-left.field-0.0 in
    handed_on (IfLong c.args.self.known) why c.from_residual-in_err-left.result c.from_residual-in_err-left.ensures.1
    (not_long_room c.args.self.known why (length (first_of c.loop-before.left (events_of c.in_ok-noted.noted))) (g.R.Recorder.recording c.loop-before.recorder) c.in_err-left.ensures.room)

pub returns-in_err-next_line-clause-more : goal.returns-in_err-next_line-clause-more
returns-in_err-next_line-clause-more g c =
    let l = c.loop-before in
    let a = g.R.Recorder.recording c.args.recorder.now in
    let b = g.R.Recorder.recording l.recorder in
    on_error c.from_residual.result (HasMore a b)
    (has_more c.args.hosts c.args.host c.args.self c.args.most l.left (g.I.Read.remaining l.input) l.read l.digest.bytes l.before
    a b l.invariant)

pub returns-in_err-noted-clause-more : goal.returns-in_err-noted-clause-more
returns-in_err-noted-clause-more g c =
    let l = c.loop-before in
    let a = g.R.Recorder.recording c.args.recorder.now in
    let b = g.R.Recorder.recording l.recorder in
    on_error c.from_residual-in_err-noted.result (HasMore a b)
    (has_more c.args.hosts c.args.host c.args.self c.args.most l.left (g.I.Read.remaining l.input) l.read l.digest.bytes l.before
    a b l.invariant)

pub returns-in_err-left-clause-more : goal.returns-in_err-left-clause-more
returns-in_err-left-clause-more g c =
    let l = c.loop-before in
    let a = g.R.Recorder.recording c.args.recorder.now in
    let b = g.R.Recorder.recording l.recorder in
    let d = g.R.Recorder.recording c.do_first.new.recorder in
    on_error c.from_residual-in_err-left.result (HasMore a d)
    (more_behind a b d
    (has_more c.args.hosts c.args.host c.args.self c.args.most l.left (g.I.Read.remaining l.input) l.read l.digest.bytes l.before
    a b l.invariant)
    c.in_err-left.ensures.more)

pub returns-then-is_err-clause-fault : goal.returns-then-is_err-clause-fault
returns-then-is_err-clause-fault g c =
    let l = c.loop-before in
    let a = g.R.Recorder.recording c.args.recorder.now in
    let u = unread c.args.hosts c.args.host c.args.self c.args.most l.left (g.I.Read.remaining l.input) l.read l.digest.bytes
    l.before (l.before + 1) OutOfMemory a (g.R.Recorder.recording l.recorder) l.invariant tt in
    (u.0, u.1, tt)

pub returns-then-is_err-clause-more : goal.returns-then-is_err-clause-more
returns-then-is_err-clause-more g c =
    let l = c.loop-before in
    let a = g.R.Recorder.recording c.args.recorder.now in
    let b = g.R.Recorder.recording l.recorder in
    more_behind a b (g.R.Recorder.recording c.do_first.new.recorder)
    (has_more c.args.hosts c.args.host c.args.self c.args.most l.left (g.I.Read.remaining l.input) l.read l.digest.bytes l.before
    a b l.invariant)
    (first_of l.left (events_of c.in_ok-noted.noted), c.in_ok-left.ensures.done)

pub loop-before-preserved : goal.loop-before-preserved
loop-before-preserved g c =
    let l = c.loop-before in
    let line = c.next_line.new.line.items in
    let next = c.after-digest.result.bytes in
    goes_on c.args.hosts c.args.host c.args.self c.args.most l.left c.in_ok-left.left
    (g.I.Read.remaining l.input) (g.I.Read.remaining c.next_line.new.input) l.read line c.add.new.self l.digest.bytes next
    l.before c.in_ok-noted.noted (g.R.Recorder.recording c.args.recorder.now)
    (g.R.Recorder.recording l.recorder) (g.R.Recorder.recording c.do_first.new.recorder) l.invariant
    (search rules) (search rules)
    (own_digest l.digest.bytes next c.text_in.result.now line c.after-digest.ensures
    (c.text_in.ensures ∙ ap text_in c.deref.ensures.value))
    (ap (noted_at c.args.hosts c.args.host next) (sym c.deref-in-loop-before.ensures.value) ∙ c.in_ok-noted.ensures.noted)
    c.in_ok-left.ensures.done c.in_ok-left.ensures.left (search rules)

pub returns-clause-fault : goal.returns-clause-fault
returns-clause-fault g c =
    let l = c.loop-before in
    unread c.args.hosts c.args.host c.args.self c.args.most l.left (g.I.Read.remaining l.input) l.read l.digest.bytes l.before
    (l.before + 1) LinkFault (g.R.Recorder.recording c.args.recorder.now) (g.R.Recorder.recording l.recorder) l.invariant tt
