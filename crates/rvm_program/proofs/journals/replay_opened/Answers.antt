use Rattle.std.proofs.Common.{◌∙◌, List, ℕ, inl, sym}
use Rattle.rvm_program.specs.Ended.{IsReplayEnd, IsReplayed, ToTell, Written, written}
use Rattle.rvm_program.proofs.ReplayEnds.{file_ended, file_session, file_untold, session_ended, session_untold, show_ended, show_untold, standard_session, with_text, with_text_untold}
use Rattle.rvm_program.proofs.journals.replay_opened.Goals as goal

pub returns-in_default-clause-ended : goal.returns-in_default-clause-ended
returns-in_default-clause-ended g c =
    let files = g.F.NamedFiles.bytes_of c.args.files.now in
    let known = g.J.Read.remaining c.args.opened.journal in
    let image = c.args.opened.image.items in
    let input = g.I.Read.remaining c.args.input.now in
    let output = written (g.O.Write.contents c.args.output.now) (g.O.Write.contents c.show_replay.new.output) in
    show_ended files c.args.arguments.now known image input output c.show_replay.result
    (written (g.E.Write.contents c.args.errors.now) (g.E.Write.contents c.show_replay.new.errors)) c.in_default.is c.show_replay.ensures.ended

pub returns-in_default-clause-untold : goal.returns-in_default-clause-untold
returns-in_default-clause-untold g c =
    let files = g.F.NamedFiles.bytes_of c.args.files.now in
    let known = g.J.Read.remaining c.args.opened.journal in
    let image = c.args.opened.image.items in
    let input = g.I.Read.remaining c.args.input.now in
    let output = written (g.O.Write.contents c.args.output.now) (g.O.Write.contents c.show_replay.new.output) in
    show_untold files c.args.arguments.now known image input output c.show_replay.result c.in_default.is
    c.show_replay.ensures.untold

pub returns-then-eq-clause-ended : goal.returns-then-eq-clause-ended
returns-then-eq-clause-ended g c =
    let files = g.F.NamedFiles.bytes_of c.args.files.now in
    let known = g.J.Read.remaining c.args.opened.journal in
    let image = c.args.opened.image.items in
    let input = g.I.Read.remaining c.args.input.now in
    let output = written (g.O.Write.contents c.args.output.now) (g.O.Write.contents c.answer_replay.new.output) in
    session_ended files c.args.arguments.now known image input output c.in-Some.script input c.in-Some.is
    (standard_session files c.in-Some.script.now input (sym c.eq.ensures ∙ c.if-eq.true)) c.answer_replay.result
    (written (g.E.Write.contents c.args.errors.now) (g.E.Write.contents c.answer_replay.new.errors)) (c.answer_replay.ensures.ended files)

pub returns-then-eq-clause-untold : goal.returns-then-eq-clause-untold
returns-then-eq-clause-untold g c =
    let files = g.F.NamedFiles.bytes_of c.args.files.now in
    let known = g.J.Read.remaining c.args.opened.journal in
    let image = c.args.opened.image.items in
    let input = g.I.Read.remaining c.args.input.now in
    let output = written (g.O.Write.contents c.args.output.now) (g.O.Write.contents c.answer_replay.new.output) in
    session_untold files c.args.arguments.now known image input output c.in-Some.script input c.in-Some.is
    (standard_session files c.in-Some.script.now input (sym c.eq.ensures ∙ c.if-eq.true)) c.answer_replay.result
    (c.answer_replay.ensures.untold files)

pub returns-in-Ok-clause-ended : goal.returns-in-Ok-clause-ended
returns-in-Ok-clause-ended g c =
    let files = g.F.NamedFiles.bytes_of c.args.files.now in
    let known = g.J.Read.remaining c.args.opened.journal in
    let image = c.args.opened.image.items in
    let input = g.I.Read.remaining c.args.input.now in
    let output = written (g.O.Write.contents c.args.output.now) (g.O.Write.contents c.answer_replay-in-Ok.new.output) in
    let session = g.F.Opened.Read.remaining c.in-Ok.script in
    session_ended files c.args.arguments.now known image input output c.in-Some.script session c.in-Some.is
    (file_session files c.in-Some.script.now input session (sym c.eq.ensures ∙ c.if-eq.false) c.in-Ok.ensures.bytes)
    c.answer_replay-in-Ok.result (written (g.E.Write.contents c.args.errors.now) (g.E.Write.contents c.answer_replay-in-Ok.new.errors))
    (c.answer_replay-in-Ok.ensures.ended files)

pub returns-in-Ok-clause-untold : goal.returns-in-Ok-clause-untold
returns-in-Ok-clause-untold g c =
    let files = g.F.NamedFiles.bytes_of c.args.files.now in
    let known = g.J.Read.remaining c.args.opened.journal in
    let image = c.args.opened.image.items in
    let input = g.I.Read.remaining c.args.input.now in
    let output = written (g.O.Write.contents c.args.output.now) (g.O.Write.contents c.answer_replay-in-Ok.new.output) in
    let session = g.F.Opened.Read.remaining c.in-Ok.script in
    session_untold files c.args.arguments.now known image input output c.in-Some.script session c.in-Some.is
    (file_session files c.in-Some.script.now input session (sym c.eq.ensures ∙ c.if-eq.false) c.in-Ok.ensures.bytes)
    c.answer_replay-in-Ok.result (c.answer_replay-in-Ok.ensures.untold files)

pub returns-in-Err-clause-ended : goal.returns-in-Err-clause-ended
returns-in-Err-clause-ended g c =
    let files = g.F.NamedFiles.bytes_of c.args.files.now in
    let known = g.J.Read.remaining c.args.opened.journal in
    let image = c.args.opened.image.items in
    let input = g.I.Read.remaining c.args.input.now in
    let output = written (g.O.Write.contents c.args.output.now) (g.O.Write.contents c.args.output.now) in
    let errors = (written (g.E.Write.contents c.args.errors.now) (g.E.Write.contents c.tell_file.new.errors)) in
    let Ends : List ℕ → ℕ → Written → Type 0 = λ journal status errors. IsReplayEnd files c.args.arguments.now
    c.args.arguments.now.script status journal image input output errors in
    with_text c.tell_file.result known (λ journal status. IsReplayed files c.args.arguments.now status journal image input output errors)
    (λ journal. file_ended c.tell_file.result (Ends journal) files c.in-Some.script.now c.in-Err.why errors
    (inl c.in-Err.ensures.refused) c.tell_file.ensures)

pub returns-in-Err-clause-untold : goal.returns-in-Err-clause-untold
returns-in-Err-clause-untold g c =
    let files = g.F.NamedFiles.bytes_of c.args.files.now in
    let known = g.J.Read.remaining c.args.opened.journal in
    let image = c.args.opened.image.items in
    let input = g.I.Read.remaining c.args.input.now in
    let output = written (g.O.Write.contents c.args.output.now) (g.O.Write.contents c.args.output.now) in
    let Ends : List ℕ → ℕ → Written → Type 0 = λ journal status errors. IsReplayEnd files c.args.arguments.now
    c.args.arguments.now.script status journal image input output errors in
    with_text_untold c.tell_file.result known (λ journal. ToTell (λ status errors. IsReplayed files c.args.arguments.now status
    journal image input output errors))
    (λ journal. file_untold c.tell_file.result (Ends journal) files c.in-Some.script.now c.in-Err.why (inl c.in-Err.ensures.refused))
