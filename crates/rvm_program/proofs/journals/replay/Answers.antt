use Rattle.std.proofs.Common.{ℕ}
use Rattle.std.specs.Io.Buffered.{reader_remaining}
use Rattle.rvm_program.specs.Ended.{HasReplayed, Written, written}
use Rattle.rvm_program.proofs.ReplayEnds.{file_untold, replay_ended, replay_untold}
use Rattle.rvm_program.proofs.journals.replay.Goals as goal

pub returns-in-Ok-clause-ended : goal.returns-in-Ok-clause-ended
returns-in-Ok-clause-ended g c =
    replay_ended (g.F.NamedFiles.bytes_of c.args.files.now) c.args.arguments.now
    (reader_remaining g.F.Opened.Read.remaining c.in-Ok.opened.journal)
    c.in-Ok.opened.image.items (g.I.Read.remaining c.args.input.now)
    (written (g.O.Write.contents c.args.output.now) (g.O.Write.contents c.replay_opened.new.output))
    c.in-Ok.ensures.journal c.in-Ok.ensures.image c.replay_opened.result
    (written (g.E.Write.contents c.args.errors.now) (g.E.Write.contents c.replay_opened.new.errors)) c.replay_opened.ensures.ended

pub returns-in-Ok-clause-untold : goal.returns-in-Ok-clause-untold
returns-in-Ok-clause-untold g c =
    replay_untold (g.F.NamedFiles.bytes_of c.args.files.now) c.args.arguments.now
    (reader_remaining g.F.Opened.Read.remaining c.in-Ok.opened.journal)
    c.in-Ok.opened.image.items (g.I.Read.remaining c.args.input.now)
    (written (g.O.Write.contents c.args.output.now) (g.O.Write.contents c.replay_opened.new.output))
    c.in-Ok.ensures.journal c.in-Ok.ensures.image c.replay_opened.result c.replay_opened.ensures.untold

pub returns-in-Err-clause-untold : goal.returns-in-Err-clause-untold
returns-in-Err-clause-untold g c =
    let files = g.F.NamedFiles.bytes_of c.args.files.now in
    let output = written (g.O.Write.contents c.args.output.now) (g.O.Write.contents c.args.output.now) in
    let Ends : ℕ → Written → Type 0 = λ status errors. HasReplayed files c.args.arguments.now status
    (g.I.Read.remaining c.args.input.now) output errors in
    file_untold c.tell_file.result Ends files c.in-Err.path.now c.in-Err.why c.in-Err.ensures.refused
