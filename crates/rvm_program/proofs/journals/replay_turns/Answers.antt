use Rattle.std.proofs.Common.{List, ℕ, subst}
use Rattle.std.specs.Borrow.{Bor}
use Rattle.rvm_replay.specs.Journals.{known_in}
use Rattle.rvm_program.specs.Ended.{AreGiven, HaveMadeTurns, Written, written}
use Rattle.rvm_program.proofs.AuditedFiles.{read_long}
use Rattle.rvm_program.proofs.ReplayEnds.{file_untold}
use Rattle.rvm_program.proofs.TurnsEnds.{turns_ended, turns_untold}
use Rattle.rvm_program.proofs.journals.replay_turns.Goals as goal

pub replay_turns_read-requires : goal.replay_turns_read-requires
replay_turns_read-requires g c =
    let files = g.F.NamedFiles.bytes_of c.args.files.now in
    let known = known_in c.in-Ok.read.journals.items in
    let given = subst (λ (names : List (Bor (List ℕ))). AreGiven files names known) c.as_slice.ensures.value
    c.in-Ok.ensures.journals in
    read_long files c.args.arguments.now.journals.items c.in-Ok.read.journals.items given

pub returns-in-Ok-clause-ended : goal.returns-in-Ok-clause-ended
returns-in-Ok-clause-ended g c =
    let files = g.F.NamedFiles.bytes_of c.args.files.now in
    let known = known_in c.in-Ok.read.journals.items in
    let given = subst (λ (names : List (Bor (List ℕ))). AreGiven files names known) c.as_slice.ensures.value
    c.in-Ok.ensures.journals in
    turns_ended files c.args.arguments.now known c.in-Ok.read.image.items (g.I.Read.remaining c.args.input.now)
    (g.O.Write.contents c.args.output.now) given c.in-Ok.ensures.image c.replay_turns_read.result
    (written (g.E.Write.contents c.args.errors.now) (g.E.Write.contents c.replay_turns_read.new.errors))
    c.replay_turns_read.ensures.ended

pub returns-in-Ok-clause-untold : goal.returns-in-Ok-clause-untold
returns-in-Ok-clause-untold g c =
    let files = g.F.NamedFiles.bytes_of c.args.files.now in
    let known = known_in c.in-Ok.read.journals.items in
    let given = subst (λ (names : List (Bor (List ℕ))). AreGiven files names known) c.as_slice.ensures.value
    c.in-Ok.ensures.journals in
    turns_untold files c.args.arguments.now known c.in-Ok.read.image.items (g.I.Read.remaining c.args.input.now)
    (g.O.Write.contents c.args.output.now) given c.in-Ok.ensures.image c.replay_turns_read.result
    c.replay_turns_read.ensures.untold

pub returns-in-Err-clause-untold : goal.returns-in-Err-clause-untold
returns-in-Err-clause-untold g c =
    let files = g.F.NamedFiles.bytes_of c.args.files.now in
    let Ends : ℕ → Written → Type 0 = λ status errors. HaveMadeTurns files c.args.arguments.now status
    (g.I.Read.remaining c.args.input.now) (g.O.Write.contents c.args.output.now) errors in
    file_untold c.tell_file.result Ends files c.in-Err.path.now c.in-Err.why c.in-Err.ensures.refused
