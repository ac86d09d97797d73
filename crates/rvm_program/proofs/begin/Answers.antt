use Rattle.std.proofs.Common.{subst, sym}
use Rattle.std.specs.Prelude.{IfOk, OnErr}
use Rattle.rvm_program.specs.Ended.{HasEnded, ToTell, written}
use Rattle.rvm_program.proofs.Ended.{host_untold, tell_untold}
use Rattle.rvm_program.proofs.begin.Goals as goal

pub returns-in-Run-clause-untold : goal.returns-in-Run-clause-untold
returns-in-Run-clause-untold g c =
    let output = written (g.O.Write.contents c.args.output.now) (g.O.Write.contents c.run.new.output) in
    subst (λ a. IfOk c.run.result (λ told. OnErr told (ToTell (λ status errors.
    HasEnded (g.F.NamedFiles.bytes_of c.args.files.now) (g.F.NamedFiles.created_of c.args.files.now) a status
    (g.I.Read.remaining c.args.input.now) output errors)))) (sym c.in-Run.is) c.run.ensures.untold

pub returns-in-Live-clause-untold : goal.returns-in-Live-clause-untold
returns-in-Live-clause-untold g c =
    let output = written (g.O.Write.contents c.args.output.now) (g.O.Write.contents c.live.new.output) in
    subst (λ a. OnErr c.live.result (ToTell (λ status errors.
    HasEnded (g.F.NamedFiles.bytes_of c.args.files.now) (g.F.NamedFiles.created_of c.args.files.now) a status
    (g.I.Read.remaining c.args.input.now) output errors))) (sym c.in-Live.is) c.live.ensures.untold

pub returns-in-Orders-clause-untold : goal.returns-in-Orders-clause-untold
returns-in-Orders-clause-untold g c =
    let output = written (g.O.Write.contents c.args.output.now) (g.O.Write.contents c.run_orders.new.output) in
    subst (λ a. IfOk c.run_orders.result (λ told. OnErr told (ToTell (λ status errors.
    HasEnded (g.F.NamedFiles.bytes_of c.args.files.now) (g.F.NamedFiles.created_of c.args.files.now) a status
    (g.I.Read.remaining c.args.input.now) output errors)))) (sym c.in-Orders.is) c.run_orders.ensures.untold

pub returns-in-Debug-clause-untold : goal.returns-in-Debug-clause-untold
returns-in-Debug-clause-untold g c =
    let output = written (g.O.Write.contents c.args.output.now) (g.O.Write.contents c.debug.new.output) in
    subst (λ a. IfOk c.debug.result (λ told. OnErr told (ToTell (λ status errors.
    HasEnded (g.F.NamedFiles.bytes_of c.args.files.now) (g.F.NamedFiles.created_of c.args.files.now) a status
    (g.I.Read.remaining c.args.input.now) output errors)))) (sym c.in-Debug.is) c.debug.ensures.untold

pub returns-in-Script-clause-untold : goal.returns-in-Script-clause-untold
returns-in-Script-clause-untold g c =
    let output = written (g.O.Write.contents c.args.output.now) (g.O.Write.contents c.script.new.output) in
    subst (λ a. IfOk c.script.result (λ told. OnErr told (ToTell (λ status errors.
    HasEnded (g.F.NamedFiles.bytes_of c.args.files.now) (g.F.NamedFiles.created_of c.args.files.now) a status
    (g.I.Read.remaining c.args.input.now) output errors)))) (sym c.in-Script.is) c.script.ensures.untold

pub returns-in-Move-clause-untold : goal.returns-in-Move-clause-untold
returns-in-Move-clause-untold g c =
    let output = written (g.O.Write.contents c.args.output.now) (g.O.Write.contents c.move_guest.new.output) in
    subst (λ a. IfOk c.move_guest.result (λ told. OnErr told (ToTell (λ status errors.
    HasEnded (g.F.NamedFiles.bytes_of c.args.files.now) (g.F.NamedFiles.created_of c.args.files.now) a status
    (g.I.Read.remaining c.args.input.now) output errors)))) (sym c.in-Move.is) c.move_guest.ensures.untold

pub returns-in-Audit-clause-untold : goal.returns-in-Audit-clause-untold
returns-in-Audit-clause-untold g c =
    let output = written (g.O.Write.contents c.args.output.now) (g.O.Write.contents c.audit.new.output) in
    subst (λ a. IfOk c.audit.result (λ told. OnErr told (ToTell (λ status errors.
    HasEnded (g.F.NamedFiles.bytes_of c.args.files.now) (g.F.NamedFiles.created_of c.args.files.now) a status
    (g.I.Read.remaining c.args.input.now) output errors)))) (sym c.in-Audit.is) c.audit.ensures.untold

pub returns-in-Host-clause-untold : goal.returns-in-Host-clause-untold
returns-in-Host-clause-untold g c =
    let output = written (g.O.Write.contents c.args.output.now) (g.O.Write.contents c.host.new.output) in
    subst (λ a. OnErr c.host.result (ToTell (λ status errors.
    HasEnded (g.F.NamedFiles.bytes_of c.args.files.now) (g.F.NamedFiles.created_of c.args.files.now) a status
    (g.I.Read.remaining c.args.input.now) output errors))) (sym c.in-Host.is) (host_untold _ _ output c.host.result)

pub returns-in-Tell-clause-untold : goal.returns-in-Tell-clause-untold
returns-in-Tell-clause-untold g c =
    let output = written (g.O.Write.contents c.args.output.now) (g.O.Write.contents c.tell.new.output) in
    subst (λ a. OnErr c.tell.result (ToTell (λ status errors.
    HasEnded (g.F.NamedFiles.bytes_of c.args.files.now) (g.F.NamedFiles.created_of c.args.files.now) a status
    (g.I.Read.remaining c.args.input.now) output errors))) (sym c.in-Tell.is) (tell_untold c.tell.result)

pub returns-in-Replay-clause-untold : goal.returns-in-Replay-clause-untold
returns-in-Replay-clause-untold g c =
    let output = written (g.O.Write.contents c.args.output.now) (g.O.Write.contents c.replay.new.output) in
    subst (λ a. OnErr c.replay.result (ToTell (λ status errors.
    HasEnded (g.F.NamedFiles.bytes_of c.args.files.now) (g.F.NamedFiles.created_of c.args.files.now) a status
    (g.I.Read.remaining c.args.input.now) output errors))) (sym c.in-Replay.is) c.replay.ensures.untold

pub returns-in-ReplayTurns-clause-untold : goal.returns-in-ReplayTurns-clause-untold
returns-in-ReplayTurns-clause-untold g c =
    let output = written (g.O.Write.contents c.args.output.now) (g.O.Write.contents c.replay_turns.new.output) in
    subst (λ a. OnErr c.replay_turns.result (ToTell (λ status errors.
    HasEnded (g.F.NamedFiles.bytes_of c.args.files.now) (g.F.NamedFiles.created_of c.args.files.now) a status
    (g.I.Read.remaining c.args.input.now) output errors))) (sym c.in-ReplayTurns.is) c.replay_turns.ensures.untold

pub returns-in-AuditJournals-clause-untold : goal.returns-in-AuditJournals-clause-untold
returns-in-AuditJournals-clause-untold g c =
    let output = written (g.O.Write.contents c.args.output.now) (g.O.Write.contents c.audit_journals.new.output) in
    subst (λ a. OnErr c.audit_journals.result (ToTell (λ status errors.
    HasEnded (g.F.NamedFiles.bytes_of c.args.files.now) (g.F.NamedFiles.created_of c.args.files.now) a status
    (g.I.Read.remaining c.args.input.now) output errors))) (sym c.in-AuditJournals.is) c.audit_journals.ensures.untold
