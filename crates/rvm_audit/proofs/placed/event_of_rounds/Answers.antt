use Rattle.std.proofs.Common.{◌≤◌, subst}
use Rattle.rvm_recorder.specs.Entries.{silent}
use Rattle.rvm_audit.proofs.Commands.{round_stands, rounds_end}
use Rattle.rvm_audit.proofs.placed.event_of_rounds.Goals as goal

pub returns-then-skipped-len-clause-event : goal.returns-then-skipped-len-clause-event
returns-then-skipped-len-clause-event c =
    let r = c.args.rounds.now in
    rounds_end c.args.host r.turn r.harts r.steps r.drain r.count c.args.skipped
    (subst (λ n. n ≤ c.args.skipped) c.len.ensures c.if-skipped-len.true)

pub returns-clause-event : goal.returns-clause-event
returns-clause-event c =
    let r = c.args.rounds.now in
    let x = c.exchange_in.result in
    round_stands c.args.host r.turn r.harts r.steps r.drain r.count c.args.skipped (silent x.event x.reply) c.command_of-2.result
    c.exchange_in.ensures c.command_of-2.ensures
