use Rattle.std.proofs.Common.{◌<◌, subst, sym}
use Rattle.rvm_recorder.specs.Items.{rounds_of}
use Rattle.rvm_replay.specs.Turns.{IsPassed}
use Rattle.rvm_replay.proofs.JournalTurns.{rounds_passed}
use Rattle.rvm_replay.proofs.journal_turns.first_of_rounds.Goals as goal

pub returns-clause-passed : goal.returns-clause-passed
returns-clause-passed c =
    let r = c.args.rounds in
    subst (λ turns. IsPassed (rounds_of r) c.args.turn (record { turns = turns; entries = c.len.result }))
    (sym c.turns-turns.ensures)
    (rounds_passed r.turn r.harts r.steps r.drain r.count c.args.turn c.len.result c.len.ensures
    (subst (λ turns. turns < c.args.turn) c.turns-turns.ensures c.if-turn-turns.false))
