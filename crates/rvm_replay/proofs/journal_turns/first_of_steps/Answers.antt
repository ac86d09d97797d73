use Rattle.rvm_replay.proofs.JournalTurns.{steps_passed}
use Rattle.rvm_replay.proofs.journal_turns.first_of_steps.Goals as goal

pub returns-clause-passed : goal.returns-clause-passed
returns-clause-passed c =
    steps_passed c.args.steps.turn c.args.steps.harts c.args.steps.count c.args.turn c.if-turn-steps.false
