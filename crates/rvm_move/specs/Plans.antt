-- The plan that the arguments of a move ask for.
use Rattle.rvm_arguments.specs.declared.arguments.MoveArguments.{MoveArguments}
use Rattle.rvm_move.specs.declared.plan.Plan.{Plan}

-- the plan: at most `steps` turns of the board's harts, pre-copy with this policy and at this bandwidth, streams of this
-- version
abbrev pub plan_of : MoveArguments → Plan
plan_of a = record {
  harts = a.guest.harts;
  steps = a.steps;
  policy = record { max_rounds = a.rounds; min_left = a.left; factor = a.factor };
  bandwidth = a.bandwidth;
  version = a.stream;
}
