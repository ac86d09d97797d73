use Rattle.rvm_host_command.specs.Told.{IsLastStep}
use Rattle.rvm_host_command.proofs.answers.make_steps.Given as goal

abbrev pub invariant-loop-step : goal.invariant-loop-step
invariant-loop-step g l = IsLastStep g.L.Hosting.gave l.hart l.count l.made l.last
