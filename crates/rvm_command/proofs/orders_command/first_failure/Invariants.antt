use Rattle.std.proofs.Common.{◌<◌, ◌≤◌, ◌-◌}
use Rattle.std.specs.Prelude.{IfOk}
use Rattle.rvm_command.specs.Command.{image_of}
use Rattle.rvm_command.specs.Ends.{IsLoadable}
use Rattle.rvm_command.specs.Seeds.{PassBelow}
use Rattle.rvm_command.proofs.orders_command.first_failure.Given as goal

-- the runs so far pass
abbrev pub invariant-loop-seed : goal.invariant-loop-seed
invariant-loop-seed g l =
    record {
      seed : l.seed ≤ l.arguments.orders;
      loadable : 0 < l.seed → IsLoadable (image_of l.arguments.guest.raw l.image) l.arguments.guest.pages;
      passed : IfOk (image_of l.arguments.guest.raw l.image) (λ i. PassBelow l.arguments i l.input l.seed);
    }

abbrev pub decreases-loop-seed : goal.decreases-loop-seed
decreases-loop-seed g l = l.arguments.orders - l.seed
