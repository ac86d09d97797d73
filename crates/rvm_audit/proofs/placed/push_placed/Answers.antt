use Rattle.std.proofs.Common.{◌∙◌, ap}
use Rattle.rvm_audit.specs.Placed.{all_events}
use Rattle.rvm_audit.proofs.Commands.{all_pushed}
use Rattle.rvm_audit.proofs.placed.push_placed.Goals as goal

pub returns : goal.returns
returns c = ap all_events c.in_ok-push.ensures.items ∙ all_pushed c.args.items.now.items c.args.placed
