use Rattle.rvm_command.proofs.Runs.{any_turns}
use Rattle.rvm_command.proofs.run.take_turns.Goals as goal

pub returns-else-is_more : goal.returns-else-is_more
returns-else-is_more g c = any_turns c.args.is_more c.args.count c.args.first c.args.guest.now c.turns.new.self c.turns.result c.if-is_more.false c.turns.ensures
