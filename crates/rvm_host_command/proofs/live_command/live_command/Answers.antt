use Rattle.std.specs.Result.{result_ok}
use Rattle.rvm_host_command.proofs.Living.{live_end}
use Rattle.rvm_host_command.proofs.live_command.live_command.Goals as goal

pub returns-clause-output : goal.returns-clause-output
returns-clause-output g c =
    let ended = c.run_live-ended.result in
    let before = g.O.Write.contents c.args.output.now in
    let now = g.O.Write.contents c.run_live-ended.new.output in
    (result_ok ended, live_end c.args.arguments.now c.args.image.now before now ended c.run_live-ended.ensures.shown c.run_live-ended.ensures.unbegun)
