use Rattle.std.proofs.Common.{◌<◌, sym, subst, arith}
use Rattle.rvm_board.specs.declared.event.BoardReply.{BoardReply}
use Rattle.rvm_protocol.specs.Replies.{Answered}
use Rattle.rvm_core.specs.Steps.{AreSteps, steps_of}
use Rattle.rvm_core.specs.Worlds.{world_of}
use Rattle.rvm_core.proofs.Stepping.{no_steps, steps_stopped}
use Rattle.rvm_core.proofs.world.World.steps.Goals as goal

pub returns-in_default : goal.returns-in_default
returns-in_default g c =
    let none = c.in_default.ensures in
    no_steps c.args.host c.args.hart c.args.count (world_of c.args.self.now) (omega (arith, none))

pub returns-in-Some-stop : goal.returns-in-Some-stop
returns-in-Some-stop g c =
    let one = c.in-Some.ensures in
    let less : c.in-Some.before_last < c.args.count = omega (arith, one) in
    let all = steps_of c.args.host c.args.hart c.args.count (world_of c.args.self.now) in
    subst (λ (r : BoardReply). AreSteps all (world_of c.turns-turns.new.self) c.turns-turns.result.made (Answered r))
    (sym c.reply.ensures)
    (steps_stopped c.args.host c.args.hart c.in-Some.before_last c.args.count (world_of c.args.self.now)
    (world_of c.turns-turns.new.self) c.turns-turns.result.made c.turns-turns.result.stop c.in-Some-stop.stop
    c.turns-turns.ensures less c.in-Some-stop.is)
