use Rattle.std.proofs.Common.{◌∙◌, arith}
use Rattle.rvm_debug.proofs.Running.{no_steps, steps_made, steps_refused, steps_stopped}
use Rattle.rvm_debug.proofs.lines.step.Goals as goal

pub returns-in_default : goal.returns-in_default
returns-in_default g c =
    let all = no_steps c.args.hart c.args.count c.args.board.now.guest c.args.board.now.dirty (omega arith) in
    record { count = all.count; last = all.reply; guest = all.guest; dirty = all.log }

pub returns-then-hart-harts : goal.returns-then-hart-harts
returns-then-hart-harts g c =
    let all = steps_refused c.args.hart c.args.count c.in-Some.before_last c.args.board.now.guest c.args.board.now.dirty (omega arith) (omega arith) in
    record { count = all.count; last = all.reply; guest = all.guest; dirty = all.log }

pub returns-in-Some-stop : goal.returns-in-Some-stop
returns-in-Some-stop g c =
    let all = steps_stopped c.args.hart c.args.count c.in-Some.before_last c.in-Some-stop.stop c.args.board.now c.turns-turns.new.self c.turns-turns.result (omega arith) (omega arith) c.turns-turns.ensures c.in-Some-stop.is in
    record { count = all.count; last = c.reply.ensures ∙ all.reply; guest = all.guest; dirty = all.log }

pub returns-in-None : goal.returns-in-None
returns-in-None g c =
    let all = steps_made c.args.hart c.args.count c.in-Some.before_last c.args.board.now c.turns-turns.new.self c.apply.new.self c.turns-turns.result c.apply.result (omega arith) (omega arith) c.turns-turns.ensures c.in-None.is c.apply.ensures.guest c.apply.ensures.dirty c.apply.ensures.reply in
    record { count = all.count; last = all.reply; guest = all.guest; dirty = all.log }
