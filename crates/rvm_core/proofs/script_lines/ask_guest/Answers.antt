use Rattle.std.proofs.Common.{OnOk, subst}
use Rattle.std.specs.Io.KnownBytes.{Appends}
use Rattle.rvm_message.specs.Replies.{reply_of}
use Rattle.rvm_core.specs.Worlds.{world_of}
use Rattle.rvm_core.proofs.ScriptSteps.{steps_done}
use Rattle.rvm_core.proofs.script_lines.ask_guest.Goals as goal

pub returns-in-Steps-clause-text : goal.returns-in-Steps-clause-text
returns-in-Steps-clause-text g c = λ t.
    subst (λ text. OnOk c.write_steps_reply.result (Appends (g.W.Write.contents c.args.writer.now)
    (g.W.Write.contents c.write_steps_reply.new.writer) text))
    (steps_done c.args.host c.in-Steps.hart c.in-Steps.count c.args.line (world_of c.args.world.now)
    (world_of c.steps-steps.new.self) c.steps-steps.result.count (reply_of c.steps-steps.result.last) t c.in-Steps.is
    c.steps-steps.ensures).text
    c.write_steps_reply.ensures

pub returns-in-Steps-clause-world : goal.returns-in-Steps-clause-world
returns-in-Steps-clause-world g c = λ t.
    (steps_done c.args.host c.in-Steps.hart c.in-Steps.count c.args.line (world_of c.args.world.now)
    (world_of c.steps-steps.new.self) c.steps-steps.result.count (reply_of c.steps-steps.result.last) t c.in-Steps.is
    c.steps-steps.ensures).world
