use Rattle.std.proofs.Common.{◌∙◌, sym}
use Rattle.rvm_board.specs.declared.event.BoardReply.TheVariants as answer
use Rattle.rvm_message.specs.Replies.{reply_of}
use Rattle.rvm_protocol.specs.Replies.{Answered}
use Rattle.rvm_core.specs.Worlds.{world_of}
use Rattle.rvm_core.specs.Runs.{standing}
use Rattle.rvm_core.specs.WorldScript.{inputs}
use Rattle.rvm_core.proofs.ScriptSteps.{inputs_ended, inputs_one, inputs_over}
use Rattle.rvm_core.proofs.script_lines.input.Goals as goal

pub returns-then-not-is_taken : goal.returns-then-not-is_taken
returns-then-not-is_taken g c = λ t.
    inputs_ended (inputs c.args.host c.args.bytes (Answered answer.Done) (standing (world_of c.args.world.now) t))
    c.args.host c.in-Some.byte c.loop-byte.left c.in-Some.behind (reply_of c.loop-byte.last)
    (reply_of c.ask-last.result) (world_of c.loop-byte.world) (world_of c.ask-last.new.world)
    (c.loop-byte.invariant t) c.in-Some.ensures
    (sym c.is_taken.ensures ∙ c.if-not-is_taken.true) c.ask-last.ensures.reply c.ask-last.ensures.next

pub loop-byte-preserved : goal.loop-byte-preserved
loop-byte-preserved g c = λ t.
    inputs_one (inputs c.args.host c.args.bytes (Answered answer.Done) (standing (world_of c.args.world.now) t))
    c.args.host c.in-Some.byte c.loop-byte.left c.in-Some.behind (reply_of c.loop-byte.last)
    (reply_of c.ask-last.result) (world_of c.loop-byte.world) (world_of c.ask-last.new.world)
    (c.loop-byte.invariant t) c.in-Some.ensures
    (sym c.is_taken.ensures ∙ c.if-not-is_taken.false) c.ask-last.ensures.reply c.ask-last.ensures.next

pub returns : goal.returns
returns g c = λ t.
    inputs_over (inputs c.args.host c.args.bytes (Answered answer.Done) (standing (world_of c.args.world.now) t))
    c.args.host c.loop-byte.left (reply_of c.loop-byte.last) (world_of c.loop-byte.world) (c.loop-byte.invariant t)
    c.in_default.ensures
