use Rattle.std.proofs.Common.{◌-◌, ◌∙◌, sym}
use Rattle.rvm_board.specs.declared.event.BoardReply.TheVariants as answer
use Rattle.rvm_message.specs.Replies.{reply_of}
use Rattle.rvm_protocol.specs.Replies.{Answered}
use Rattle.rvm_core.specs.Steps.{stepping}
use Rattle.rvm_core.specs.Worlds.{world_of}
use Rattle.rvm_core.proofs.Stepping.{steps_begin, steps_ended, steps_one, steps_over}
use Rattle.rvm_core.proofs.world.World.more_steps.Goals as goal

pub loop-made-init : goal.loop-made-init
loop-made-init g c =
    record {
      below = c.requires;
      steps = steps_begin c.args.host c.args.hart (c.args.count - c.args.first) c.args.first
          (world_of c.args.self.now);
    }

pub returns-then-ends_steps : goal.returns-then-ends_steps
returns-then-ends_steps g c =
    let all = stepping c.args.host c.args.hart (c.args.count - c.args.first) c.args.first (Answered answer.Retired)
    (world_of c.args.self.now) in
    steps_ended all c.args.host c.args.hart c.args.count c.loop-made.made (reply_of c.step-reply.result)
    (world_of c.loop-made.self) (world_of c.step-reply.new.self) c.loop-made.invariant.steps
    c.loop-made.invariant.below c.step-reply.ensures.reply c.step-reply.ensures.next
    (sym c.ends_steps.ensures ∙ c.if-ends_steps.true)

pub loop-made-preserved : goal.loop-made-preserved
loop-made-preserved g c =
    let all = stepping c.args.host c.args.hart (c.args.count - c.args.first) c.args.first (Answered answer.Retired)
    (world_of c.args.self.now) in
    record {
      below = c.loop-made-test.true;
      steps = steps_one all c.args.host c.args.hart c.args.count c.loop-made.made (reply_of c.step-reply.result)
          (world_of c.loop-made.self) (world_of c.step-reply.new.self) c.loop-made.invariant.steps
          c.loop-made.invariant.below c.step-reply.ensures.reply c.step-reply.ensures.next
          (sym c.ends_steps.ensures ∙ c.if-ends_steps.false);
    }

pub returns : goal.returns
returns g c =
    let all = stepping c.args.host c.args.hart (c.args.count - c.args.first) c.args.first (Answered answer.Retired)
    (world_of c.args.self.now) in
    steps_over all c.args.host c.args.hart c.args.count c.loop-made.made (reply_of c.step.result)
    (world_of c.loop-made.self) (world_of c.step.new.self) c.loop-made.invariant.steps
    c.loop-made.invariant.below c.loop-made-test.false c.step.ensures.reply c.step.ensures.next
