use Rattle.std.proofs.Common.{◌<◌, ◌-◌}
use Rattle.rvm_board.specs.declared.event.BoardReply.TheVariants as answer
use Rattle.rvm_protocol.specs.Replies.{Answered}
use Rattle.rvm_core.specs.Steps.{stepping}
use Rattle.rvm_core.specs.Worlds.{world_of}
use Rattle.rvm_core.proofs.Stepping.{StepsLeft}
use Rattle.rvm_core.proofs.world.World.more_steps.Given as goal

-- the steps made so far, and those that are left, are all
abbrev pub invariant-loop-made : goal.invariant-loop-made
invariant-loop-made g l = record {
  below : l.made < l.count;
  steps : StepsLeft
      (stepping l.host l.hart (l.count - l.first) l.first (Answered answer.Retired) (world_of l.fn.self))
      l.host l.hart (l.count - l.made) l.made (world_of l.self);
}

abbrev pub decreases-loop-made : goal.decreases-loop-made
decreases-loop-made g l = l.count - l.made
