use Rattle.std.proofs.Common.{Ok}
use Rattle.std.specs.Io.Buffered.{writer_contents}
use Rattle.rvm_command.specs.Command.{image_of}
use Rattle.rvm_core.specs.Worlds.{world_of}
use Rattle.rvm_move.specs.FirstWorld.{version_asked}
use Rattle.rvm_move.proofs.ScriptEnded.{answered_first}
use Rattle.rvm_move.proofs.script_command.answer_image.Goals as goal

-- src/script_command.rt:79:1
pub returns-in-Ok-clause-end : goal.returns-in-Ok-clause-end
returns-in-Ok-clause-end g c =
    let a = c.args.arguments.now in (
      (c.in_ok-world.ensures.loadable, c.in_ok-world.ensures.sized),
      answered_first (image_of a.guest.raw c.args.image.now) a.guest.harts a.guest.pages (version_asked a) a.hosts
          (world_of c.in_ok-world.world) (g.R.Read.remaining c.args.script.now) (Ok tt)
          (writer_contents g.O.Write.contents c.args.output.now) (writer_contents g.O.Write.contents c.answer.new.output)
          c.in_ok-world.ensures.world c.in_ok-world.ensures.shown c.in-Ok.ensures.end,
    )
