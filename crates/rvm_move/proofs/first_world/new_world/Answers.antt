use Rattle.std.proofs.Common.{◌∙◌, ap, replicate, take}
use Rattle.std.proofs.lemmas.List.{take-replicate}
use Rattle.rvm_command.specs.Refusals.{refused}
use Rattle.rvm_core.specs.Worlds.{world_of}
use Rattle.rvm_move.proofs.ScriptEnded.{no_world, sized_hosts, world_of_hosts}
use Rattle.rvm_move.proofs.first_world.new_world.Goals as goal

-- src/first_world.rt:83:1
pub returns-in-Ok-clause-sized : goal.returns-in-Ok-clause-sized
returns-in-Ok-clause-sized g c = sized_hosts c.args.version c.args.hosts c.requires c.in-Ok.ensures.sized

pub returns-in-Ok-clause-world : goal.returns-in-Ok-clause-world
returns-in-Ok-clause-world g c =
    world_of_hosts (world_of c.in-Ok.world) c.args.version c.args.hosts c.args.guest.guest c.requires c.in-Ok.ensures.world

-- src/first_world.rt:71:1
pub returns-clause-refused : goal.returns-clause-refused
returns-clause-refused g c =
    no_world c.in-Err.error c.args.version c.args.hosts (take c.args.hosts (replicate 8 4096)) c.from-in-Err.result
    (take-replicate c.args.hosts 8 4096 c.requires) c.in-Err.ensures.size (c.from-in-Err.ensures ∙ ap refused c.from.ensures)
