use Rattle.rvm_program.specs.Ended.{written}
use Rattle.rvm_program.proofs.Ended.{move_ended, move_untold}
use Rattle.rvm_program.proofs.commands.move_guest.Goals as goal

pub returns-clause-ended : goal.returns-clause-ended
returns-clause-ended g c =
    move_ended (g.F.NamedFiles.bytes_of c.args.files.now)
    (written (g.O.Write.contents c.args.output.now) (g.O.Write.contents c.move_command.new.output))
    (written (g.E.Write.contents c.args.errors.now) (g.E.Write.contents c.move_command.new.errors))
    c.deref.result.now c.in_ok-image.image.items c.args.arguments.now c.move_command.result c.deref.ensures.value
    c.in_ok-image.ensures.bytes c.move_command.ensures.moved c.move_command.ensures.failed

pub returns-clause-untold : goal.returns-clause-untold
returns-clause-untold g c =
    move_untold (g.F.NamedFiles.bytes_of c.args.files.now)
    (written (g.O.Write.contents c.args.output.now) (g.O.Write.contents c.move_command.new.output))
    c.deref.result.now c.in_ok-image.image.items c.args.arguments.now c.move_command.result c.deref.ensures.value
    c.in_ok-image.ensures.bytes c.move_command.ensures.untold
