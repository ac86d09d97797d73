use Rattle.rvm_program.specs.Ended.{written}
use Rattle.std.specs.Io.Buffered.{writer_contents}
use Rattle.rvm_program.proofs.Ended.{dis_ended, dis_untold}
use Rattle.rvm_program.proofs.commands.dis.Goals as goal

pub returns-clause-ended : goal.returns-clause-ended
returns-clause-ended g c =
    dis_ended (g.F.NamedFiles.bytes_of c.args.files.now)
    (written (g.E.Write.contents c.args.errors.now) (g.E.Write.contents c.dis_command.new.errors))
    c.deref.result.now c.in_ok-image.image.items (g.O.Write.contents c.args.output.now)
    (writer_contents (λ w. g.O.Write.contents w.now) c.in_ok-output.output)
    (writer_contents (λ w. g.O.Write.contents w.now) c.dis_command.new.output)
    c.deref.ensures.value c.in_ok-output.ensures.empty c.args.arguments.now
    c.dis_command.result c.in_ok-image.ensures.bytes
    c.dis_command.ensures.status

pub returns-clause-untold : goal.returns-clause-untold
returns-clause-untold g c =
    dis_untold (g.F.NamedFiles.bytes_of c.args.files.now)
    c.deref.result.now c.in_ok-image.image.items (g.O.Write.contents c.args.output.now)
    (writer_contents (λ w. g.O.Write.contents w.now) c.in_ok-output.output)
    (writer_contents (λ w. g.O.Write.contents w.now) c.dis_command.new.output)
    c.deref.ensures.value c.in_ok-output.ensures.empty c.args.arguments.now
    c.dis_command.result c.in_ok-image.ensures.bytes c.dis_command.ensures.output
