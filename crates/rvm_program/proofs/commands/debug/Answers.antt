use Rattle.rvm_program.specs.Ended.{written}
use Rattle.std.specs.Io.Buffered.{writer_contents}
use Rattle.rvm_program.proofs.Ended.{debug_ended, debug_untold}
use Rattle.rvm_program.proofs.commands.debug.Goals as goal

pub returns-clause-ended : goal.returns-clause-ended
returns-clause-ended g c =
    debug_ended (g.F.NamedFiles.bytes_of c.args.files.now)
    (written (g.E.Write.contents c.args.errors.now) (g.E.Write.contents c.debug_command.new.errors))
    c.deref.result.now c.in_ok-image.image.items (g.O.Write.contents c.args.output.now)
    (writer_contents (λ w. g.O.Write.contents w.now) c.in_ok-output.output)
    (writer_contents (λ w. g.O.Write.contents w.now) c.debug_command.new.output)
    c.deref.ensures.value c.in_ok-output.ensures.empty c.args.arguments.now (g.I.Read.remaining c.args.input.now)
    c.debug_command.result c.in_ok-image.ensures.bytes c.debug_command.ensures.status

pub returns-clause-untold : goal.returns-clause-untold
returns-clause-untold g c =
    debug_untold (g.F.NamedFiles.bytes_of c.args.files.now)
    c.deref.result.now c.in_ok-image.image.items (g.O.Write.contents c.args.output.now)
    (writer_contents (λ w. g.O.Write.contents w.now) c.in_ok-output.output)
    (writer_contents (λ w. g.O.Write.contents w.now) c.debug_command.new.output)
    c.deref.ensures.value c.in_ok-output.ensures.empty c.args.arguments.now (g.I.Read.remaining c.args.input.now)
    c.debug_command.result c.in_ok-image.ensures.bytes c.debug_command.ensures.output
