use Rattle.std.proofs.Common.{None}
use Rattle.std.specs.Io.Buffered.{writer_contents}
use Rattle.either.specs.Either.{either}
use Rattle.rvm_program.specs.Ended.{written}
use Rattle.rvm_program.proofs.Ended.{end_written, status_written}
use Rattle.rvm_program.proofs.commands.run_read.Goals as goal

pub returns-clause-told : goal.returns-clause-told
returns-clause-told g c =
    status_written (g.F.NamedFiles.created_of c.args.files.now) c.args.arguments.now c.args.read.now.image.now
    c.args.read.now.input.now c.args.read.now.symbols.now
    (written (g.O.Write.contents c.args.output.now) (g.O.Write.contents c.run_command.new.output))
    (written (either (writer_contents g.F.Created.Write.contents) (λ s. None) c.in_ok-written.written.trace)
    (either (writer_contents g.F.Created.Write.contents) (λ s. None) c.run_command.new.files.trace))
    (written (either (writer_contents g.F.Created.Write.contents) (λ s. None) c.in_ok-written.written.report)
    (either (writer_contents g.F.Created.Write.contents) (λ s. None) c.run_command.new.files.report))
    c.in_ok-written.ensures.trace c.in_ok-written.ensures.report
    (written (g.E.Write.contents c.args.errors.now) (g.E.Write.contents c.run_command.new.errors))
    c.run_command.result c.run_command.ensures.status

pub returns-clause-end : goal.returns-clause-end
returns-clause-end g c =
    end_written (g.F.NamedFiles.created_of c.args.files.now) c.args.arguments.now c.args.read.now.image.now
    c.args.read.now.input.now c.args.read.now.symbols.now
    (written (g.O.Write.contents c.args.output.now) (g.O.Write.contents c.run_command.new.output))
    (written (either (writer_contents g.F.Created.Write.contents) (λ s. None) c.in_ok-written.written.trace)
    (either (writer_contents g.F.Created.Write.contents) (λ s. None) c.run_command.new.files.trace))
    (written (either (writer_contents g.F.Created.Write.contents) (λ s. None) c.in_ok-written.written.report)
    (either (writer_contents g.F.Created.Write.contents) (λ s. None) c.run_command.new.files.report))
    c.in_ok-written.ensures.trace c.in_ok-written.ensures.report c.run_command.ensures.output
