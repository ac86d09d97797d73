use Rattle.std.proofs.Common.{rules}
use Rattle.rvm_files.specs.Files.{IsApart}
use Rattle.rvm_program.specs.Ended.{written}
use Rattle.rvm_program.proofs.Ended.{asm_ended, asm_untold}
use Rattle.rvm_program.proofs.commands.asm.Goals as goal

pub returns-clause-ended : goal.returns-clause-ended
returns-clause-ended g c =
    let apart : IsApart (g.F.NamedFiles.bytes_of c.args.files.now c.args.arguments.now.output.now) c.deref-2.result.now =
    search rules in
    asm_ended (g.F.NamedFiles.bytes_of c.args.files.now)
    (written (g.E.Write.contents c.args.errors.now) (g.E.Write.contents c.asm_command.new.errors))
    (g.F.NamedFiles.created_of c.args.files.now) c.args.arguments.now
    c.deref-2.result.now c.in_ok-source.source.items
    (written (g.F.Created.Write.contents c.in_ok-file.file) (g.F.Created.Write.contents c.asm_command.new.output))
    c.asm_command.result c.deref-2.ensures.value c.in_ok-source.ensures.bytes apart c.in_ok-file.ensures.named c.asm_command.ensures.status

pub returns-clause-untold : goal.returns-clause-untold
returns-clause-untold g c =
    let apart : IsApart (g.F.NamedFiles.bytes_of c.args.files.now c.args.arguments.now.output.now) c.deref-2.result.now =
    search rules in
    asm_untold (g.F.NamedFiles.bytes_of c.args.files.now) (g.F.NamedFiles.created_of c.args.files.now) c.args.arguments.now
    c.deref-2.result.now c.in_ok-source.source.items
    (written (g.F.Created.Write.contents c.in_ok-file.file) (g.F.Created.Write.contents c.asm_command.new.output))
    c.asm_command.result c.deref-2.ensures.value c.in_ok-source.ensures.bytes apart c.in_ok-file.ensures.named
    c.asm_command.ensures.output
