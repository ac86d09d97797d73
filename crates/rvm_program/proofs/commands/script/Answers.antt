use Rattle.std.proofs.Common.{◌≤◌, length, rules}
use Rattle.rvm_files.specs.Files.{image_limit}
use Rattle.rvm_files.proofs.Reading.{whole}
use Rattle.std.specs.Io.Buffered.{writer_contents}
use Rattle.rvm_program.specs.Ended.{written}
use Rattle.rvm_program.proofs.Ended.{script_ended, script_untold}
use Rattle.rvm_program.proofs.commands.script.Goals as goal

pub returns-clause-ended : goal.returns-clause-ended
returns-clause-ended g c =
    let few : length c.in_ok-image.image.items ≤ image_limit c.args.arguments.now.guest = search rules in
    let is = whole (g.F.NamedFiles.bytes_of c.args.files.now c.args.arguments.now.guest.image.now) c.in_ok-image.image.items
    (image_limit c.args.arguments.now.guest) c.in_ok-image.ensures.bytes few in
    script_ended (g.F.NamedFiles.bytes_of c.args.files.now)
    (written (g.E.Write.contents c.args.errors.now) (g.E.Write.contents c.script_command.new.errors))
    c.deref-2.result.now c.in_ok-image.image.items (g.O.Write.contents c.args.output.now)
    (writer_contents (λ w. g.O.Write.contents w.now) c.in_ok-output.output)
    (writer_contents (λ w. g.O.Write.contents w.now) c.script_command.new.output)
    c.deref-2.ensures.value c.in_ok-output.ensures.empty c.args.arguments.now _ c.script_command.result is c.in_ok-script.ensures.bytes c.script_command.ensures.status

pub returns-clause-untold : goal.returns-clause-untold
returns-clause-untold g c =
    let few : length c.in_ok-image.image.items ≤ image_limit c.args.arguments.now.guest = search rules in
    let is = whole (g.F.NamedFiles.bytes_of c.args.files.now c.args.arguments.now.guest.image.now) c.in_ok-image.image.items
    (image_limit c.args.arguments.now.guest) c.in_ok-image.ensures.bytes few in
    script_untold (g.F.NamedFiles.bytes_of c.args.files.now)
    c.deref-2.result.now c.in_ok-image.image.items (g.O.Write.contents c.args.output.now)
    (writer_contents (λ w. g.O.Write.contents w.now) c.in_ok-output.output)
    (writer_contents (λ w. g.O.Write.contents w.now) c.script_command.new.output)
    c.deref-2.ensures.value c.in_ok-output.ensures.empty c.args.arguments.now _
    c.script_command.result is c.in_ok-script.ensures.bytes c.script_command.ensures.output
