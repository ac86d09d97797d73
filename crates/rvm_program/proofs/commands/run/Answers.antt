use Rattle.std.proofs.Common.{◌≤◌, length, rules}
use Rattle.std.specs.Prelude.{OnErr, Result}
use Rattle.std.specs.Result.{IfOk}
use Rattle.rvm_command.specs.Ends.{RunHasStatus}
use Rattle.rvm_command.specs.declared.refused.Refused.{Refused}
use Rattle.rvm_command.specs.declared.run.Ended.{Ended}
use Rattle.rvm_files.specs.Files.{image_limit}
use Rattle.rvm_files.proofs.Reading.{whole}
use Rattle.rvm_program.specs.Ended.{HasRunTo, RunEnded, ToTell, written}
use Rattle.rvm_program.proofs.Ended.{begun_so, run_ended, run_untold}
use Rattle.rvm_program.proofs.commands.run.Goals as goal

pub returns-clause-ended : goal.returns-clause-ended
returns-clause-ended g c =
    let files = g.F.NamedFiles.bytes_of c.args.files.now in
    let created = g.F.NamedFiles.created_of c.args.files.now in
    let a = c.args.arguments.now in
    let output = written (g.O.Write.contents c.args.output.now) (g.O.Write.contents c.run_read.new.output) in
    let errors = written (g.E.Write.contents c.args.errors.now) (g.E.Write.contents c.run_read.new.errors) in
    let few : length c.in_ok-image.image.items ≤ image_limit c.args.arguments.now.guest = search rules in
    let is = whole (g.F.NamedFiles.bytes_of c.args.files.now c.args.arguments.now.guest.image.now) c.in_ok-image.image.items
    (image_limit c.args.arguments.now.guest) c.in_ok-image.ensures.bytes few in
    begun_so c.run_read.result
    (λ told. IfOk told (λ status. RunHasStatus a.status status
    (λ end. HasRunTo created a c.deref-2.result.now c.deref-3.result.now c.deref-4.result.now end output) errors.before errors.after))
    (λ told. IfOk told (λ status. RunEnded files created a status output errors))
    (λ told ended. run_ended files errors created a c.deref-2.result.now c.in_ok-image.image.items c.deref-3.result.now
    c.in_ok-input.input.items c.deref-4.result.now c.in_ok-symbols.symbols.items output told
    c.deref-2.ensures.value c.deref-3.ensures.value c.deref-4.ensures.value is c.in_ok-input.ensures.given
    c.in_ok-symbols.ensures.given ended)
    c.run_read.ensures.told

pub returns-clause-untold : goal.returns-clause-untold
returns-clause-untold g c =
    let files = g.F.NamedFiles.bytes_of c.args.files.now in
    let created = g.F.NamedFiles.created_of c.args.files.now in
    let a = c.args.arguments.now in
    let output = written (g.O.Write.contents c.args.output.now) (g.O.Write.contents c.run_read.new.output) in
    let few : length c.in_ok-image.image.items ≤ image_limit c.args.arguments.now.guest = search rules in
    let is = whole (g.F.NamedFiles.bytes_of c.args.files.now c.args.arguments.now.guest.image.now) c.in_ok-image.image.items
    (image_limit c.args.arguments.now.guest) c.in_ok-image.ensures.bytes few in
    begun_so c.run_read.result
    (λ told. (end : Result Ended Refused) × HasRunTo created a c.deref-2.result.now c.deref-3.result.now c.deref-4.result.now end output)
    (λ told. OnErr told (ToTell (λ status errors. RunEnded files created a status output errors)))
    (λ told end. run_untold files created a c.deref-2.result.now c.in_ok-image.image.items c.deref-3.result.now
    c.in_ok-input.input.items c.deref-4.result.now c.in_ok-symbols.symbols.items output told
    c.deref-2.ensures.value c.deref-3.ensures.value c.deref-4.ensures.value is c.in_ok-input.ensures.given
    c.in_ok-symbols.ensures.given end)
    c.run_read.ensures.end
