use Rattle.rvm_program.specs.Ended.{written}
use Rattle.rvm_program.proofs.OrdersEnded.{orders_ended, orders_untold}
use Rattle.rvm_program.proofs.orders.run_orders.Goals as goal

pub returns-clause-ended : goal.returns-clause-ended
returns-clause-ended g c =
    orders_ended (g.F.NamedFiles.bytes_of c.args.files.now)
    (written (g.E.Write.contents c.args.errors.now) (g.E.Write.contents c.orders_command.new.errors))
    c.args.arguments.now c.deref.result.now c.in_ok-image.image.items c.deref-2.result.now c.in_ok-input.input.items
    (written (g.O.Write.contents c.args.output.now) (g.O.Write.contents c.orders_command.new.output))
    c.orders_command.result c.deref.ensures.value c.deref-2.ensures.value c.in_ok-image.ensures.bytes
    c.in_ok-input.ensures.given c.orders_command.ensures.status

pub returns-clause-untold : goal.returns-clause-untold
returns-clause-untold g c =
    orders_untold (g.F.NamedFiles.bytes_of c.args.files.now)
    c.args.arguments.now c.deref.result.now c.in_ok-image.image.items c.deref-2.result.now c.in_ok-input.input.items
    (written (g.O.Write.contents c.args.output.now) (g.O.Write.contents c.orders_command.new.output))
    c.orders_command.result c.deref.ensures.value c.deref-2.ensures.value c.in_ok-image.ensures.bytes
    c.in_ok-input.ensures.given c.orders_command.ensures.output
