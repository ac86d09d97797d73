use Rattle.std.specs.Io.Buffered.{writer_contents}
use Rattle.rvm_move.proofs.Orders.{audited}
use Rattle.rvm_move.proofs.audit_command.audit_command.Goals as goal

pub returns-clause-order : goal.returns-clause-order
returns-clause-order g c =
    audited c.args.arguments.now c.args.image.now c.in_ok-audited.audited.status c.in_ok-audited.audited.hosts (writer_contents g.O.Write.contents c.args.output.now)
    (writer_contents g.O.Write.contents c.audit_over.new.output) c.in_ok-audited.ensures.hosts c.in_ok-audited.ensures.opened c.in_ok-audited.ensures.made
    c.in_ok-audited.ensures.order c.the_guest_of_an_order_never_moves.ensures
