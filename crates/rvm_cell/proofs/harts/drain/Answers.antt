use Rattle.std.proofs.Common.{rules, ◌≡◌, false, []}
use Rattle.std.specs.Prelude.{IfErr}
use Rattle.rvm_cell.specs.declared.end.WorkEnd.TheVariants.{LinkFault}
use Rattle.rvm_cell.specs.Calls.{Made}
use Rattle.rvm_cell.proofs.Calls.{written_failed_err, written_still_err}
use Rattle.rvm_cell.proofs.harts.drain.Goals as goal

pub returns-in_err-sent_by_guest-clause-err : goal.returns-in_err-sent_by_guest-clause-err
returns-in_err-sent_by_guest-clause-err g c =
    let last : Made (c.loop-drain.pair.at_a, c.loop-drain.pair.at_b) (c.sent_by_guest.new.self.at_a, c.sent_by_guest.new.self.at_b) [] [] false =
    search rules in
    written_still_err c.from_residual.result (c.args.pair.now.at_a, c.args.pair.now.at_b)
    (c.loop-drain.pair.at_a, c.loop-drain.pair.at_b) (c.sent_by_guest.new.self.at_a, c.sent_by_guest.new.self.at_b)
    (g.W.Write.contents c.args.writer.now) (g.W.Write.contents c.loop-drain.writer) c.loop-drain.invariant last

pub returns-in_err-write-clause-err : goal.returns-in_err-write-clause-err
returns-in_err-write-clause-err g c =
    let last : Made (c.loop-drain.pair.at_a, c.loop-drain.pair.at_b) (c.sent_by_guest.new.self.at_a, c.sent_by_guest.new.self.at_b)
    c.sent_by_guest.new.self.taken [] false = search rules in
    let fault : IfErr c.from_residual-in_err-write.result (λ e. e ≡ LinkFault) = search rules in
    written_failed_err c.from_residual-in_err-write.result (c.args.pair.now.at_a, c.args.pair.now.at_b)
    (c.loop-drain.pair.at_a, c.loop-drain.pair.at_b) (c.sent_by_guest.new.self.at_a, c.sent_by_guest.new.self.at_b)
    (g.W.Write.contents c.args.writer.now) (g.W.Write.contents c.loop-drain.writer) (g.W.Write.contents c.write.new.writer)
    c.sent_by_guest.new.self.taken c.loop-drain.invariant last fault
