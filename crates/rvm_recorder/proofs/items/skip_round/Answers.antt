use Rattle.std.proofs.Common.{arith}
use Rattle.rvm_recorder.proofs.Tellings.{skipped_row}
use Rattle.rvm_recorder.proofs.items.skip_round.Goals as goal

pub returns : goal.returns
returns c =
    let a = c.args in
    skipped_row a.rounds.now a.index c.skip.result c.in-Some.row a.left.now c.skip.new.self a.until c.in-Some.ensures
    (omega (arith, c.skip.ensures.few, c.before-most.ensures.few)) c.skip.ensures.skipped
    (λ i less. c.before-most.ensures.free i (omega (arith, less, c.skip.ensures.few)))
