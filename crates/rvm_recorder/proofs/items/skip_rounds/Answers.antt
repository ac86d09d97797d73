use Rattle.std.proofs.Common.{arith}
use Rattle.rvm_recorder.proofs.Tellings.{skipped_rounds}
use Rattle.rvm_recorder.proofs.items.skip_rounds.Goals as goal

pub returns : goal.returns
returns c =
    let a = c.args in
    skipped_rounds a.rounds.now c.skip_rounds.result a.left.now c.skip_rounds.new.self a.until
    c.skip_rounds.ensures.within c.skip_rounds.ensures.skipped
    (λ i less. c.before-most.ensures.free i (omega (arith, less, c.skip_rounds.ensures.few)))
