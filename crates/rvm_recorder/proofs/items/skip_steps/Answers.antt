use Rattle.std.proofs.Common.{◌≡◌, ◌+◌, arith}
use Rattle.rvm_recorder.proofs.Tellings.{skipped_some}
use Rattle.rvm_recorder.proofs.items.skip_steps.Goals as goal

pub returns : goal.returns
returns c =
    let s = c.args.steps.now in
    let a = c.args in
    let at : c.in-Some.turn ≡ s.steps.turn + a.index = omega (arith, c.in-Some.ensures, c.from.ensures) in
    skipped_some s a.index c.skip.result c.in-Some.turn a.left.now c.skip.new.self a.until
    (omega (arith, c.requires, c.skip.ensures.few, c.before-most.ensures.few)) at c.skip.ensures.skipped
    (λ i less. c.before-most.ensures.free i (omega (arith, less, c.skip.ensures.few)))
