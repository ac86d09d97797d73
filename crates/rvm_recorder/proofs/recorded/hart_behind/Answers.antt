use Rattle.std.proofs.Common.{◌+◌, ◌%◌, ◌∙◌, ap}
use Rattle.std.proofs.Math.Nat.{mod-add-mod}
use Rattle.rvm_recorder.proofs.recorded.hart_behind.Goals as goal

pub returns : goal.returns
returns c =
    let s = c.args.steps in
    ap (λ k. (s.turn % k + c.from.result) % k) c.from-harts.ensures ∙ ap (λ n. (s.turn % s.harts + n) % s.harts) c.from.ensures
    ∙ mod-add-mod s.turn s.harts s.count
