use Rattle.std.proofs.Common.{◌∙◌, ◌+◌, ◌-◌, ◌/◌, ◌%◌, ap, sym, Some}
use Rattle.rvm_recorder.specs.Told.{retired_entry}
use Rattle.rvm_recorder.proofs.InRounds.{drain_at, step_at}
use Rattle.rvm_recorder.proofs.left.hart_in.Goals as goal

pub returns-then-behind-rounds : goal.returns-then-behind-rounds
returns-then-behind-rounds c =
    let r = c.args.rounds.now in
    drain_at r.harts r.steps r.drain r.turn r.count c.args.skipped c.requires c.if-behind-rounds.true

pub returns : goal.returns
returns c =
    let r = c.args.rounds.now in
    let k = c.args.skipped in
    step_at r.harts r.steps r.drain r.turn r.count k c.requires c.if-behind-rounds.false
    ∙ ap (λ h. Some (retired_entry h)) (sym (c.hart_behind.ensures
    ∙ (λ i. (c.first.ensures.turn i + (k - k / (r.steps + 1))) % c.first.ensures.harts i)))
