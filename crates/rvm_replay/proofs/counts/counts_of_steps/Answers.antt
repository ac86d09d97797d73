use Rattle.std.proofs.Common.{◌∙◌, ap}
use Rattle.rvm_replay.specs.Counts.{counts_of, plus}
use Rattle.rvm_replay.proofs.Counting.{of_turns, steps_add}
use Rattle.rvm_replay.proofs.counts.counts_of_steps.Goals as goal

pub returns : goal.returns
returns c before =
    let s = c.args.steps in
    ap (λ added. plus (counts_of before) added) (c.numbers.ensures ∙ ap (λ n. of_turns n n) c.from-count.ensures)
    ∙ steps_add s.turn s.harts s.count before
