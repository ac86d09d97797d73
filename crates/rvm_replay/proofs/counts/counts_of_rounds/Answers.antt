use Rattle.std.proofs.Common.{◌≡◌, ◌∙◌, ◌+◌, ◌*◌, ap}
use Rattle.rvm_replay.specs.Counts.{capped, counts_of, plus}
use Rattle.rvm_replay.proofs.Counting.{rounds_add}
use Rattle.rvm_replay.proofs.counts.counts_of_rounds.Goals as goal

pub returns : goal.returns
returns c before =
    let r = c.args.rounds in
    let turns = c.saturating_mul-turns.result in
    let events = c.saturating_add.result in
    let turns_are : turns ≡ capped (r.count * r.steps) =
    c.saturating_mul-turns.ensures ∙ (λ i. capped (c.from-count.ensures i * c.from-steps.ensures i)) in
    let events_are : events ≡ capped (turns + r.count) = c.saturating_add.ensures ∙ ap (λ n. capped (turns + n)) c.from-count.ensures in
    ap (λ added. plus (counts_of before) added) c.numbers.ensures
    ∙ rounds_add turns events r.turn r.harts r.steps r.drain r.count turns_are events_are before
