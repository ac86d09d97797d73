use Rattle.std.proofs.Common.{◌≡◌, ◌∙◌, ◌+◌, ◌++◌, drop, ap, sym, arith}
use Rattle.std.proofs.lemmas.List.{drop_more}
use Rattle.rvm_recorder.proofs.Spans.{skip_none}
use Rattle.rvm_recorder.proofs.left.Left.skip.Goals as goal
use Rattle.rvm_recorder.specs.Items.{all_of, entries_at, steps_in_turn}

pub returns-then-self-clause-skipped : goal.returns-then-self-clause-skipped
returns-then-self-clause-skipped c = skip_none c.args.turn c.args.harts c.args.self.now

pub returns-clause-skipped : goal.returns-clause-skipped
returns-clause-skipped c =
    let l = c.self.inside in
    let n = c.min-n.result in
    let x = c.index-self-self.result in
    let rest = all_of (drop (l.passed + 1) l.items.now) in
    let split : all_of (drop l.passed l.items.now) ≡ entries_at c.look.result ++ rest =
    ap all_of (drop_more l.items.now l.passed x (omega (arith, c.if-self.false)))
    ∙ ap (λ z. z ++ rest) (sym c.look.ensures) in
    sym c.self.view_is ∙ ap (drop l.skipped) split
    ∙ c.in_a_row.ensures.there n (omega (arith, c.min-n.ensures)) rest
    ∙ ap (λ z. steps_in_turn c.args.turn c.args.harts n ++ drop (l.skipped + n) z) (sym split)
