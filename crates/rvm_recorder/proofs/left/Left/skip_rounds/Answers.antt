use Rattle.std.proofs.Common.{◌≡◌, ◌∙◌, ◌+◌, ◌++◌, drop, take, ap, sym, arith}
use Rattle.std.proofs.lemmas.List.{drop_more}
use Rattle.rvm_recorder.proofs.InRounds.{first_passed}
use Rattle.rvm_recorder.proofs.left.Left.skip_rounds.Goals as goal
use Rattle.rvm_recorder.specs.Items.{all_of, entries_at, rounds_of}

pub returns-clause-skipped : goal.returns-clause-skipped
returns-clause-skipped c =
    let l = c.self.inside in
    let n = c.min-n.result in
    let x = c.index-self-self.result in
    let rest = all_of (drop (l.passed + 1) l.items.now) in
    let split : all_of (drop l.passed l.items.now) ≡ entries_at c.look.result ++ rest =
    ap all_of (drop_more l.items.now l.passed x (omega (arith, c.if-self.false)))
    ∙ ap (λ z. z ++ rest) (sym c.look.ensures) in
    let none : l.skipped ≡ 0 = c.if-self-ne0.false in
    sym c.self.view_is ∙ ap (λ k. drop k (all_of (drop l.passed l.items.now))) none ∙ split
    ∙ first_passed n (rounds_of c.args.rounds.now) (entries_at c.look.result) rest (c.in_common.ensures.same n (omega (arith, c.min-n.ensures)))
    ∙ ap (λ z. take n (rounds_of c.args.rounds.now) ++ drop n z) (sym split)
