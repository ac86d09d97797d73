use Rattle.std.proofs.Common.{length, ap, sym, ◌∙◌}
use Rattle.rvm_board.specs.Rounds.{share}
use Rattle.rvm_board.proofs.Shares.{no_share, none_risen}
use Rattle.rvm_board.proofs.rounds.count_turns.Goals as goal

-- no turn was made
pub returns-then-made-eq0-clause-harts : goal.returns-then-made-eq0-clause-harts
returns-then-made-eq0-clause-harts g c =
    let harts = length c.args.harts.now in
    sym (none_risen (λ k. share harts c.args.first c.args.made k) c.args.harts.now
    (λ k below. ap (λ i. share harts c.args.first i k) c.if-made-eq0.true ∙ no_share harts c.args.first k c.requires.first))
