use Rattle.std.proofs.Common.{ℕ, ap, ◌∙◌}
use Rattle.rand_xoshiro.specs.SplitMix64.{mix_u64}
use Rattle.rvm_command.proofs.Drawing.{state_is}
use Rattle.rvm_command.specs.Order.{number_drawn}
use Rattle.rvm_command.proofs.order.number_drawn.Goals as goal

pub returns : goal.returns
unfolding number_drawn
returns c =
    ap (λ (p : ℕ × ℕ). p.0) c.next_word.ensures
    ∙ ap (λ s. (mix_u64 s).0) (c.seed_from_u64.ensures.same
    ∙ state_is c.args.seed c.args.turn c.from.result c.from-2.result c.from.ensures c.from-2.ensures)
