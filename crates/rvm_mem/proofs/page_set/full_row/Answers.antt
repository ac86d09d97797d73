use Rattle.std.proofs.Common.{◌≡◌, ◌-◌, ◌^◌, min, ap, ◌∙◌, arith}
use Rattle.std.proofs.lemmas.Nat.Bits.{ones_shr}
use Rattle.rvm_mem.proofs.page_set.full_row.Goals as goal

pub returns : goal.returns
returns c =
    ones_shr 64 (64 - c.min.result) (omega arith) ∙ ap (λ k. 2 ^ k - 1) (let e : 64 - (64 - c.min.result) ≡ min c.args.pages 64 = omega arith in e)
