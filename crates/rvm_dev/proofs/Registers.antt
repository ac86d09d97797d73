-- What the table of device words says of harts.
use Rattle.std.proofs.Common.{ℕ, IfSome, arith}
use Rattle.std.proofs.lemmas.Grind.{common_steps}
use Rattle.rvm_dev.specs.Map.{register_at, IsOfHart}

-- a word that has a hart has one of the board's
pub register_at-IsOfHart : (harts address : ℕ) → IfSome (register_at harts address) (IsOfHart harts)
unfolding register_at
register_at-IsOfHart harts address = grind (arith, common_steps)
