use Rattle.std.proofs.Common.{◌-◌, ◌*◌, ◌%◌, ◌^◌, ap, ◌∙◌, arith, of_z}
use Rattle.std.specs.Int.{w32}
use Rattle.std.specs.Int.Signed.{shr_z}
use Rattle.rvm_word.proofs.Casts.{carried, passed, extended}
use Rattle.rvm_word.proofs.sext.Goals as goal

pub returns : goal.returns
returns c =
    let unused = 32 - c.args.bits in
    let shifted = c.args.value * 2 ^ unused % 2 ^ 32 in
    let up = passed shifted c.cast_signed.result (omega arith) c.cast_signed.ensures in
    c.cast_unsigned.ensures
    ∙ ap (λ z. of_z w32 (carried w32 (shr_z z (2 ^ unused)))) up
    ∙ extended c.args.bits c.args.value c.requires.some c.requires.within
