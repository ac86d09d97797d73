use Rattle.std.proofs.Common.{◌≡◌, drop}
use Rattle.rvm_codec.specs.Numbers.{rise_from}
use Rattle.rvm_codec.proofs.lists.u32s_rise.Given as goal

abbrev pub invariant-loop-n : goal.invariant-loop-n
invariant-loop-n l = rise_from l.low (drop l.n-index l.numbers) ≡ rise_from 0 l.numbers
