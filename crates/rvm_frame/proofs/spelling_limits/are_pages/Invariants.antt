use Rattle.std.proofs.Common.{◌≡◌, drop}
use Rattle.std.specs.List.{list_all}
use Rattle.rvm_codec.specs.Numbers.{within}
use Rattle.rvm_frame.proofs.spelling_limits.are_pages.Given as goal

abbrev pub invariant-loop-n : goal.invariant-loop-n
invariant-loop-n l = list_all (within 0 4095) (drop l.n-index l.numbers) ≡ list_all (within 0 4095) l.numbers
