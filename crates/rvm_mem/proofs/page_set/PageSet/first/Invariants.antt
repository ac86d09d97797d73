use Rattle.std.proofs.Common.{◌≡◌, ℕ, ◌<◌, get_or}
use Rattle.rvm_mem.proofs.page_set.PageSet.first.Given as goal

-- no page stands in the rows so far
abbrev pub invariant-loop-i : goal.invariant-loop-i
invariant-loop-i l = (r : ℕ) → r < l.i → get_or l.self-inside.rows.items r 0 ≡ 0
