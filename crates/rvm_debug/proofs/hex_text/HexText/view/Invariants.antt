use Rattle.std.proofs.Common.{◌≡◌, ◌++◌, length}
use Rattle.rvm_debug.proofs.hex_text.HexText.view.Given as goal

-- the bytes so far and those that are left are all
abbrev pub invariant-loop-byte : goal.invariant-loop-byte
invariant-loop-byte l = l.bytes.items ++ l.left ≡ l.fn.self

abbrev pub decreases-loop-byte : goal.decreases-loop-byte
decreases-loop-byte l = length l.left
