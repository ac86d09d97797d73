use Rattle.std.proofs.Common.{◌≡◌, ◌++◌, take, drop}
use Rattle.rvm_mem.proofs.bytes.read_bytes.Given as goal

-- the bytes read so far, and what is left of the buffer
abbrev pub invariant-loop-i : goal.invariant-loop-i
invariant-loop-i g l =
    l.bytes ≡ take l.i (drop l.at (g.M.Memory.bytes l.memory)) ++ drop l.i l.fn.bytes
