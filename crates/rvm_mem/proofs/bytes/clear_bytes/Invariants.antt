use Rattle.std.proofs.Common.{◌≡◌, ◌*◌, ◌++◌, drop, replicate}
use Rattle.rvm_mem.proofs.Zeros.{Marked}
use Rattle.rvm_mem.proofs.bytes.clear_bytes.Given as goal

-- zeros so far, and what is left of the memory
abbrev pub invariant-loop-page : goal.invariant-loop-page
invariant-loop-page g l =
    record {
      bytes : g.M.Memory.bytes l.memory ≡ replicate (4096 * l.page) 0 ++ drop (4096 * l.page) (g.M.Memory.bytes l.fn.memory);
      dirty : Marked l.page (g.M.Memory.dirty l.fn.memory) (g.M.Memory.dirty l.memory);
    }
