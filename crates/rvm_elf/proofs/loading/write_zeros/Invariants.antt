use Rattle.std.proofs.Common.{◌≡◌, ◌≤◌, ◌-◌, replicate}
use Rattle.rvm_mem.specs.Bytes.{replaced}
use Rattle.rvm_hart.specs.Bus.{ram_base}
use Rattle.rvm_elf.specs.Placing.{with_ram}
use Rattle.rvm_elf.proofs.loading.write_zeros.Given as goal

-- the zeros so far are written
abbrev pub invariant-loop-done : goal.invariant-loop-done
invariant-loop-done g l = record {
  board : l.board ≡ with_ram (replaced (l.address - ram_base) (replicate l.done 0) l.fn.board.plain.shared.bytes) l.fn.board;
  most : l.done ≤ l.count;
}

abbrev pub decreases-loop-done : goal.decreases-loop-done
decreases-loop-done g l = l.count - l.done
