use Rattle.std.proofs.Common.{◌≡◌, ◌≤◌, ◌-◌, take, length}
use Rattle.rvm_mem.specs.Bytes.{replaced}
use Rattle.rvm_hart.specs.Bus.{ram_base}
use Rattle.rvm_elf.specs.Placing.{with_ram}
use Rattle.rvm_elf.proofs.loading.write_bytes.Given as goal

-- the bytes so far are written
abbrev pub invariant-loop-done : goal.invariant-loop-done
invariant-loop-done g l = record {
  board : l.board ≡ with_ram (replaced (l.address - ram_base) (take l.done l.bytes) l.fn.board.plain.shared.bytes) l.fn.board;
  most : l.done ≤ length l.bytes;
}

abbrev pub decreases-loop-done : goal.decreases-loop-done
decreases-loop-done g l = length l.bytes - l.done
