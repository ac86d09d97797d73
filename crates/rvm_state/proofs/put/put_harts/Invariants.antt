use Rattle.std.proofs.Common.{◌≡◌, ℕ, ◌+◌, ◌*◌, take, vec_len, vec_capacity}
use Rattle.rvm_board.specs.Restoring.{AreHeld}
use Rattle.rvm_state.specs.Formats.{hart}
use Rattle.rvm_state.specs.Writing.{WritesEach}
use Rattle.rvm_state.proofs.put.put_harts.Given as goal

-- the harts so far
abbrev pub invariant-loop-part : goal.invariant-loop-part
invariant-loop-part l = record {
  written : (size : ℕ) → AreHeld size l.harts → WritesEach (hart size) (take l.part-index l.harts) l.fn.out.items l.out.items;
  len : vec_len l.out ≡ vec_len l.fn.out + 187 * l.part-index;
  capacity : vec_capacity l.out ≡ vec_capacity l.fn.out;
}
