use Rattle.std.proofs.Common.{subst, sym}
use Rattle.rvm_board.specs.Restoring.{AreHeld}
use Rattle.rvm_board.specs.Snapshot.{state_in}
use Rattle.rvm_state.proofs.Wrote.{wrote}
use Rattle.rvm_state.proofs.put.put_snapshot.Goals as goal

pub returns : goal.returns
returns c = λ size held.
    let harts = c.as_slice-harts.ensures.value in
    wrote size (state_in c.args.snapshot.now) c.as_slice-harts.result.now c.as_slice.result.now c.as_slice-2.result.now c.as_slice-3.result.now _ _ _ _ _ _
    harts c.as_slice.ensures.value c.as_slice-2.ensures.value c.as_slice-3.ensures.value
    c.put_head.ensures.written (c.put_harts.ensures.written size (subst (AreHeld size) (sym harts) held))
    c.put_input.ensures.written c.put_output.ensures.written c.put_breakpoints.ensures
