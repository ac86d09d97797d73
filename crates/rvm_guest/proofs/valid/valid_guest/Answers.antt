use Rattle.std.proofs.Common.{length, ap, sym, ◌∙◌, arith}
use Rattle.rvm_board.specs.State.{State}
use Rattle.rvm_guest.proofs.Staying.{made_valid, no_harts, one_hart_more, sized, valid_so}
use Rattle.rvm_guest.proofs.valid.valid_guest.Goals as goal

pub loop-part-init : goal.loop-part-init
loop-part-init g c = no_harts c.as_slice-part-items.result.now

pub loop-part-preserved : goal.loop-part-preserved
loop-part-preserved g c =
    one_hart_more c.as_slice-part-items.result.now c.loop-part.part-index _ c.loop-part-test.true c.has_registers.ensures c.loop-part.invariant

pub returns : goal.returns
returns g c =
    let guest = c.args.guest.now.guest in
    let values = c.snapshot-snapshot.ensures in
    let size = ap length c.memory.ensures.bytes in
    let len = c.len-size.ensures in
    let whole = sym size ∙ sym len.length ∙ len.pages in
    let sizes = sized guest _ whole c.memory.ensures.some (omega (arith, size, len.length, len.bound)) in
    let parts = c.as_slice-part-items in
    valid_so guest
    (made_valid guest parts.result.now (parts.ensures.value ∙ ap (λ (s : State). s.harts) values.state) values.whole
    (λ k lt. c.loop-part.invariant k (omega (arith, lt, c.loop-part-test.false))) sizes.0 sizes.1)
