use Rattle.rvm_state.specs.Formats.{csrs}
use Rattle.rvm_state.proofs.Writing.{aligned_written, behind, mtvec_written}
use Rattle.rvm_state.proofs.put.put_csrs.Goals as goal

pub returns-clause-written : goal.returns-clause-written
unfolding csrs
returns-clause-written c = λ held.
    let all =
    behind c.put_mstatus.ensures.written
    (behind c.put_mie.ensures.written
    (behind (mtvec_written held.mtvec c.put_u32.ensures.written)
    (behind c.put_u32-2.ensures.written
    (behind (aligned_written held.mepc c.put_u32-3.ensures.written)
    (behind c.put_u32-4.ensures.written
    (behind c.put_u32-5.ensures.written
    (behind c.put_u64.ensures.written c.put_u64-2.ensures.written))))))) in
    record { bytes = all.bytes; fits = all.fits }
