use Rattle.rvm_state.specs.Formats.{hart}
use Rattle.rvm_state.proofs.Writing.{aligned_written, behind}
use Rattle.rvm_state.proofs.put.put_hart.Goals as goal

pub returns-clause-written : goal.returns-clause-written
unfolding hart
returns-clause-written c = λ size held.
    let all =
    behind (aligned_written held.fields.pc c.put_u32.ensures.written)
    (behind c.put_registers.ensures.written
    (behind (c.put_csrs.ensures.written held.fields.csrs)
    (behind c.put_flag.ensures.written
    (behind c.put_u64.ensures.written
    (behind (c.put_reserved.ensures.written size held.reserved) c.put_flag-2.ensures.written))))) in
    record { bytes = all.bytes; fits = all.fits }
