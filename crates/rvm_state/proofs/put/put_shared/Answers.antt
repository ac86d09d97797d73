use Rattle.rvm_state.specs.Formats.{shared}
use Rattle.rvm_state.proofs.Writing.{behind}
use Rattle.rvm_state.proofs.put.put_shared.Goals as goal

pub returns-clause-written : goal.returns-clause-written
unfolding shared
returns-clause-written c =
    let all =
    behind c.put_status.ensures.written
    (behind c.put_flag.ensures.written (behind c.put_flag-2.ensures.written c.put_u64.ensures.written)) in
    record { bytes = all.bytes; fits = all.fits }
