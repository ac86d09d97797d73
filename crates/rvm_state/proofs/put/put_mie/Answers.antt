use Rattle.std.proofs.Common.{subst}
use Rattle.rvm_codec.specs.Codec.{any}
use Rattle.rvm_state.specs.Writing.{Writes}
use Rattle.rvm_state.proofs.Writing.{mie_written}
use Rattle.rvm_state.proofs.put.put_mie.Goals as goal

pub returns-clause-written : goal.returns-clause-written
returns-clause-written c =
    mie_written (subst (λ n. Writes (any 4) n c.args.out.now.items c.put_u32.new.out.items) c.bits.ensures c.put_u32.ensures.written)
