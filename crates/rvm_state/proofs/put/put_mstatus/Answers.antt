use Rattle.std.proofs.Common.{◌+◌, ◌^◌, ap, subst, ◌∙◌}
use Rattle.rvm_word.specs.Bits.{bit}
use Rattle.rvm_codec.specs.Codec.{any}
use Rattle.rvm_state.specs.Writing.{Writes}
use Rattle.rvm_state.proofs.Writing.{mstatus_written}
use Rattle.rvm_state.proofs.put.put_mstatus.Goals as goal

pub returns-clause-written : goal.returns-clause-written
returns-clause-written c =
    let bits = ap (λ n. n + c.bit-2.result) c.bit.ensures ∙ ap (λ n. bit (2 ^ 3) c.args.enabled + n) c.bit-2.ensures in
    mstatus_written (subst (λ n. Writes (any 4) n c.args.out.now.items c.put_u32.new.out.items) bits c.put_u32.ensures.written)
