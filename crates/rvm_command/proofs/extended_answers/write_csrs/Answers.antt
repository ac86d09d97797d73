use Rattle.std.proofs.Common.{arith}
use Rattle.rvm_command.proofs.Showing.{csrs_refused, csrs_written}
use Rattle.rvm_command.proofs.extended_answers.write_csrs.Goals as goal

pub returns-then-hart-len : goal.returns-then-hart-len
returns-then-hart-len g c =
    csrs_refused c.args.hart c.args.snapshot.now c.write_reply.result _ _ (omega (arith, c.if-hart-len.true, c.len.ensures.value)) c.write_reply.ensures

pub returns : goal.returns
returns g c =
    csrs_written c.args.hart c.args.snapshot.now c.write_hart_csrs.result _ _ c.csrs_at.result.mip c.csrs_at.result.csrs
    (omega (arith, c.if-hart-len.false, c.len.ensures.value)) c.csrs_at.ensures.csrs c.csrs_at.ensures.mip c.write_hart_csrs.ensures
