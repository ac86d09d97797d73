use Rattle.rvm_state.specs.Formats.{head}
use Rattle.rvm_state.proofs.Writing.{behind, within_written}
use Rattle.rvm_state.proofs.put.put_head.Goals as goal

pub returns-clause-written : goal.returns-clause-written
unfolding head
returns-clause-written c =
    behind (within_written 1 1 8 c.args.count c.args.out.now.items c.put_u8.new.out.items c.requires.some c.requires.bound c.put_u8.ensures.written)
    c.put_shared.ensures.written
