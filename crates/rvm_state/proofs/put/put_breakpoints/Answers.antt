use Rattle.rvm_state.proofs.Writing.{breakpoints_written}
use Rattle.rvm_state.proofs.put.put_breakpoints.Goals as goal

pub returns : goal.returns
returns c = breakpoints_written c.requires.few c.requires.rising c.put_u8.ensures.written c.put_words.ensures.written
