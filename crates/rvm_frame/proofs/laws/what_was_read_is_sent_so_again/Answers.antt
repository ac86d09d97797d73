use Rattle.rvm_frame.proofs.Verdicts.{sent_as_read}
use Rattle.rvm_frame.proofs.laws.what_was_read_is_sent_so_again.Goals as goal

pub returns : goal.returns
returns c = sent_as_read
