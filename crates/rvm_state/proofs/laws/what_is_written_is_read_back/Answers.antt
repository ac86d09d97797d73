use Rattle.std.proofs.Common.{length}
use Rattle.rvm_board.specs.State.{state_of}
use Rattle.rvm_state.proofs.Exact.{state_exact}
use Rattle.rvm_state.proofs.laws.what_is_written_is_read_back.Goals as goal

pub returns : goal.returns
returns c = λ g has. (state_exact (length g.board.shared.bytes)).again (state_of g) has.fits
