use Rattle.rvm_guest.proofs.Pieces.{count_of_cut, cut_at}
use Rattle.rvm_guest.proofs.laws.a_piece_is_4096_bytes_of_a_state.Goals as goal

pub returns : goal.returns
returns c = record {
  count = λ numbers body. count_of_cut numbers body;
  bytes = λ numbers body place lt. cut_at numbers body place lt;
}
