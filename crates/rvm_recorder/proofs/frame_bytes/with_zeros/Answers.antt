use Rattle.std.proofs.Common.{◌∙◌, ◌++◌, ap}
use Rattle.rvm_frame.specs.Pages.{zeros}
use Rattle.rvm_recorder.proofs.frame_bytes.with_zeros.Goals as goal

pub returns : goal.returns
returns c =
    c.in_ok-extend_from_slice.ensures.items ∙ ap (λ xs. xs ++ zeros) c.in_ok-bytes.ensures.items
