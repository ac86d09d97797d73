use Rattle.std.proofs.Common.{◌≡◌, ◌∙◌, drop, slice_set, ap, sym}
use Rattle.rvm_frame.specs.Pages.{zeros}
use Rattle.rvm_recorder.specs.Keeping.{told}
use Rattle.rvm_recorder.proofs.Kept.{left_out}
use Rattle.rvm_recorder.proofs.frame_bytes.leave_out.Goals as goal

pub returns : goal.returns
returns c =
    let is : drop c.saturating_sub-front.result c.args.kept.now.items ≡ zeros =
    ap (drop c.saturating_sub-front.result) (sym c.as_slice.ensures.value) ∙ c.is_behind.ensures c.if-not-is_behind.false ∙ c.requires.page in
    ap (λ xs. told (slice_set xs 0 1)) c.truncate.ensures.items
    ∙ left_out c.args.kept.now.items c.saturating_sub-front.result c.if-front-eq0.false c.requires.first is
