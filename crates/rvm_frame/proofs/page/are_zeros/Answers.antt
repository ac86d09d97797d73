use Rattle.std.proofs.Common.{◌∙◌, ap, sym}
use Rattle.std.specs.Cmp.Lexicographic.{bytes_decides}
use Rattle.std.specs.Str.{bytes_eq}
use Rattle.rvm_frame.specs.Pages.{zeros}
use Rattle.rvm_frame.proofs.page.are_zeros.Goals as goal

pub returns : goal.returns
returns c =
    let decides = bytes_decides c.args.bytes.now zeros in
    let is = c.eq.ensures ∙ ap (bytes_eq c.args.bytes.now) (c.as_slice.ensures ∙ c.zeros.ensures) in
    ((λ same. decides.0 (sym is ∙ same)), (λ same. is ∙ decides.1 same))
