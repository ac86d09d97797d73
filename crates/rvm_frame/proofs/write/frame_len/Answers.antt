use Rattle.std.proofs.Common.{List, ℕ, length, length-append, arith, sym, ap, ◌∙◌}
use Rattle.rvm_frame.specs.Grammar.{body_of}
use Rattle.rvm_frame.proofs.write.frame_len.Goals as goal

pub returns : goal.returns
returns c =
    let total = sym (length-append c.header.result (body_of c.args.addressed.now.frame)) ∙ ap (λ (x : List ℕ). length x) c.header.ensures in
    let body = ap (λ (x : List ℕ). length x) c.layout-body.ensures in
    let front = ap (λ (x : List ℕ). length x) c.as_slice.ensures.value in
    omega (arith, total, body, front, c.body_len.ensures)
