use Rattle.std.proofs.Common.{List, ℕ, length, length-append, arith, sym, ap, ◌∙◌}
use Rattle.rvm_frame.specs.Grammar.{body_of}
use Rattle.rvm_frame.proofs.write.append_frame.Goals as goal

-- the room that the header leaves is the body's
pub append_body-requires : goal.append_body-requires
append_body-requires c =
    let total = sym (length-append c.header.result (body_of c.args.addressed.now.frame)) ∙ ap (λ (x : List ℕ). length x) c.header.ensures in
    let body = ap (λ (x : List ℕ). length x) c.layout-body.ensures in
    let front = ap (λ (x : List ℕ). length x) c.as_slice.ensures.value in
    omega (arith, total, body, front, c.append_bytes.ensures.len, c.append_bytes.ensures.capacity, c.requires.room)
