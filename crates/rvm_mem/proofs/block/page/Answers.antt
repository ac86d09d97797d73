use Rattle.std.proofs.Common.{◌≡◌, ◌+◌, ◌-◌, ◌*◌, ap, ◌∙◌, arith, take, drop}
use Rattle.rvm_mem.proofs.block.page.Goals as goal

pub returns : goal.returns
returns c =
    let start : c.args.page * 4096 ≡ 4096 * c.args.page = omega arith in
    let long : c.args.page * 4096 + 4096 - c.args.page * 4096 ≡ 4096 = omega arith in
    c.in-Ok.ensures.1.same
    ∙ ap (λ n. take n (drop (c.args.page * 4096) c.args.bytes.now)) long
    ∙ ap (λ n. take 4096 (drop n c.args.bytes.now)) start
