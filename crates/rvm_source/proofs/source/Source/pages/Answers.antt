use Rattle.std.proofs.Common.{◌∙◌, ◌*◌, ◌^◌, ◌<◌, length, ap, sym, subst}
use Rattle.rvm_source.specs.Sources.{HasPages}
use Rattle.rvm_source.proofs.Frames.{count_is}
use Rattle.rvm_source.proofs.source.Source.pages.Goals as goal

pub returns : goal.returns
returns g c =
    let guest = c.self.inside.guest in
    let a = c.len-size.ensures.length ∙ ap length c.memory.ensures.bytes in
    let b = c.len-size.ensures.pages ∙ ap (λ xs. 4096 * length xs) c.memory.ensures.dirty in
    let log = c.self.invariant.1.0 ∙ sym c.pages.ensures.pages in
    subst (HasPages c.pages.result) c.self.view_is
    (record {
      count = count_is guest.guest (length guest.dirty) c.len-size.result a b ∙ log;
      log = log;
      plan = c.pages.ensures.plan;
      copies = subst (λ n. n < 2 ^ 32) c.copies-copies.ensures c.copies-copies.type_inv;
    })
