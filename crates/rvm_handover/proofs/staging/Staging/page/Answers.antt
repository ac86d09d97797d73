use Rattle.std.proofs.Common.{ap, ◌∙◌, ◌*◌}
use Rattle.rvm_handover.proofs.Copies.{copy_came}
use Rattle.rvm_handover.proofs.staging.Staging.page.Goals as goal

pub returns-clause-came : goal.returns-clause-came
returns-clause-came g c = λ move.
    copy_came move c.args.page c.args.number c.args.bytes.now c.args.self.now c.store.new.self c.store.result c.told-bytes
    (c.pages-size.ensures.bytes ∙ ap (λ n. 4096 * n) c.pages-size.ensures.pages) c.store.ensures.stored c.store.ensures.stage
