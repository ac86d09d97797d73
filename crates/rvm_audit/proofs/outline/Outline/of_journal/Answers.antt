use Rattle.std.proofs.Common.{◌∙◌, ap, length, sym}
use Rattle.rvm_audit.proofs.Outlined.{all_stretched}
use Rattle.rvm_audit.proofs.outline.Outline.of_journal.Goals as goal

pub invariant_of-result : goal.invariant_of-result
invariant_of-result g c =
    c.from.ensures ∙ c.count.ensures
    ∙ ap length (sym (all_stretched c.observe.new.self c.args.journal.now.entries c.items.result.now
    (λ before is. c.in_ok-observe.ensures before (c.begin-stretches.ensures ∙ is)) c.items.ensures.items))

pub returns : goal.returns
returns g c = record {
  version_is = c.version.ensures;
  entries_are = all_stretched c.observe.new.self c.args.journal.now.entries c.items.result.now
      (λ before is. c.in_ok-observe.ensures before (c.begin-stretches.ensures ∙ is)) c.items.ensures.items;
  replay = c.know_answers.ensures;
}
