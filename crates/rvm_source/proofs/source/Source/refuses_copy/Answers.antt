use Rattle.std.proofs.Common.{◌∙◌, inl, inr, ap, sym}
use Rattle.rvm_source.specs.Sources.{PlainSource}
use Rattle.rvm_source.proofs.Refusing.{paused_refused, running_refused}
use Rattle.rvm_source.proofs.source.Source.refuses_copy.Goals as goal

pub returns-in-Copying : goal.returns-in-Copying
returns-in-Copying g c = λ version.
    let phase = ap (λ (s : PlainSource). s.phase) (sym c.self.view_is) in
    elim c.in-Copying.is [
      | inl e ↦ c.is_spent.ensures version ∙ sym (running_refused version c.args.self.now (phase ∙ e))
      | inr e ↦ c.is_spent.ensures version ∙ sym (paused_refused version e.0 c.args.self.now (phase ∙ e.1))
    ]
