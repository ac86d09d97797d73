use Rattle.std.proofs.Common.{length, Some, sym, ap, ◌∙◌, subst}
use Rattle.rvm_mem.specs.Pages.{first}
use Rattle.rvm_precopy.specs.Plans.{Plan}
use Rattle.rvm_precopy.proofs.Lowest.{Firsts, last_of_both, last_sent, last_fix, known}
use Rattle.rvm_precopy.proofs.rounds.Rounds.find_last.Goals.{After-first-2}
use Rattle.rvm_precopy.proofs.rounds.Rounds.find_last.Goals as goal

-- the lowest page of each set
firsts : (c : After-first-2) → Firsts c.args.self.now c.first.result c.first-2.result
firsts c =
    record {
      same = sym (ap (λ (r : Plan). length r.to_fix) c.self.view_is) ∙ c.self.invariant.0 ∙ ap (λ (r : Plan). length r.to_send) c.self.view_is;
      of_send = c.first.ensures ∙ ap (λ (r : Plan). first r.to_send) c.self.view_is;
      of_fix = c.first-2.ensures ∙ ap (λ (r : Plan). first r.to_fix) c.self.view_is;
    }

pub returns-in-Some-Some-clause-page : goal.returns-in-Some-Some-clause-page
returns-in-Some-Some-clause-page c =
    ap Some c.min.ensures
    ∙ last_of_both c.args.self.now c.in-Some-Some.page c.in-Some-Some.fix
    (known c.args.self.now _ _ _ _ c.in-Some-Some.is-0 c.in-Some-Some.is-1 (firsts (goal.at.returns-in-Some-Some-clause-page c).After-first-2))

pub returns-in-Some-None-clause-page : goal.returns-in-Some-None-clause-page
returns-in-Some-None-clause-page c =
    last_sent c.args.self.now (Some c.in-Some-None.page)
    (known c.args.self.now _ _ _ _ c.in-Some-None.is-0 c.in-Some-None.is-1 (firsts (goal.at.returns-in-Some-None-clause-page c).After-first-2))

pub returns-in-None-default-clause-page : goal.returns-in-None-default-clause-page
returns-in-None-default-clause-page c =
    last_fix c.args.self.now c.first-2.result
    (subst (λ sent. Firsts c.args.self.now sent c.first-2.result) c.in-None-default.is-0 (firsts (goal.at.returns-in-None-default-clause-page c).After-first-2))
