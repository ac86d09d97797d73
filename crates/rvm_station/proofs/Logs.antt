-- Turns as events, and what a log kept where nothing happened.
use Rattle.std.proofs.Common.{◌≡◌, ◌∙◌, ℕ, zero, suc, ◌+◌, ◌%◌, List, [], ◌∷◌, ◌++◌, Option, None, Some, ap, arith, refl, sym}
use Rattle.std.proofs.lemmas.List.{append-nil}
use Rattle.rvm_message.specs.declared.event.HostEvent.{HostEvent}
use Rattle.rvm_message.specs.Exchanges.{step_of_hart}
use Rattle.rvm_station.specs.Logs.{KeepsOn, steps_from}

-- one turn more
pub steps_more : (turn harts n : ℕ)
    → steps_from turn harts (suc n) ≡ steps_from turn harts n ++ step_of_hart ((turn + n) % harts) ∷ []
unfolding steps_from
steps_more turn harts zero =
    let here : turn ≡ turn + 0 = omega arith in
    ap (λ k. step_of_hart (k % harts) ∷ []) here
steps_more turn harts (suc n) =
    let there : (turn + 1) + n ≡ turn + suc n = omega arith in
    ap (λ l. step_of_hart (turn % harts) ∷ l)
    (steps_more (turn + 1) harts n
    ∙ ap (λ k. steps_from (turn + 1) harts n ++ step_of_hart (k % harts) ∷ []) there)

-- nothing is kept
pub nothing_kept : (kept : Option (List HostEvent)) → KeepsOn kept kept []
nothing_kept None = refl
nothing_kept (Some kept) = sym (append-nil kept)
