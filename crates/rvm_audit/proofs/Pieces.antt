-- Turns that lie in one piece of an order.
use Rattle.std.proofs.Common.{◌≡◌, ◌∙◌, ℕ, zero, suc, ◌+◌, ◌*◌, ◌%◌, List, [], ◌∷◌, ◌++◌, Option, Some, None, ap, arith, map, refl, subst, suc-mul, sym}
use Rattle.std.specs.Prelude.{slice_get}
use Rattle.std.proofs.lemmas.List.{map-append}
use Rattle.rvm_board.specs.declared.event.BoardEvent.TheVariants.{Drain, Step}
use Rattle.rvm_message.specs.declared.event.Command.TheVariants.{Board}
use Rattle.rvm_core.specs.declared.event.Event.{Event}
use Rattle.rvm_core.specs.declared.event.Event.TheVariants.{At}
use Rattle.rvm_audit.specs.declared.placed.Placed.{Placed}
use Rattle.rvm_audit.specs.Placed.{AreTurns, BeginsWith, all_events, asked_at, events_behind, events_of, rounds_at, steps_at, turns_in}
use Rattle.rvm_audit.proofs.Commands.{next_placed}

turns_append : (xs ys : List (Option ℕ)) → turns_in (xs ++ ys) ≡ turns_in xs + turns_in ys
turns_append [] ys = omega arith
turns_append (Some hart ∷ xs) ys = let more = turns_append xs ys in omega (arith, more)
turns_append (None ∷ xs) ys = turns_append xs ys

-- what a host is asked for in n steps
asked_in_steps : (turn harts n : ℕ) → List (Option ℕ)
asked_in_steps turn harts zero = []
asked_in_steps turn harts (suc n) = Some (turn % harts) ∷ asked_in_steps (turn + 1) harts n

steps_asked : (host drain turn harts n : ℕ)
    → steps_at host turn harts n ≡ map (asked_at host drain) (asked_in_steps turn harts n)
unfolding steps_at asked_in_steps
steps_asked host drain turn harts zero = refl
steps_asked host drain turn harts (suc n) =
    ap (λ es. At host (Board (Step (turn % harts))) ∷ es) (steps_asked host drain (turn + 1) harts n)

steps_count : (turn harts n : ℕ) → turns_in (asked_in_steps turn harts n) ≡ n
unfolding asked_in_steps
steps_count turn harts zero = refl
steps_count turn harts (suc n) = ap suc (steps_count (turn + 1) harts n)

-- what it is asked for in n rounds
asked_in_rounds : (turn harts steps drain n : ℕ) → List (Option ℕ)
asked_in_rounds turn harts steps drain zero = []
asked_in_rounds turn harts steps drain (suc n) =
    asked_in_steps turn harts steps ++ (None ∷ asked_in_rounds (turn + steps) harts steps drain n)

rounds_asked : (host turn harts steps drain n : ℕ)
    → rounds_at host turn harts steps drain n ≡ map (asked_at host drain) (asked_in_rounds turn harts steps drain n)
unfolding rounds_at asked_in_rounds
rounds_asked host turn harts steps drain zero = refl
rounds_asked host turn harts steps drain (suc n) =
    ap (λ es. es ++ (At host (Board (Drain drain)) ∷ rounds_at host (turn + steps) harts steps drain n))
    (steps_asked host drain turn harts steps)
    ∙ ap (λ es. map (asked_at host drain) (asked_in_steps turn harts steps) ++ (At host (Board (Drain drain)) ∷ es))
    (rounds_asked host (turn + steps) harts steps drain n)
    ∙ sym (map-append (asked_at host drain) (asked_in_steps turn harts steps)
    (None ∷ asked_in_rounds (turn + steps) harts steps drain n))

rounds_count : (turn harts steps drain n : ℕ) → turns_in (asked_in_rounds turn harts steps drain n) ≡ n * steps
unfolding asked_in_rounds
rounds_count turn harts steps drain zero = omega arith
rounds_count turn harts steps drain (suc n) =
    let first = steps_count turn harts steps in
    let more = rounds_count (turn + steps) harts steps drain n in
    turns_append (asked_in_steps turn harts steps) (None ∷ asked_in_rounds (turn + steps) harts steps drain n)
    ∙ omega (arith, first, more, suc-mul n steps)

-- steps are turns
pub steps_are_turns : (host turn harts n : ℕ) → (n ≡ 0 → ⊥) → AreTurns host n (steps_at host turn harts n)
steps_are_turns host turn harts n some = record {
  drain = 0;
  asked = asked_in_steps turn harts n;
  events_are = steps_asked host 0 turn harts n;
  turns_are = steps_count turn harts n;
  some = omega (arith, some);
}

-- rounds are the turns of their steps
pub rounds_are_turns : (host turn harts steps drain n turns : ℕ) → turns ≡ n * steps → (turns ≡ 0 → ⊥)
    → AreTurns host turns (rounds_at host turn harts steps drain n)
rounds_are_turns host turn harts steps drain n turns is some = record {
  drain = drain;
  asked = asked_in_rounds turn harts steps drain n;
  events_are = rounds_asked host turn harts steps drain n;
  turns_are = rounds_count turn harts steps drain n ∙ sym is;
  some = omega (arith, some);
}

-- an order begins with the turns of its first piece
pub begins : (host turns : ℕ) (p : Placed) (ps all : List Placed) → all ≡ p ∷ ps → AreTurns host turns (events_of p)
    → BeginsWith host turns (all_events all) (all_events ps)
begins host turns p ps all is are = record { run = events_of p; are = are; split = ap all_events is }

behind_none : (ps : List Placed) → events_behind ps 0 ≡ all_events ps
behind_none [] = refl
behind_none (p ∷ ps) = refl

-- and so does what is left of it, if none of its first piece was returned
pub begins_behind : (host turns skipped : ℕ) (all rest : List Placed) (events : List Event) → skipped ≡ 0
    → events_behind all skipped ≡ events → BeginsWith host turns (all_events all) (all_events rest)
    → BeginsWith host turns events (events_behind rest 0)
begins_behind host turns skipped all rest events none is begun =
    subst (λ es. BeginsWith host turns events es) (sym (behind_none rest))
    (subst (λ es. BeginsWith host turns es (all_events rest))
    (sym (behind_none all) ∙ ap (events_behind all) (sym none) ∙ is) begun)

-- a piece may be left out once all its events were returned
pub without_first : (p : Placed) (ps all : List Placed) (skipped : ℕ) (event : Option Event) → all ≡ p ∷ ps
    → event ≡ slice_get (events_of p) skipped → event ≡ None → events_behind ps 0 ≡ events_behind all skipped
without_first p ps all skipped event is found none = next_placed p ps all skipped is (sym none ∙ found)
