-- Whether an action finds a page for which no copy number is left.
use Rattle.std.proofs.Common.{◌≡◌, ℕ, ◌-◌, ◌^◌, ◌==◌, ◌&&◌, Bool, true, false, if◌then◌else◌, List, Option, Some, None, refl, sym, ◌∙◌}
use Rattle.std.specs.Prelude.{is_some, not, option_map}
use Rattle.rvm_precopy.specs.declared.rounds.Next.{Next}
use Rattle.rvm_precopy.specs.Plans.{Plan, Turn, LastTurn, found, is_last_spent, is_spent, last_copied, last_found, last_next_of, next_of, stopping, with_found, with_last}

and_none : (b : Bool) → false ≡ (b && false)
and_none true = refl
and_none false = refl

and_all : (b : Bool) → b ≡ (b && true)
and_all true = refl
and_all false = refl

pub some_mapped : {X Y : Type 0} (f : X → Y) (o : Option X) → is_some (option_map f o) ≡ is_some o
some_mapped f None = refl
some_mapped f (Some x) = refl

-- THE GUEST RUNS

by_number : (b : Bool) (x y : Next × Plan) → is_spent x.0 ≡ true → is_spent y.0 ≡ false → is_spent (if b then x else y).0 ≡ b
by_number true x y spent left = spent
by_number false x y spent left = left

by_rule : (b : Bool) (x y : Turn) → is_spent x.answer ≡ false → is_spent (if b then x else y).answer ≡ (not b && is_spent y.answer)
by_rule true x y left = left
by_rule false x y left = refl

spent_found : (log : List Bool) (r : Plan) (o : Option ℕ)
    → is_spent (with_found log r o).answer ≡ ((r.copies == 2 ^ 32 - 1) && is_some o)
spent_found log r None = and_none (r.copies == 2 ^ 32 - 1)
spent_found log r (Some p) = by_number (r.copies == 2 ^ 32 - 1) _ _ refl refl ∙ and_all (r.copies == 2 ^ 32 - 1)

pub spent_turn : (log : List Bool) (r : Plan)
    → is_spent (next_of log r).answer ≡ (not r.stop && ((r.copies == 2 ^ 32 - 1) && is_some (found log r)))
unfolding next_of
spent_turn log r =
    by_rule r.stop (stopping log r) (with_found log r (found log r)) refl
    ∙ (λ i. not r.stop && spent_found log r (found log r) i)

-- THE GUEST IS PAUSED

by_last : (b : Bool) (x y : LastTurn) → is_last_spent x.answer ≡ true → is_last_spent y.answer ≡ false
    → is_last_spent (if b then x else y).answer ≡ b
by_last true x y spent left = spent
by_last false x y spent left = left

spent_with : (r : Plan) (o : Option ℕ) → is_last_spent (with_last r o).answer ≡ ((r.copies == 2 ^ 32 - 1) && is_some o)
spent_with r None = and_none (r.copies == 2 ^ 32 - 1)
spent_with r (Some p) = by_last (r.copies == 2 ^ 32 - 1) _ (last_copied r p) refl refl ∙ and_all (r.copies == 2 ^ 32 - 1)

pub spent_last : (r : Plan) → is_last_spent (last_next_of r).answer ≡ ((r.copies == 2 ^ 32 - 1) && is_some (last_found r))
unfolding last_next_of
spent_last r = spent_with r (last_found r)
