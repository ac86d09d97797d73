-- A run takes at most one step in each turn, and a fault that it shows is shown within them.
use Rattle.std.proofs.Common.{◌≡◌, ℕ, zero, suc, ◌+◌, ◌%◌, ◌≤◌, List, [], ◌∷◌, ◌++◌, length, Option, Some, None, Bool, true, false, ap, ◌∙◌, arith}
use Rattle.rvm_board.specs.Guest.{Guest}
use Rattle.rvm_board.specs.Events.{answered}
use Rattle.rvm_command.specs.declared.fault.Fault.{Fault}
use Rattle.rvm_command.specs.declared.run.Ended.{Ended}
use Rattle.rvm_command.specs.declared.run.Ended.TheVariants as ended
use Rattle.rvm_command.specs.Faults.{Shown, first_fault, latest_fault, or_later, shown}
use Rattle.rvm_command.specs.Order.{drawn}
use Rattle.rvm_command.specs.Run.{After, Run, after, left, offers, run_by, step_by}
use Rattle.rvm_command.specs.Taken.{Taken, steps_in}
use Rattle.rvm_command.specs.Turns.{between, ends_turns, taken_by}
use Rattle.rvm_command.specs.Watched.{fault_among, steps_of_run, turns_of, turns_until}
use Rattle.rvm_command.proofs.Runs.{after_both, after_one}
use Rattle.rvm_command.proofs.Watching.{follows, no_turns_left, rest_after, steps_between, steps_both, steps_drains, steps_offers, steps_one, turn_then}

-- a run of n turns takes at most n steps
abbrev AreFew : (seed : Option ℕ) → ℕ → Type 0
AreFew seed n = (t : ℕ) (input : List ℕ) (g : Guest) → length (steps_in (run_by seed n t input g).events g) ≤ n

rest_few : (seed : Option ℕ) (end : Option Ended) (n t : ℕ) (input : List ℕ) (g : Guest) → AreFew seed n → length (steps_in (rest_after seed end n t input g).events g) ≤ n
rest_few seed None n t input g few = few t input g
rest_few seed (Some (ended.Fault f)) n t input g few = few t input g
rest_few seed (Some (ended.HaltedWith s)) n t input g few = omega (arith, ap length (steps_drains g))
rest_few seed (Some ended.StepsSpent) n t input g few = omega (arith, ap length (steps_drains g))

-- what follows a turn takes at most as many as are left
follows_few : (seed : Option ℕ) (end : Option Ended) (n t : ℕ) (input : List ℕ) (g : Guest) → AreFew seed n → length (steps_in (follows seed end n t input g).events g) ≤ n
follows_few seed end n t input g few =
    let bs = between end t g in
    let rest = rest_after seed end n t input (after bs g).guest in
    let all : steps_in (bs ++ rest.events) g ≡ steps_in rest.events (after bs g).guest =
    steps_both bs rest.events g ∙ ap (λ (l : List Taken). l ++ steps_in rest.events (after bs g).guest) (steps_between end t g) in
    rw all (rest_few seed end n t input (after bs g).guest few)

pub steps_few : (seed : Option ℕ) (n : ℕ) → AreFew seed n
steps_few seed zero t input g = omega (arith, ap (λ (r : Run). length (steps_in r.events g)) (no_turns_left seed t input g), ap length (steps_drains g))
steps_few seed (suc n) t input g =
    let f = (after (offers input) g).guest in
    let s = answered (step_by seed t g) f in
    let es = offers input ++ step_by seed t g ∷ [] in
    let end = ends_turns s.reply None false in
    let others = follows seed end n (t + 1) (left input g) s.guest in
    let left_by : (after es g).guest ≡ s.guest =
    ap (λ (x : After). x.guest) (after_both (offers input) (step_by seed t g ∷ []) g) ∙ ap (λ (x : After). x.guest) (after_one (step_by seed t g) f) in
    let one : steps_in es g ≡ taken_by (drawn seed t % length g.board.harts) f ∷ [] =
    steps_both (offers input) (step_by seed t g ∷ []) g ∙ ap (λ (l : List Taken). l ++ steps_in (step_by seed t g ∷ []) f) (steps_offers input g)
    ∙ steps_one (drawn seed t % length g.board.harts) f in
    let all : steps_in (run_by seed (suc n) t input g).events g ≡ taken_by (drawn seed t % length g.board.harts) f ∷ steps_in others.events s.guest =
    ap (λ (r : Run). steps_in r.events g) (turn_then seed None false n t input g) ∙ steps_both es others.events g
    ∙ ap (λ (x : Guest). steps_in es g ++ steps_in others.events x) left_by
    ∙ ap (λ (l : List Taken). l ++ steps_in others.events s.guest) one in
    omega (arith, ap length all, follows_few seed end n (t + 1) (left input g) s.guest (steps_few seed n))

-- what is found is found within these steps
abbrev IsWithin : (n : ℕ) → Option Shown → Type 0
IsWithin n None = Unit {0}
IsWithin n (Some found) = found.steps ≤ n

or_later_within : (x : Option Fault) (n m : ℕ) (later : Option Shown) → n ≤ m → IsWithin m later → IsWithin m (or_later x n later)
or_later_within (Some f) n m later small is = small
or_later_within None n m later small is = is

first_within : (m : ℕ) (earlier us : List Taken) → length earlier + length us ≤ m → IsWithin m (first_fault earlier us)
unfolding first_fault
first_within m earlier [] few = tt
first_within m earlier (t ∷ us) few =
    or_later_within (shown t.reply (latest_fault t.hart earlier)) (length earlier + 1) m (first_fault (t ∷ earlier) us) (omega (arith, few))
    (first_within m (t ∷ earlier) us (omega (arith, few)))

fault_within : (stop : Bool) (m : ℕ) (us : List Taken) → length us ≤ m → IsWithin m (fault_among stop [] us)
fault_within true m us few = first_within m [] us (omega (arith, few))
fault_within false m us few = tt

within_turns : (x : Option Shown) (steps : ℕ) → IsWithin steps x → turns_until x steps ≤ steps
within_turns None steps is = omega arith
within_turns (Some found) steps is = is

-- a run that stops at a fault makes no more turns than one that does not
pub turns_within : (seed : Option ℕ) (stop : Bool) (steps : ℕ) (input : List ℕ) (g : Guest) → turns_of seed stop steps input g ≤ steps
turns_within seed stop steps input g =
    let us = steps_of_run seed steps input g in
    within_turns (fault_among stop [] us) steps (fault_within stop steps us (steps_few seed steps 0 input g))
