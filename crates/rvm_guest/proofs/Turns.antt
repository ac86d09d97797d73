-- Turns are steps.
use Rattle.std.proofs.Common.{◌≡◌, ℕ, zero, suc, ◌+◌, ◌<◌, Bool, List, [], ◌∷◌, ◌++◌, length, Option, Some, None, refl, sym, ap, subst, ◌∙◌, arith, append-nil, if◌then◌else◌}
use Rattle.std.proofs.Math.Nat.{mod-lt}
use Rattle.std.proofs.lemmas.Bool.{lt-ltb}
use Rattle.rvm_board.specs.declared.event.BoardEvent.{BoardEvent}
use Rattle.rvm_board.specs.declared.event.BoardEvent.TheVariants.{Step}
use Rattle.rvm_board.specs.declared.event.BoardRefusal.TheVariants.{BadHart}
use Rattle.rvm_board.specs.declared.turns.Order.{Order}
use Rattle.rvm_board.specs.declared.turns.Order.TheVariants.{Alone, RoundRobin}
use Rattle.rvm_board.specs.declared.turns.Stop.{Stop}
use Rattle.rvm_board.specs.Guest.{Guest}
use Rattle.rvm_board.specs.Events.{Answered, answered, refuses, steps}
use Rattle.rvm_board.specs.Turns.{AfterTurns, after_turns, next_hart, stop_in, unless_stopped}
use Rattle.rvm_board.proofs.Answering.{answered_keeps}
use Rattle.rvm_guest.specs.Events.{AreTurns, after_all, steps_in, unless_over, written}

next_below : (order : Order) (n h : ℕ) → h < n → next_hart order n h < n
next_below Alone n h lt = lt
next_below RoundRobin n h lt = mod-lt (h + 1) {m = n} (omega (arith, lt))

step_is : (h : ℕ) (g : Guest) → h < length g.board.harts → answered (Step h) g ≡ steps h g
step_is h g lt = ap (λ (b : Bool). if b then steps h g else refuses BadHart g) (lt-ltb h (length g.board.harts) lt)

-- a turn, and the others after it unless it ends them
one_turn : (h : ℕ) (g : Guest) (o : Option Stop) (turn : Answered) (events : List BoardEvent) (others : AfterTurns) → answered (Step h) g ≡ turn → AreTurns events others turn.guest
    → AreTurns (Step h ∷ unless_over o events) (unless_stopped o turn others) g
unfolding after_all written
one_turn h g (Some s) turn events others is rest =
    record {
      guest = ap (λ (a : Answered). a.guest) (sym is);
      pages = sym (ap (λ (a : Answered). a.pages ++ []) is ∙ append-nil turn.pages);
      made = refl;
    }
one_turn h g None turn events others is rest =
    record {
      guest = rest.guest ∙ ap (λ (a : Answered). after_all a.guest events) (sym is);
      pages = ap (λ ps. turn.pages ++ ps) rest.pages ∙ ap (λ (a : Answered). a.pages ++ written a.guest events) (sym is);
      made = let m = rest.made in omega (arith, m);
    }

pub turns_are : (order : Order) (n h : ℕ) (g : Guest) → h < length g.board.harts → AreTurns (steps_in order n h g) (after_turns order n h g) g
unfolding after_turns steps_in after_all written
turns_are order zero h g lt = record { guest = refl; pages = refl; made = refl }
turns_are order (suc n) h g lt =
    let is : answered (Step h) g ≡ steps h g = step_is h g lt in
    let next : ℕ = next_hart order (length g.board.harts) h in
    let same : length (steps h g).guest.board.harts ≡ length g.board.harts =
    ap (λ (a : Answered). length a.guest.board.harts) (sym is) ∙ (answered_keeps (Step h) g).harts in
    let below : next < length (steps h g).guest.board.harts = let b = next_below order (length g.board.harts) h lt in omega (arith, b, same) in
    subst
    (λ (a : Answered). AreTurns (Step h ∷ unless_over (stop_in a.reply) (steps_in order n next a.guest)) (unless_stopped (stop_in (steps h g).reply) (steps h g) (after_turns order n next (steps h g).guest)) g)
    (sym is)
    (one_turn h g (stop_in (steps h g).reply) (steps h g) (steps_in order n next (steps h g).guest) (after_turns order n next (steps h g).guest) is (turns_are order n next (steps h g).guest below))
