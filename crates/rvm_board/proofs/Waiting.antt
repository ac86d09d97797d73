-- Turns while the guest passes a test, one turn at a time.
use Rattle.std.proofs.Common.{◌≡◌, ℕ, zero, suc, ◌+◌, ◌%◌, ◌<◌, ◌≤◌, List, [], ◌++◌, length, Option, Some, None, Bool, true, false, cond, refl, sym, ap, append-nil, arith, ◌∙◌}
use Rattle.rvm_mem.specs.Pages.{mark_all}
use Rattle.rvm_board.specs.declared.turns.Order.TheVariants.{RoundRobin}
use Rattle.rvm_board.specs.declared.turns.Stop.{Stop}
use Rattle.rvm_board.specs.declared.turns.Turns.{Turns}
use Rattle.rvm_board.specs.Guest.{Guest, GuestState}
use Rattle.rvm_board.specs.Events.{Answered, steps}
use Rattle.rvm_board.specs.Turns.{AfterTurns, TakesTurns, after_turns, behind, stop_in, unless_stopped}
use Rattle.rvm_board.specs.WhileFull.{no_turns, turns_while}
use Rattle.rvm_board.proofs.Turning.{Turning, behind_both, ended, mark_more, no_more}

behind_none : (t : AfterTurns) → behind [] 0 t ≡ t
behind_none t = ap (λ (k : ℕ). record t { made = k }) (omega arith)

-- the hart that has the turn after that of hart h
abbrev next : ℕ → Guest → ℕ
next h g = (h + 1) % length g.board.harts

-- the turns after one that did not end them
abbrev others : (Guest → Bool) → (n h : ℕ) → Guest → AfterTurns
others is_so n h g = cond (is_so (steps h g).guest) (turns_while is_so n (next h g) (steps h g).guest) (no_turns (steps h g).guest)

one_turn : (is_so : Guest → Bool) (n m h : ℕ) (g : Guest) → n ≡ suc m → turns_while is_so n h g ≡ unless_stopped (stop_in (steps h g).reply) (steps h g) (others is_so m h g)
unfolding turns_while
one_turn is_so n m h g e = rw e refl

-- a turn that did not end them, and those after it
on : (is_so : Guest → Bool) (n m h : ℕ) (g : Guest) (o : Bool) → n ≡ suc m → stop_in (steps h g).reply ≡ None → is_so (steps h g).guest ≡ o
    → turns_while is_so n h g ≡ behind (steps h g).pages 1 (cond o (turns_while is_so m (next h g) (steps h g).guest) (no_turns (steps h g).guest))
on is_so n m h g o more goes room =
    one_turn is_so n m h g more
    ∙ ap (λ (x : Option Stop). unless_stopped x (steps h g) (others is_so m h g)) goes
    ∙ ap (λ (x : Bool). behind (steps h g).pages 1 (cond x (turns_while is_so m (next h g) (steps h g).guest) (no_turns (steps h g).guest))) room

pub starts_while : (is_so : Guest → Bool) (n made h : ℕ) (g : Guest) (dirty : List Bool) → made ≡ 0 → Turning (turns_while is_so n h g) (turns_while is_so n h g) made dirty dirty
starts_while is_so n made h g dirty e = record { pages = []; log = refl; whole = ap (λ k. behind [] k (turns_while is_so n h g)) e ∙ behind_none (turns_while is_so n h g) }

-- a turn after which the guest passes the test
pub goes_while : {all : AfterTurns} {first dirty : List Bool} (is_so : Guest → Bool) (n m h h' made made' : ℕ) (g g' : Guest) (dirty' : List Bool) → Turning all (turns_while is_so n h g) made first dirty → n ≡ suc m → made' ≡ made + 1
    → stop_in (steps h g).reply ≡ None → is_so g' ≡ true → h' ≡ next h g → g' ≡ (steps h g).guest → dirty' ≡ mark_all (steps h g).pages dirty
    → Turning all (turns_while is_so m h' g') made' first dirty'
goes_while {all} {first} {dirty} is_so n m h h' made made' g g' dirty' so_far more counted goes so following left marked =
    let s : Answered = steps h g in
    let rest : AfterTurns = turns_while is_so m (next h g) s.guest in
    let same : turns_while is_so m h' g' ≡ rest = ap (λ k. turns_while is_so m k g') following ∙ ap (λ x. turns_while is_so m (next h g) x) left in
    let turned : turns_while is_so n h g ≡ behind s.pages 1 rest = on is_so n m h g true more goes (ap is_so (sym left) ∙ so) in
    record {
      pages = so_far.pages ++ s.pages;
      log = marked ∙ ap (mark_all s.pages) so_far.log ∙ sym (mark_more so_far.pages s.pages first);
      whole = ap (λ k. behind (so_far.pages ++ s.pages) k (turns_while is_so m h' g')) counted
          ∙ ap (behind (so_far.pages ++ s.pages) (made + 1)) same
          ∙ sym (behind_both so_far.pages s.pages made 1 rest)
          ∙ ap (behind so_far.pages made) (sym turned)
          ∙ so_far.whole;
    }

-- what stands after turns of which this is the last
last_turn : {all : AfterTurns} {dirty : List Bool} (t last : AfterTurns) (made made' : ℕ) (old new : GuestState) (told : Turns) → Turning all t made old.dirty dirty → t ≡ last → last.made ≡ 1 → made' ≡ made + 1
    → new.guest ≡ last.guest → new.dirty ≡ mark_all last.pages dirty → told ≡ record { made = made'; stop = last.stop }
    → TakesTurns all old new told
last_turn {all} {dirty} t last made made' old new told so_far turned one counted left marked said =
    ended all last so_far.pages made old.dirty dirty new.dirty new.guest old new told (ap (behind so_far.pages made) (sym turned) ∙ so_far.whole) so_far.log marked refl left refl
    (ap (λ (t : Turns). t.made) said ∙ counted ∙ ap (λ k. made + k) (sym one)) (ap (λ (t : Turns). t.stop) said)

-- the turn that ends them
pub stops_while : {all : AfterTurns} {dirty : List Bool} (is_so : Guest → Bool) (n m h made made' : ℕ) (g : Guest) (s : Stop) (old new : GuestState) (told : Turns) → Turning all (turns_while is_so n h g) made old.dirty dirty → n ≡ suc m → made' ≡ made + 1
    → stop_in (steps h g).reply ≡ Some s → new.guest ≡ (steps h g).guest → new.dirty ≡ mark_all (steps h g).pages dirty → told ≡ record { made = made'; stop = Some s }
    → TakesTurns all old new told
stops_while {all} {dirty} is_so n m h made made' g s old new told so_far more counted stop left marked said =
    let turn : Answered = steps h g in
    let last : AfterTurns = record { guest = turn.guest; pages = turn.pages; made = 1; stop = Some s } in
    last_turn (turns_while is_so n h g) last made made' old new told so_far
    (one_turn is_so n m h g more ∙ ap (λ (x : Option Stop). unless_stopped x turn (others is_so m h g)) stop)
    refl counted left marked said

-- the turn after which the guest fails the test
pub ends_while : {all : AfterTurns} {dirty : List Bool} (is_so : Guest → Bool) (n m h made made' : ℕ) (g : Guest) (old new : GuestState) (told : Turns) → Turning all (turns_while is_so n h g) made old.dirty dirty → n ≡ suc m → made' ≡ made + 1
    → stop_in (steps h g).reply ≡ None → is_so new.guest ≡ false → new.guest ≡ (steps h g).guest → new.dirty ≡ mark_all (steps h g).pages dirty → told ≡ record { made = made'; stop = None }
    → TakesTurns all old new told
ends_while {all} {dirty} is_so n m h made made' g old new told so_far more counted goes not_so left marked said =
    let turn : Answered = steps h g in
    let last : AfterTurns = behind turn.pages 1 (no_turns turn.guest) in
    last_turn (turns_while is_so n h g) last made made' old new told so_far (on is_so n m h g false more goes (ap is_so (sym left) ∙ not_so))
    refl counted left (marked ∙ ap (λ ps. mark_all ps dirty) (sym (append-nil turn.pages))) said

none_while : (is_so : Guest → Bool) (n h : ℕ) (g : Guest) → n ≡ 0 → turns_while is_so n h g ≡ no_turns g
unfolding turns_while
none_while is_so n h g e = rw e refl

-- all turns that were asked for
pub all_while : {all : AfterTurns} (is_so : Guest → Bool) (n h made count : ℕ) (old new : GuestState) (told : Turns) → Turning all (turns_while is_so n h new.guest) made old.dirty new.dirty → n ≡ 0 → count ≡ made → told ≡ record { made = count; stop = None } → TakesTurns all old new told
all_while {all} is_so n h made count old new told so_far none counted said =
    ended all (no_turns new.guest) so_far.pages made old.dirty new.dirty new.dirty new.guest old new told (ap (behind so_far.pages made) (sym (none_while is_so n h new.guest none)) ∙ so_far.whole) so_far.log refl refl refl refl
    (ap (λ (t : Turns). t.made) said ∙ counted ∙ no_more made) (ap (λ (t : Turns). t.stop) said)

-- with a test that every guest passes, these are just turns
pub as_they_are : (n h : ℕ) (g : Guest) → after_turns RoundRobin n h g ≡ turns_while (λ any. true) n h g
unfolding after_turns turns_while
as_they_are zero h g = refl
as_they_are (suc n) h g =
    ap (unless_stopped (stop_in (steps h g).reply) (steps h g)) (as_they_are n (next h g) (steps h g).guest)

-- of one turn or more that were asked for, at least one is made, and never more than were asked for
some_of : (o : Option Stop) (turn : Answered) (rest : AfterTurns) → 0 < (unless_stopped o turn rest).made
some_of None turn rest = omega arith
some_of (Some s) turn rest = omega arith

pub while_some : (is_so : Guest → Bool) (n h : ℕ) (g : Guest) → 0 < (turns_while is_so (suc n) h g).made
unfolding turns_while
while_some is_so n h g = some_of (stop_in (steps h g).reply) (steps h g) (others is_so n h g)

within_of : (o : Option Stop) (so : Bool) (turn : Answered) (rest : AfterTurns) (n : ℕ) → rest.made ≤ n → (unless_stopped o turn (cond so rest (no_turns turn.guest))).made ≤ suc n
within_of None true turn rest n within = omega (arith, within)
within_of None false turn rest n within = omega arith
within_of (Some s) so turn rest n within = omega arith

pub while_within : (is_so : Guest → Bool) (n h : ℕ) (g : Guest) → (turns_while is_so n h g).made ≤ n
unfolding turns_while
while_within is_so zero h g = omega arith
while_within is_so (suc n) h g =
    within_of (stop_in (steps h g).reply) (is_so (steps h g).guest) (steps h g) (turns_while is_so n (next h g) (steps h g).guest) n (while_within is_so n (next h g) (steps h g).guest)
