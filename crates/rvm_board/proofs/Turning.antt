-- Turns, one by one.
use Rattle.std.proofs.Common.{◌≡◌, ℕ, zero, suc, ◌+◌, ◌%◌, ◌<◌, ◌≤◌, List, [], ◌∷◌, ◌++◌, length, Bool, true, false, get_or, Option, Some, None, refl, sym, ap, ◌∙◌, cond, arith, append_assoc, is_some}
use Rattle.std.specs.List.{list_any}
use Rattle.std.proofs.lemmas.List.{length-set}
use Rattle.std.proofs.Math.Nat.{mod-add-mod, mod-eq_of_lt, mod-lt, mod_self}
use Rattle.rvm_mem.specs.Pages.{mark, mark_all}
use Rattle.rvm_board.specs.declared.event.BoardReply.TheVariants.{Break}
use Rattle.rvm_board.specs.declared.turns.Order.{Order}
use Rattle.rvm_board.specs.declared.turns.Order.TheVariants.{Alone, RoundRobin}
use Rattle.rvm_board.specs.declared.turns.Stop.{Stop}
use Rattle.rvm_board.specs.declared.turns.Turns.{Turns}
use Rattle.rvm_board.specs.Guest.{Guest, GuestState}
use Rattle.rvm_board.specs.Events.{Answered, leaves, pc_of, steps, stops, takes_step, with_stopped}
use Rattle.rvm_board.specs.Events as events
use Rattle.rvm_board.specs.Turns.{AfterTurns, TakesTurns, after_turns, behind, next_hart, stop_in, unless_stopped}

-- a step does not change the number of harts
steps_on_count : (h : ℕ) (g : Guest) (stop : Bool) → length (cond stop (leaves (with_stopped h true g) (Break (pc_of h g))) (takes_step h g)).guest.board.harts ≡ length g.board.harts
steps_on_count h g true = refl
steps_on_count h g false = length-set g.board.harts h _

halted_count : (h : ℕ) (g : Guest) (halted : Option ℕ) → length (events.unless_halted halted h g).guest.board.harts ≡ length g.board.harts
halted_count h g None = steps_on_count h g (stops h g)
halted_count h g (Some status) = refl

pub steps_count : (h : ℕ) (g : Guest) → length (steps h g).guest.board.harts ≡ length g.board.harts
steps_count h g = halted_count h g g.board.shared.devices.halted

-- if no flag is true, the flag of each hart is false
pub none_is : (flags : List Bool) (i : ℕ) → list_any (λ flag. flag) flags ≡ false → get_or flags i false ≡ false
none_is [] i none = refl
none_is (true ∷ flags) i none = absurd cc
none_is (false ∷ flags) zero none = refl
none_is (false ∷ flags) (suc i) none = none_is flags i none

-- pages after others
pub mark_more : (ps qs : List ℕ) (dirty : List Bool) → mark_all (ps ++ qs) dirty ≡ mark_all qs (mark_all ps dirty)
mark_more [] qs dirty = refl
mark_more (p ∷ ps) qs dirty = mark_more ps qs (mark p dirty)

-- with one hart, both orders are the same
hart_0 : (order : Order) (n : ℕ) (g : Guest) → length g.board.harts ≡ 1 → after_turns order n 0 g ≡ after_turns Alone n 0 g
unfolding after_turns
hart_0 Alone n g one = refl
hart_0 RoundRobin zero g one = refl
hart_0 RoundRobin (suc n) g one =
    let s : Answered = steps 0 g in
    ap (λ k. unless_stopped (stop_in s.reply) s (after_turns RoundRobin n (1 % k) s.guest)) one
    ∙ ap (unless_stopped (stop_in s.reply) s) (hart_0 RoundRobin n s.guest (steps_count 0 g ∙ one))

pub one_hart : (order : Order) (n h : ℕ) (g : Guest) → length g.board.harts ≡ 1 → h < length g.board.harts → after_turns order n h g ≡ after_turns Alone n h g
one_hart order n h g one inside =
    let first : h ≡ 0 = omega (arith, one, inside) in
    rw first (hart_0 order n g one)

-- no step changes the breakpoints
steps_on_breaks : (h : ℕ) (g : Guest) (stop : Bool) → (cond stop (leaves (with_stopped h true g) (Break (pc_of h g))) (takes_step h g)).guest.breakpoints ≡ g.breakpoints
steps_on_breaks h g true = refl
steps_on_breaks h g false = refl

halted_breaks : (h : ℕ) (g : Guest) (halted : Option ℕ) → (events.unless_halted halted h g).guest.breakpoints ≡ g.breakpoints
halted_breaks h g None = steps_on_breaks h g (stops h g)
halted_breaks h g (Some status) = refl

pub steps_breaks : (h : ℕ) (g : Guest) → (steps h g).guest.breakpoints ≡ g.breakpoints
steps_breaks h g = halted_breaks h g g.board.shared.devices.halted

-- the turns that were made, and those that are left, are all
pub record Turning (all left : AfterTurns) (made : ℕ) (first dirty : List Bool) : Type 0 where
  pub pages : List ℕ
  pub log : dirty ≡ mark_all pages first
  pub whole : behind pages made left ≡ all

pub behind_none : (t : AfterTurns) → behind [] 0 t ≡ t
behind_none t = ap (λ (k : ℕ). record t { made = k }) (omega arith)

pub begins : (order : Order) (n made h : ℕ) (g : Guest) (dirty : List Bool) → made ≡ 0 → Turning (after_turns order n h g) (after_turns order n h g) made dirty dirty
begins order n made h g dirty e = record { pages = []; log = refl; whole = ap (λ k. behind [] k (after_turns order n h g)) e ∙ behind_none (after_turns order n h g) }

pub one_more : (order : Order) (n m h : ℕ) (g : Guest) → n ≡ suc m → after_turns order n h g ≡ unless_stopped (stop_in (steps h g).reply) (steps h g) (after_turns order m (next_hart order (length g.board.harts) h) (steps h g).guest)
unfolding after_turns
one_more order n m h g e = rw e refl

-- turns after turns that are after others
pub behind_both : (ps qs : List ℕ) (made more : ℕ) (t : AfterTurns) → behind ps made (behind qs more t) ≡ behind (ps ++ qs) (made + more) t
behind_both ps qs made more t =
    ap (λ l. record t { pages = l; made = made + (more + t.made) }) (sym (append_assoc ps qs t.pages))
    ∙ ap (λ (k : ℕ). record t { pages = (ps ++ qs) ++ t.pages; made = k }) (omega arith)

-- a turn that does not end them
pub goes_on : {all : AfterTurns} {first dirty : List Bool} (order : Order) (n m h h' made made' : ℕ) (g g' : Guest) (dirty' : List Bool) → Turning all (after_turns order n h g) made first dirty → n ≡ suc m → made' ≡ made + 1
    → stop_in (steps h g).reply ≡ None → h' ≡ next_hart order (length g.board.harts) h → g' ≡ (steps h g).guest → dirty' ≡ mark_all (steps h g).pages dirty
    → Turning all (after_turns order m h' g') made' first dirty'
goes_on {all} {first} {dirty} order n m h h' made made' g g' dirty' so_far more counted goes next left marked =
    let s : Answered = steps h g in
    let rest : AfterTurns = after_turns order m (next_hart order (length g.board.harts) h) s.guest in
    let same : after_turns order m h' g' ≡ rest = ap (λ k. after_turns order m k g') next ∙ ap (λ x. after_turns order m (next_hart order (length g.board.harts) h) x) left in
    let turned : after_turns order n h g ≡ behind s.pages 1 rest = one_more order n m h g more ∙ ap (λ (x : Option Stop). unless_stopped x s rest) goes in
    record {
      pages = so_far.pages ++ s.pages;
      log = marked ∙ ap (mark_all s.pages) so_far.log ∙ sym (mark_more so_far.pages s.pages first);
      whole = ap (λ k. behind (so_far.pages ++ s.pages) k (after_turns order m h' g')) counted
          ∙ ap (behind (so_far.pages ++ s.pages) (made + 1)) same
          ∙ sym (behind_both so_far.pages s.pages made 1 rest)
          ∙ ap (behind so_far.pages made) (sym turned)
          ∙ so_far.whole;
    }

-- turns of which this is the last
pub ended : (all last : AfterTurns) (pages : List ℕ) (made : ℕ) (first dirty dirty' : List Bool) (g' : Guest) (old new : GuestState) (told : Turns) → behind pages made last ≡ all → dirty ≡ mark_all pages first → dirty' ≡ mark_all last.pages dirty → old.dirty ≡ first → new.guest ≡ last.guest → new.dirty ≡ dirty' → told.made ≡ made + last.made → told.stop ≡ last.stop → TakesTurns all old new told
ended all last pages made first dirty dirty' g' old new told whole log marked from guest log' count stop =
    record {
      guest = guest ∙ ap (λ (t : AfterTurns). t.guest) whole;
      dirty = log' ∙ marked ∙ ap (mark_all last.pages) log ∙ sym (mark_more pages last.pages first) ∙ ap (λ d. mark_all (pages ++ last.pages) d) (sym from) ∙ ap (λ (t : AfterTurns). mark_all t.pages old.dirty) whole;
      made = count ∙ ap (λ (t : AfterTurns). t.made) whole;
      stop = stop ∙ ap (λ (t : AfterTurns). t.stop) whole;
    }

-- the turn that ends them
pub stops_at : {all : AfterTurns} {dirty : List Bool} (order : Order) (n m h made made' : ℕ) (g : Guest) (s : Stop) (old new : GuestState) (told : Turns) → Turning all (after_turns order n h g) made old.dirty dirty → n ≡ suc m → made' ≡ made + 1
    → stop_in (steps h g).reply ≡ Some s → new.guest ≡ (steps h g).guest → new.dirty ≡ mark_all (steps h g).pages dirty → told ≡ record { made = made'; stop = Some s }
    → TakesTurns all old new told
stops_at {all} {dirty} order n m h made made' g s old new told so_far more counted stop left marked said =
    let turn : Answered = steps h g in
    let last : AfterTurns = record { guest = turn.guest; pages = turn.pages; made = 1; stop = Some s } in
    let turned : after_turns order n h g ≡ last = one_more order n m h g more ∙ ap (λ (x : Option Stop). unless_stopped x turn (after_turns order m (next_hart order (length g.board.harts) h) turn.guest)) stop in
    ended all last so_far.pages made old.dirty dirty new.dirty new.guest old new told (ap (behind so_far.pages made) (sym turned) ∙ so_far.whole) so_far.log marked refl left refl
    (ap (λ (t : Turns). t.made) said ∙ counted) (ap (λ (t : Turns). t.stop) said)

pub no_more : (made : ℕ) → made ≡ made + 0
no_more made = omega arith

none_left : (order : Order) (n h : ℕ) (g : Guest) → n ≡ 0 → after_turns order n h g ≡ record { guest = g; pages = []; made = 0; stop = None }
unfolding after_turns
none_left order n h g e = rw e refl

-- all turns that were asked for
pub all_made : {all : AfterTurns} (order : Order) (n h made count : ℕ) (old new : GuestState) (told : Turns) → Turning all (after_turns order n h new.guest) made old.dirty new.dirty → n ≡ 0 → count ≡ made → told ≡ record { made = count; stop = None } → TakesTurns all old new told
all_made {all} order n h made count old new told so_far none counted said =
    let last : AfterTurns = record { guest = new.guest; pages = []; made = 0; stop = None } in
    ended all last so_far.pages made old.dirty new.dirty new.dirty new.guest old new told (ap (behind so_far.pages made) (sym (none_left order n h new.guest none)) ∙ so_far.whole) so_far.log refl refl refl refl
    (ap (λ (t : Turns). t.made) said ∙ counted ∙ no_more made) (ap (λ (t : Turns). t.stop) said)

-- for no turns, the first hart may be any
pub none_from : (order : Order) (n h i : ℕ) (g : Guest) → n ≡ 0 → after_turns order n h g ≡ after_turns order n i g
none_from order n h i g none = none_left order n h g none ∙ sym (none_left order n i g none)

-- before the last hart, the next hart is the one with the next number
next_in_a_row : (m h : ℕ) (g g' : Guest) → h + 1 + m ≤ length g.board.harts → after_turns RoundRobin m (next_hart RoundRobin (length g.board.harts) h) g' ≡ after_turns RoundRobin m (h + 1) g'
next_in_a_row zero h g g' within = none_from RoundRobin 0 (next_hart RoundRobin (length g.board.harts) h) (h + 1) g' refl
next_in_a_row (suc m) h g g' within = ap (λ i. after_turns RoundRobin (suc m) i g') (mod-eq_of_lt (omega (arith, within)))

pub goes_on_in_a_row : {all : AfterTurns} {first dirty : List Bool} (n m h made made' : ℕ) (g g' : Guest) (dirty' : List Bool) → Turning all (after_turns RoundRobin n h g) made first dirty → n ≡ suc m → made' ≡ made + 1
    → h + n ≤ length g.board.harts → stop_in (steps h g).reply ≡ None → g' ≡ (steps h g).guest → dirty' ≡ mark_all (steps h g).pages dirty
    → Turning all (after_turns RoundRobin m (h + 1) g') made' first dirty'
goes_on_in_a_row {all} {first} {dirty} n m h made made' g g' dirty' so_far more counted within goes left marked =
    let on : Turning all (after_turns RoundRobin m (next_hart RoundRobin (length g.board.harts) h) g') made' first dirty' =
    goes_on RoundRobin n m h (next_hart RoundRobin (length g.board.harts) h) made made' g g' dirty' so_far more counted goes refl left marked in
    record {
      pages = on.pages;
      log = on.log;
      whole = ap (behind on.pages made') (sym (next_in_a_row m h g g' (omega (arith, within, more)))) ∙ on.whole;
    }

-- turns of which the first ones were ended early are those
stopped_cases : (x : Option Stop) (turn : Answered) (all some : AfterTurns) → (is_some some.stop ≡ true → all ≡ some) → is_some (unless_stopped x turn some).stop ≡ true → unless_stopped x turn all ≡ unless_stopped x turn some
stopped_cases None turn all some same stopped = ap (behind turn.pages 1) (same stopped)
stopped_cases (Some s) turn all some same stopped = refl

ended_early : (n k m h : ℕ) (g : Guest) → n ≡ k + m → is_some (after_turns RoundRobin k h g).stop ≡ true → after_turns RoundRobin n h g ≡ after_turns RoundRobin k h g
unfolding after_turns
ended_early n zero m h g e stopped = absurd cc
ended_early n (suc k) m h g e stopped =
    let turn : Answered = steps h g in
    let next : ℕ = next_hart RoundRobin (length g.board.harts) h in
    one_more RoundRobin n (k + m) h g (omega (arith, e))
    ∙ stopped_cases (stop_in turn.reply) turn (after_turns RoundRobin (k + m) next turn.guest) (after_turns RoundRobin k next turn.guest) (ended_early (k + m) k m next turn.guest refl) stopped

-- turns of which the first ones were all made go on after them
made_cases : (x : Option Stop) (turn : Answered) (all some : AfterTurns) (k : ℕ) (others : Guest → AfterTurns) → (is_some some.stop ≡ false → all ≡ behind some.pages k (others some.guest)) → is_some (unless_stopped x turn some).stop ≡ false
    → unless_stopped x turn all ≡ behind (unless_stopped x turn some).pages (suc k) (others (unless_stopped x turn some).guest)
made_cases None turn all some k others same made =
    ap (behind turn.pages 1) (same made)
    ∙ behind_both turn.pages some.pages 1 k (others some.guest)
    ∙ ap (λ (i : ℕ). behind (turn.pages ++ some.pages) i (others some.guest)) (omega arith)
made_cases (Some s) turn all some k others same made = absurd cc

pub all_were_made : (harts n k m h : ℕ) (g : Guest) → length g.board.harts ≡ harts → n ≡ k + m → h < harts → is_some (after_turns RoundRobin k h g).stop ≡ false
    → after_turns RoundRobin n h g ≡ behind (after_turns RoundRobin k h g).pages k (after_turns RoundRobin m ((h + k) % harts) (after_turns RoundRobin k h g).guest)
unfolding after_turns
all_were_made harts n zero m h g size e below made =
    ap (λ i. after_turns RoundRobin i h g) (e ∙ omega arith)
    ∙ ap (λ i. after_turns RoundRobin m i g) (sym (ap (λ i. i % harts) (omega arith) ∙ mod-eq_of_lt below))
    ∙ sym (behind_none (after_turns RoundRobin m ((h + 0) % harts) g))
all_were_made harts n (suc k) m h g size e below made =
    let turn : Answered = steps h g in
    let next : ℕ = next_hart RoundRobin (length g.board.harts) h in
    let some : AfterTurns = after_turns RoundRobin k next turn.guest in
    let others : Guest → AfterTurns = λ x. after_turns RoundRobin m ((h + suc k) % harts) x in
    let there : (next + k) % harts ≡ (h + suc k) % harts = ap (λ l. ((h + 1) % l + k) % harts) size ∙ mod-add-mod (h + 1) harts k ∙ ap (λ i. i % harts) (omega arith) in
    let within : next < harts = omega (arith, mod-lt (h + 1) {m = harts} (omega (arith, below)), ap (λ l. (h + 1) % l) size) in
    one_more RoundRobin n (k + m) h g (omega (arith, e))
    ∙ made_cases (stop_in turn.reply) turn (after_turns RoundRobin (k + m) next turn.guest) some k others
    (λ q. all_were_made harts (k + m) k m next turn.guest (steps_count h g ∙ size) refl within q ∙ ap (λ i. behind some.pages k (after_turns RoundRobin m i some.guest)) there) made

-- after the last hart comes hart 0
from_first : (m i harts : ℕ) (g : Guest) → (0 < m → i ≡ harts) → after_turns RoundRobin m (i % harts) g ≡ after_turns RoundRobin m 0 g
from_first zero i harts g last = none_from RoundRobin 0 (i % harts) 0 g refl
from_first (suc m) i harts g last = ap (λ j. after_turns RoundRobin (suc m) (j % harts) g) (last (omega arith)) ∙ ap (λ j. after_turns RoundRobin (suc m) j g) (mod_self harts)

-- turns up to the last hart, or all that are left, do not end them: hart 0 is next
pub goes_on_behind : {all : AfterTurns} {first : List Bool} (harts n k m h made made' : ℕ) (old new : GuestState) (told : Turns) → Turning all (after_turns RoundRobin n h old.guest) made first old.dirty → length old.guest.board.harts ≡ harts → n ≡ k + m
    → made' ≡ made + k → h < harts → (0 < m → h + k ≡ harts) → TakesTurns (after_turns RoundRobin k h old.guest) old new told → is_some told.stop ≡ false → Turning all (after_turns RoundRobin m 0 new.guest) made' first new.dirty
goes_on_behind {all} {first} harts n k m h made made' old new told so_far size more counted below last took none =
    let t : AfterTurns = after_turns RoundRobin k h old.guest in
    let on : after_turns RoundRobin n h old.guest ≡ behind t.pages k (after_turns RoundRobin m ((h + k) % harts) t.guest) =
    all_were_made harts n k m h old.guest size more below (ap (λ (x : Option Stop). is_some x) (sym took.stop) ∙ none) in
    record {
      pages = so_far.pages ++ t.pages;
      log = took.dirty ∙ ap (mark_all t.pages) so_far.log ∙ sym (mark_more so_far.pages t.pages first);
      whole = ap (λ i. behind (so_far.pages ++ t.pages) i (after_turns RoundRobin m 0 new.guest)) counted
          ∙ ap (λ x. behind (so_far.pages ++ t.pages) (made + k) (after_turns RoundRobin m 0 x)) took.guest
          ∙ ap (behind (so_far.pages ++ t.pages) (made + k)) (sym (from_first m (h + k) harts t.guest last))
          ∙ sym (behind_both so_far.pages t.pages made k (after_turns RoundRobin m ((h + k) % harts) t.guest))
          ∙ ap (behind so_far.pages made) (sym on)
          ∙ so_far.whole;
    }

-- turns that end them
pub stops_behind : {all : AfterTurns} (n k m h made : ℕ) (first : GuestState) (old new : GuestState) (told said : Turns) → Turning all (after_turns RoundRobin n h old.guest) made first.dirty old.dirty → n ≡ k + m → TakesTurns (after_turns RoundRobin k h old.guest) old new told
    → is_some told.stop ≡ true → said.made ≡ made + told.made → said.stop ≡ told.stop → TakesTurns all first new said
stops_behind {all} n k m h made first old new told said so_far more took stopped counted same =
    let t : AfterTurns = after_turns RoundRobin k h old.guest in
    let early : after_turns RoundRobin n h old.guest ≡ t = ended_early n k m h old.guest more (ap (λ (x : Option Stop). is_some x) (sym took.stop) ∙ stopped) in
    ended all t so_far.pages made first.dirty old.dirty new.dirty new.guest first new said (ap (behind so_far.pages made) (sym early) ∙ so_far.whole) so_far.log took.dirty refl took.guest refl
    (counted ∙ ap (λ (i : ℕ). made + i) took.made) (same ∙ took.stop)

-- of one turn or more that were asked for, at least one is made, and never more than were asked for
some_of_cases : (x : Option Stop) (turn : Answered) (others : AfterTurns) → 0 < (unless_stopped x turn others).made
some_of_cases None turn others = omega arith
some_of_cases (Some s) turn others = omega arith

pub made_some : (order : Order) (n h : ℕ) (g : Guest) → 0 < (after_turns order (suc n) h g).made
unfolding after_turns
made_some order n h g = some_of_cases (stop_in (steps h g).reply) (steps h g) (after_turns order n (next_hart order (length g.board.harts) h) (steps h g).guest)

within_cases : (x : Option Stop) (turn : Answered) (others : AfterTurns) (n : ℕ) → others.made ≤ n → (unless_stopped x turn others).made ≤ suc n
within_cases None turn others n within = omega (arith, within)
within_cases (Some s) turn others n within = omega arith

pub made_within : (order : Order) (n h : ℕ) (g : Guest) → (after_turns order n h g).made ≤ n
unfolding after_turns
made_within order zero h g = omega arith
made_within order (suc n) h g =
    within_cases (stop_in (steps h g).reply) (steps h g) (after_turns order n (next_hart order (length g.board.harts) h) (steps h g).guest) n
    (made_within order n (next_hart order (length g.board.harts) h) (steps h g).guest)

pub made_some_of : (order : Order) (n h : ℕ) (g : Guest) → 0 < n → 0 < (after_turns order n h g).made
made_some_of order zero h g some = absurd (omega (arith, some))
made_some_of order (suc n) h g some = made_some order n h g

-- turns do not change the number of harts
count_cases : (x : Option Stop) (turn : Answered) (others : AfterTurns) (n : ℕ) → length turn.guest.board.harts ≡ n → length others.guest.board.harts ≡ n → length (unless_stopped x turn others).guest.board.harts ≡ n
count_cases None turn others n of_turn of_others = of_others
count_cases (Some s) turn others n of_turn of_others = of_turn

pub turns_count : (order : Order) (n h : ℕ) (g : Guest) → length (after_turns order n h g).guest.board.harts ≡ length g.board.harts
unfolding after_turns
turns_count order zero h g = refl
turns_count order (suc n) h g =
    count_cases (stop_in (steps h g).reply) (steps h g) (after_turns order n (next_hart order (length g.board.harts) h) (steps h g).guest) (length g.board.harts) (steps_count h g)
    (turns_count order n (next_hart order (length g.board.harts) h) (steps h g).guest ∙ steps_count h g)
