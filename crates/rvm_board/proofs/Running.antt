-- Turns of a hart that does not stop: its steps, up to one that halts the board.
use Rattle.std.proofs.Common.{◌≡◌, ◌==◌, ℕ, zero, suc, ◌+◌, ◌<◌, List, ◌++◌, length, Bool, true, false, ◌&&◌, cond, not, get_or, Option, Some, None, refl, sym, ap, ◌∙◌, arith, is_some}
use Rattle.std.proofs.lemmas.Bool.Decides.{nat_tests}
use Rattle.rvm_mem.specs.Pages.{mark_all}
use Rattle.rvm_hart.specs.declared.outcome.Stepped.{Stepped}
use Rattle.rvm_hart.specs.declared.outcome.Stepped.TheVariants as stepped
use Rattle.rvm_hart.specs.Machine.{Machine}
use Rattle.rvm_hart.specs.Running.{all_go, ends_so, has_status, status_in}
use Rattle.rvm_hart.specs.Step.{After, step}
use Rattle.rvm_hart.specs.Step as hart
use Rattle.rvm_hart.specs.Straight.{Steps}
use Rattle.rvm_hart.specs.Straight as straight
use Rattle.rvm_board.specs.Board.{Board, machine_at, with_machine}
use Rattle.rvm_board.specs.declared.event.BoardReply.TheVariants as reply
use Rattle.rvm_board.specs.declared.turns.Order.TheVariants.{Alone}
use Rattle.rvm_board.specs.declared.turns.Stop.TheVariants.{Halted}
use Rattle.rvm_board.specs.declared.turns.Turns.{Turns}
use Rattle.rvm_board.specs.Guest.{Guest, GuestState, is_in}
use Rattle.rvm_board.specs.Events.{Answered, leaves, pc_of, reply_of, steps, takes_step, with_board, with_stopped}
use Rattle.rvm_board.specs.Events as events
use Rattle.rvm_board.specs.Marks.{gone, none_stops}
use Rattle.rvm_board.specs.Turns.{AfterTurns, TakesTurns, after_turns, behind, stop_in, unless_stopped}
use Rattle.rvm_board.proofs.Going.{not_so, not_stopped, put_same, put_twice, there}
use Rattle.rvm_board.proofs.Marking.{Both, both}
use Rattle.rvm_board.proofs.Turning.{Turning, behind_both, behind_none, mark_more, one_more, stops_at}

-- what a turn leaves of a hart that does not stop
abbrev turned : (h : ℕ) → After → Guest → Answered
turned h a g = record { guest = with_board (with_machine h a.machine g.board) g; pages = a.pages; reply = reply_of a.answer }

turn_cases : (o : Option ℕ) (h : ℕ) (x : Machine) (g : Guest) → x.shared.devices.halted ≡ o → h < length g.board.harts → is_in x.hart.pc g.breakpoints ≡ false → get_or g.stopped h false ≡ false
    → steps h (with_board (with_machine h x g.board) g) ≡ turned h (step x) g
turn_cases None h x g on inside no_breakpoint none =
    let at : Guest = with_board (with_machine h x g.board) g in
    let a : After = step x in
    ap (λ o. events.unless_halted o h at) on
    ∙ ap (λ b. cond (b && not (get_or g.stopped h false)) (leaves (with_stopped h true at) (reply.Break (pc_of h at))) (takes_step h at))
    (ap (λ (m : Machine). is_in m.hart.pc g.breakpoints) (there h x g.board inside) ∙ no_breakpoint)
    ∙ ap (λ (m : Machine). record { guest = with_stopped h false (with_board (with_machine h (step m).machine at.board) at); pages = (step m).pages; reply = reply_of (step m).answer }) (there h x g.board inside)
    ∙ ap (λ (b : Board). record { guest = with_stopped h false (with_board b at); pages = a.pages; reply = reply_of a.answer }) (put_twice h x a.machine g.board)
    ∙ ap (λ (fs : List Bool). record { guest = record { board = with_machine h a.machine g.board; breakpoints = g.breakpoints; stopped = fs }; pages = a.pages; reply = reply_of a.answer }) (not_stopped g.stopped h none)
turn_cases (Some s) h x g halted inside no_breakpoint none =
    let at : Guest = with_board (with_machine h x g.board) g in
    ap (λ o. events.unless_halted o h at) halted
    ∙ sym (ap (λ (a : After). turned h a g) (ap (λ o. hart.unless_halted o x) halted))

-- such a turn, whatever its step reports
turn_is : (h : ℕ) (x : Machine) (g : Guest) → h < length g.board.harts → is_in x.hart.pc g.breakpoints ≡ false → get_or g.stopped h false ≡ false
    → steps h (with_board (with_machine h x g.board) g) ≡ turned h (step x) g
turn_is h x g inside no_breakpoint none = turn_cases x.shared.devices.halted h x g refl inside no_breakpoint none

goes_cases : (a : Stepped) → not (is_some (status_in a)) ≡ true → stop_in (reply_of a) ≡ None
goes_cases stepped.Retired e = refl
goes_cases (stepped.Trapped x) e = refl
goes_cases (stepped.Interrupted i) e = refl
goes_cases (stepped.Halted s) e = absurd cc

same_status : (s t : ℕ) → (t == s) ≡ true → Some (Halted t) ≡ Some (Halted s)
same_status s t e = let is : t ≡ s = grind (arith, nat_tests) in ap (λ n. Some (Halted n)) is

status_cases : (s : ℕ) (a : Stepped) → has_status s (status_in a) ≡ true → stop_in (reply_of a) ≡ Some (Halted s)
status_cases s stepped.Retired e = absurd cc
status_cases s (stepped.Trapped x) e = absurd cc
status_cases s (stepped.Interrupted i) e = absurd cc
status_cases s (stepped.Halted t) e = same_status s t e

-- turns that begin with steps that do not halt the board
begin_running : (k n h : ℕ) (g : Guest) → h < length g.board.harts → (0 < k → get_or g.stopped h false ≡ false) → none_stops g.breakpoints k (machine_at h g.board) ≡ true
    → all_go k (machine_at h g.board) ≡ true
    → after_turns Alone (k + n) h g ≡ behind (straight.steps k (machine_at h g.board)).pages k (after_turns Alone n h (gone h k g))
unfolding straight.steps none_stops all_go
begin_running zero n h g inside stand stops go =
    ap (λ i. after_turns Alone i h g) (omega arith)
    ∙ ap (λ (b : Board). after_turns Alone n h (with_board b g)) (sym (put_same h g.board))
    ∙ sym (behind_none (after_turns Alone n h (gone h 0 g)))
begin_running (suc k) n h g inside stand stops go =
    let m : Machine = machine_at h g.board in
    let s : Steps = straight.steps k m in
    let a : After = step s.machine in
    let at : Guest = gone h k g in
    let none : get_or g.stopped h false ≡ false = stand (omega arith) in
    let each : Both (none_stops g.breakpoints k m) (not (is_in s.machine.hart.pc g.breakpoints)) = both (none_stops g.breakpoints k m) (not (is_in s.machine.hart.pc g.breakpoints)) stops in
    let all : Both (all_go k m) (not (is_some (status_in a.answer))) = both (all_go k m) (not (is_some (status_in a.answer))) go in
    let turn : Answered = turned h a g in
    ap (λ i. after_turns Alone i h g) (omega arith)
    ∙ begin_running k (suc n) h g inside (λ some. none) each.first all.first
    ∙ ap (behind s.pages k) (one_more Alone (suc n) n h at refl
    ∙ ap (λ (t : Answered). unless_stopped (stop_in t.reply) t (after_turns Alone n h t.guest)) (turn_is h s.machine g inside (not_so (is_in s.machine.hart.pc g.breakpoints) each.second) none)
    ∙ ap (λ o. unless_stopped o turn (after_turns Alone n h turn.guest)) (goes_cases a.answer all.second))
    ∙ behind_both s.pages a.pages k 1 (after_turns Alone n h turn.guest)
    ∙ ap (λ (i : ℕ). behind (s.pages ++ a.pages) i (after_turns Alone n h turn.guest)) (omega arith)

-- the turns that go on after such steps
goes_far : {all : AfterTurns} {first : List Bool} (n k m h made made' : ℕ) (old new : GuestState) → Turning all (after_turns Alone n h old.guest) made first old.dirty → n ≡ k + m → made' ≡ made + k
    → h < length old.guest.board.harts → (0 < k → get_or old.guest.stopped h false ≡ false) → none_stops old.guest.breakpoints k (machine_at h old.guest.board) ≡ true
    → all_go k (machine_at h old.guest.board) ≡ true
    → new.guest ≡ gone h k old.guest → new.dirty ≡ mark_all (straight.steps k (machine_at h old.guest.board)).pages old.dirty
    → Turning all (after_turns Alone m h new.guest) made' first new.dirty
goes_far {all} {first} n k m h made made' old new so_far more counted inside stand stops go left marked =
    let pages : List ℕ = (straight.steps k (machine_at h old.guest.board)).pages in
    let went : after_turns Alone n h old.guest ≡ behind pages k (after_turns Alone m h new.guest) =
    ap (λ i. after_turns Alone i h old.guest) more
    ∙ begin_running k m h old.guest inside stand stops go
    ∙ ap (λ g. behind pages k (after_turns Alone m h g)) (sym left) in
    record {
      pages = so_far.pages ++ pages;
      log = marked ∙ ap (mark_all pages) so_far.log ∙ sym (mark_more so_far.pages pages first);
      whole = ap (λ i. behind (so_far.pages ++ pages) i (after_turns Alone m h new.guest)) counted
          ∙ sym (behind_both so_far.pages pages made k (after_turns Alone m h new.guest))
          ∙ ap (behind so_far.pages made) (sym went)
          ∙ so_far.whole;
    }

none_halted : (k : ℕ) (o : Option ℕ) (m : Machine) → o ≡ None → ends_so o k m ≡ true → all_go k m ≡ true
unfolding ends_so
none_halted k o m none ends = ap (λ x. ends_so x k m) (sym none) ∙ ends

-- steps that report no status
pub goes_running : {all : AfterTurns} {first : List Bool} (n k m h made made' : ℕ) (o : Option ℕ) (old new : GuestState) → Turning all (after_turns Alone n h old.guest) made first old.dirty → n ≡ k + m → made' ≡ made + k
    → h < length old.guest.board.harts → (0 < k → get_or old.guest.stopped h false ≡ false) → none_stops old.guest.breakpoints k (machine_at h old.guest.board) ≡ true
    → o ≡ None → ends_so o k (machine_at h old.guest.board) ≡ true
    → new.guest ≡ gone h k old.guest → new.dirty ≡ mark_all (straight.steps k (machine_at h old.guest.board)).pages old.dirty
    → Turning all (after_turns Alone m h new.guest) made' first new.dirty
goes_running n k m h made made' o old new so_far more counted inside stand stops none ends left marked =
    goes_far n k m h made made' old new so_far more counted inside stand stops (none_halted k o (machine_at h old.guest.board) none ends) left marked

-- steps of which the last halts the board
halts_cases : {all : AfterTurns} (n k m h made made' s : ℕ) (begun old new : GuestState) (told : Turns) → Turning all (after_turns Alone n h old.guest) made begun.dirty old.dirty → n ≡ k + m → made' ≡ made + k
    → h < length old.guest.board.harts → (0 < k → get_or old.guest.stopped h false ≡ false) → none_stops old.guest.breakpoints k (machine_at h old.guest.board) ≡ true
    → ends_so (Some s) k (machine_at h old.guest.board) ≡ true
    → new.guest ≡ gone h k old.guest → new.dirty ≡ mark_all (straight.steps k (machine_at h old.guest.board)).pages old.dirty
    → told ≡ record { made = made'; stop = Some (Halted s) } → TakesTurns all begun new told
unfolding straight.steps none_stops ends_so
halts_cases n zero m h made made' s begun old new told so_far more counted inside stand stops ends left marked said = absurd cc
halts_cases n (suc k) m h made made' s begun old new told so_far more counted inside stand stops ends left marked said =
    let x : Machine = machine_at h old.guest.board in
    let t : Steps = straight.steps k x in
    let a : After = step t.machine in
    let none : get_or old.guest.stopped h false ≡ false = stand (omega arith) in
    let each : Both (none_stops old.guest.breakpoints k x) (not (is_in t.machine.hart.pc old.guest.breakpoints)) = both (none_stops old.guest.breakpoints k x) (not (is_in t.machine.hart.pc old.guest.breakpoints)) stops in
    let all_but : Both (all_go k x) (has_status s (status_in a.answer)) = both (all_go k x) (has_status s (status_in a.answer)) ends in
    let mid : GuestState = record { guest = gone h k old.guest; dirty = mark_all t.pages old.dirty } in
    let last : steps h mid.guest ≡ turned h a old.guest = turn_is h t.machine old.guest inside (not_so (is_in t.machine.hart.pc old.guest.breakpoints) each.second) none in
    let before = goes_far n k (suc m) h made (made + k) old mid so_far (omega (arith, more)) refl inside (λ some. none) each.first all_but.first refl refl in
    stops_at Alone (suc m) m h (made + k) made' mid.guest (Halted s) begun new told before refl (omega (arith, counted))
    (ap (λ (y : Answered). stop_in y.reply) last ∙ status_cases s a.answer all_but.second)
    (left ∙ sym (ap (λ (y : Answered). y.guest) last))
    (marked ∙ mark_more t.pages a.pages old.dirty ∙ sym (ap (λ (y : Answered). mark_all y.pages mid.dirty) last))
    said

pub halts_turns : {all : AfterTurns} (n k m h made made' s : ℕ) (o : Option ℕ) (begun old new : GuestState) (told : Turns) → Turning all (after_turns Alone n h old.guest) made begun.dirty old.dirty → n ≡ k + m → made' ≡ made + k
    → h < length old.guest.board.harts → (0 < k → get_or old.guest.stopped h false ≡ false) → none_stops old.guest.breakpoints k (machine_at h old.guest.board) ≡ true
    → o ≡ Some s → ends_so o k (machine_at h old.guest.board) ≡ true
    → new.guest ≡ gone h k old.guest → new.dirty ≡ mark_all (straight.steps k (machine_at h old.guest.board)).pages old.dirty
    → told ≡ record { made = made'; stop = Some (Halted s) } → TakesTurns all begun new told
halts_turns n k m h made made' s o begun old new told so_far more counted inside stand stops some ends left marked said =
    halts_cases n k m h made made' s begun old new told so_far more counted inside stand stops (ap (λ x. ends_so x k (machine_at h old.guest.board)) (sym some) ∙ ends) left marked said
