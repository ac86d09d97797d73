-- Turns of a hart whose instructions all retire.
use Rattle.std.proofs.Common.{◌≡◌, ℕ, zero, suc, ◌+◌, ◌<◌, List, [], ◌++◌, length, Bool, true, false, ◌&&◌, cond, not, get_or, set, Option, Some, None, refl, sym, ap, subst, ◌∙◌, arith}
use Rattle.std.proofs.lemmas.List.{get_or-set_same, length-set, set-set, set-get_or}
use Rattle.rvm_mem.specs.Pages.{mark_all}
use Rattle.rvm_hart.specs.declared.outcome.Stepped.{Stepped}
use Rattle.rvm_hart.specs.declared.outcome.Stepped.TheVariants as stepped
use Rattle.rvm_hart.specs.Machine.{HartState, Machine}
use Rattle.rvm_hart.specs.Step.{After, step}
use Rattle.rvm_hart.specs.Step as hart
use Rattle.rvm_hart.specs.Straight.{Steps, is_retired, steps_on}
use Rattle.rvm_hart.specs.Straight as straight
use Rattle.rvm_board.specs.Board.{Board, machine_at, new_hart, with_machine}
use Rattle.rvm_board.specs.declared.event.BoardReply.TheVariants as reply
use Rattle.rvm_board.specs.declared.turns.Order.TheVariants.{Alone}
use Rattle.rvm_board.specs.Guest.{Guest, GuestState, is_in}
use Rattle.rvm_board.specs.Events.{Answered, leaves, pc_of, reply_of, steps, stops, takes_step, with_board, with_stopped}
use Rattle.rvm_board.specs.Events as events
use Rattle.rvm_board.specs.Marks.{gone, none_stops}
use Rattle.rvm_board.specs.Turns.{AfterTurns, after_turns, behind, stop_in, unless_stopped}
use Rattle.rvm_board.proofs.Marking.{Both, both}
use Rattle.rvm_board.proofs.Turning.{Turning, behind_both, behind_none, mark_more, one_more}

-- the answer of a step of a halted board is no Retired
halted_cases : (o : Option ℕ) (m : Machine) → is_retired (hart.unless_halted o m).answer ≡ true → o ≡ None
halted_cases None m retired = refl
halted_cases (Some s) m retired = absurd cc

retired_is : (s : Stepped) → is_retired s ≡ true → s ≡ stepped.Retired
retired_is stepped.Retired retired = refl
retired_is (stepped.Trapped e) retired = absurd cc
retired_is (stepped.Interrupted i) retired = absurd cc
retired_is (stepped.Halted s) retired = absurd cc

-- the hart that was put back
pub there : (h : ℕ) (x : Machine) (b : Board) → h < length b.harts → machine_at h (with_machine h x b) ≡ x
there h x b inside = ap (λ (y : HartState). record { hart = y; shared = x.shared }) (get_or-set_same b.harts h x.hart (new_hart 0 0) inside)

pub put_twice : (h : ℕ) (x y : Machine) (b : Board) → with_machine h y (with_machine h x b) ≡ with_machine h y b
put_twice h x y b = ap (λ (hs : List HartState). record { harts = hs; shared = y.shared }) (set-set b.harts h x.hart y.hart)

pub put_same : (h : ℕ) (b : Board) → with_machine h (machine_at h b) b ≡ b
put_same h b = ap (λ (hs : List HartState). record { harts = hs; shared = b.shared }) (set-get_or b.harts h (new_hart 0 0))

-- the hart does not stand at a breakpoint
pub not_stopped : (flags : List Bool) (h : ℕ) → get_or flags h false ≡ false → set flags h false ≡ flags
not_stopped flags h none = ap (λ b. set flags h b) (sym none) ∙ set-get_or flags h false

-- a step that retires, of a hart that does not stop instead
pub retired_turn : (h : ℕ) (x : Machine) (g : Guest) → h < length g.board.harts → is_in x.hart.pc g.breakpoints ≡ false → get_or g.stopped h false ≡ false → is_retired (step x).answer ≡ true
    → steps h (with_board (with_machine h x g.board) g)
    ≡ record { guest = with_board (with_machine h (step x).machine g.board) g; pages = (step x).pages; reply = reply.Retired }
retired_turn h x g inside no_breakpoint none retired =
    let at : Guest = with_board (with_machine h x g.board) g in
    let a : After = step x in
    ap (λ o. events.unless_halted o h at) (halted_cases x.shared.devices.halted x retired)
    ∙ ap (λ b. cond (b && not (get_or g.stopped h false)) (leaves (with_stopped h true at) (reply.Break (pc_of h at))) (takes_step h at))
    (ap (λ (m : Machine). is_in m.hart.pc g.breakpoints) (there h x g.board inside) ∙ no_breakpoint)
    ∙ ap (λ (m : Machine). record { guest = with_stopped h false (with_board (with_machine h (step m).machine at.board) at); pages = (step m).pages; reply = reply_of (step m).answer }) (there h x g.board inside)
    ∙ ap (λ (b : Board). record { guest = with_stopped h false (with_board b at); pages = a.pages; reply = reply_of a.answer }) (put_twice h x a.machine g.board)
    ∙ ap (λ (fs : List Bool). record { guest = record { board = with_machine h a.machine g.board; breakpoints = g.breakpoints; stopped = fs }; pages = a.pages; reply = reply_of a.answer }) (not_stopped g.stopped h none)
    ∙ ap (λ (s : Stepped). record { guest = with_board (with_machine h a.machine g.board) g; pages = a.pages; reply = reply_of s }) (retired_is a.answer retired)

pub not_so : (b : Bool) → not b ≡ true → b ≡ false
not_so false e = refl
not_so true e = absurd cc

-- the last of some steps, all of which retire and none of which begins at a breakpoint
pub record Last (k h : ℕ) (g : Guest) : Type 0 where
  pub retired : (straight.steps k (machine_at h g.board)).retired ≡ true
  pub stops : none_stops g.breakpoints k (machine_at h g.board) ≡ true
  pub turned : steps h (gone h k g)
      ≡ record { guest = gone h (suc k) g; pages = (step (straight.steps k (machine_at h g.board)).machine).pages; reply = reply.Retired }

pub last_of : (k h : ℕ) (g : Guest) → h < length g.board.harts → get_or g.stopped h false ≡ false
    → (straight.steps (suc k) (machine_at h g.board)).retired ≡ true → none_stops g.breakpoints (suc k) (machine_at h g.board) ≡ true → Last k h g
unfolding straight.steps none_stops
last_of k h g inside none retired stops =
    let s : Steps = straight.steps k (machine_at h g.board) in
    let all : Both s.retired (is_retired (step s.machine).answer) = both s.retired (is_retired (step s.machine).answer) retired in
    let each : Both (none_stops g.breakpoints k (machine_at h g.board)) (not (is_in s.machine.hart.pc g.breakpoints)) =
    both (none_stops g.breakpoints k (machine_at h g.board)) (not (is_in s.machine.hart.pc g.breakpoints)) stops in
    record {
      retired = all.first;
      stops = each.first;
      turned = retired_turn h s.machine g inside (not_so (is_in s.machine.hart.pc g.breakpoints) each.second) none all.second;
    }

-- making no step leaves the guest unchanged
pub gone_none : (h : ℕ) (g : Guest) → gone h 0 g ≡ g
unfolding straight.steps
gone_none h g = ap (λ (b : Board). with_board b g) (put_same h g.board)

-- steps do not change the number of harts
pub gone_count : (h k : ℕ) (g : Guest) → length (gone h k g).board.harts ≡ length g.board.harts
gone_count h k g = length-set g.board.harts h (straight.steps k (machine_at h g.board)).machine.hart

-- turns that begin with steps that all retire
pub begin_straight : (k n h : ℕ) (g : Guest) → h < length g.board.harts → (0 < k → get_or g.stopped h false ≡ false) → none_stops g.breakpoints k (machine_at h g.board) ≡ true
    → (straight.steps k (machine_at h g.board)).retired ≡ true
    → after_turns Alone (k + n) h g ≡ behind (straight.steps k (machine_at h g.board)).pages k (after_turns Alone n h (gone h k g))
unfolding straight.steps
begin_straight zero n h g inside stand stops retired =
    ap (λ i. after_turns Alone i h g) (omega arith)
    ∙ ap (λ (b : Board). after_turns Alone n h (with_board b g)) (sym (put_same h g.board))
    ∙ sym (behind_none (after_turns Alone n h (gone h 0 g)))
begin_straight (suc k) n h g inside stand stops retired =
    let s : Steps = straight.steps k (machine_at h g.board) in
    let a : After = step s.machine in
    let at : Guest = gone h k g in
    let none : get_or g.stopped h false ≡ false = stand (omega arith) in
    let last : Last k h g = last_of k h g inside none retired stops in
    let turn : Answered = record { guest = gone h (suc k) g; pages = a.pages; reply = reply.Retired } in
    ap (λ i. after_turns Alone i h g) (omega arith)
    ∙ begin_straight k (suc n) h g inside (λ some. none) last.stops last.retired
    ∙ ap (behind s.pages k) (one_more Alone (suc n) n h at refl ∙ ap (λ (t : Answered). unless_stopped (stop_in t.reply) t (after_turns Alone n h t.guest)) last.turned)
    ∙ behind_both s.pages a.pages k 1 (after_turns Alone n h turn.guest)
    ∙ ap (λ (i : ℕ). behind (s.pages ++ a.pages) i (after_turns Alone n h turn.guest)) (omega arith)

-- the turns that go on after such steps
pub goes_straight : {all : AfterTurns} {first : List Bool} (n k m h made made' : ℕ) (old new : GuestState) → Turning all (after_turns Alone n h old.guest) made first old.dirty → n ≡ k + m → made' ≡ made + k
    → h < length old.guest.board.harts → (0 < k → get_or old.guest.stopped h false ≡ false) → none_stops old.guest.breakpoints k (machine_at h old.guest.board) ≡ true
    → (straight.steps k (machine_at h old.guest.board)).retired ≡ true
    → new.guest ≡ gone h k old.guest → new.dirty ≡ mark_all (straight.steps k (machine_at h old.guest.board)).pages old.dirty
    → Turning all (after_turns Alone m h new.guest) made' first new.dirty
goes_straight {all} {first} n k m h made made' old new so_far more counted inside stand stops retired left marked =
    let pages : List ℕ = (straight.steps k (machine_at h old.guest.board)).pages in
    let turned : after_turns Alone n h old.guest ≡ behind pages k (after_turns Alone m h new.guest) =
    ap (λ i. after_turns Alone i h old.guest) more
    ∙ begin_straight k m h old.guest inside stand stops retired
    ∙ ap (λ g. behind pages k (after_turns Alone m h g)) (sym left) in
    record {
      pages = so_far.pages ++ pages;
      log = marked ∙ ap (mark_all pages) so_far.log ∙ sym (mark_more so_far.pages pages first);
      whole = ap (λ i. behind (so_far.pages ++ pages) i (after_turns Alone m h new.guest)) counted
          ∙ sym (behind_both so_far.pages pages made k (after_turns Alone m h new.guest))
          ∙ ap (behind so_far.pages made) (sym turned)
          ∙ so_far.whole;
    }

-- one step that retires is that of its hart
pub record OneTurn (h : ℕ) (g : Guest) : Type 0 where
  pub guest : gone h 1 g ≡ (steps h g).guest
  pub pages : (straight.steps 1 (machine_at h g.board)).pages ≡ (steps h g).pages
  pub reply : reply.Retired ≡ (steps h g).reply

pub one_turn : (h : ℕ) (g : Guest) → h < length g.board.harts → is_in (pc_of h g) g.breakpoints ≡ false → get_or g.stopped h false ≡ false
    → (straight.steps 1 (machine_at h g.board)).retired ≡ true → OneTurn h g
unfolding straight.steps
one_turn h g inside no_breakpoint none retired =
    let turned : steps h g ≡ record { guest = gone h 1 g; pages = (step (machine_at h g.board)).pages; reply = reply.Retired } =
    ap (steps h) (sym (gone_none h g)) ∙ retired_turn h (machine_at h g.board) g inside no_breakpoint none retired in
    record {
      guest = sym (ap (λ (a : Answered). a.guest) turned);
      pages = sym (ap (λ (a : Answered). a.pages) turned);
      reply = sym (ap (λ (a : Answered). a.reply) turned);
    }

-- making no step leaves all unchanged
pub record NoTurn (h k : ℕ) (g : Guest) : Type 0 where
  pub guest : gone h k g ≡ g
  pub pages : (straight.steps k (machine_at h g.board)).pages ≡ []

pub no_turn : (h k : ℕ) (g : Guest) → k ≡ 0 → NoTurn h k g
unfolding straight.steps
no_turn h k g e = subst (λ i. NoTurn h i g) (sym e) (record { guest = gone_none h g; pages = refl })

-- a guest and its log are those that a step of a hart leaves, which retires
pub record Turned (h : ℕ) (left : Guest) (log : List Bool) (now : GuestState) : Type 0 where
  pub guest : left ≡ (steps h now.guest).guest
  pub dirty : log ≡ mark_all (steps h now.guest).pages now.dirty
  pub reply : reply.Retired ≡ (steps h now.guest).reply

pub turned_once : (h k : ℕ) (g : Guest) (log : List Bool) (b : Board) (dirty : List Bool) (now : GuestState) → record { guest = g; dirty = log } ≡ now
    → h < length now.guest.board.harts → is_in (pc_of h now.guest) now.guest.breakpoints ≡ false → get_or now.guest.stopped h false ≡ false → k ≡ 1
    → b ≡ with_machine h (straight.steps k (machine_at h g.board)).machine g.board → dirty ≡ mark_all (straight.steps k (machine_at h g.board)).pages log
    → (straight.steps k (machine_at h g.board)).retired ≡ true → Turned h (with_board b g) dirty now
turned_once h k g log b dirty now view inside no_breakpoint none one left marked retired =
    subst (λ (s : GuestState). h < length s.guest.board.harts → is_in (pc_of h s.guest) s.guest.breakpoints ≡ false → get_or s.guest.stopped h false ≡ false → Turned h (with_board b g) dirty s) view
    (λ within at stands.
    let o : OneTurn h g = one_turn h g within at stands (subst (λ i. (straight.steps i (machine_at h g.board)).retired ≡ true) one retired) in
    record {
      guest = ap (λ (x : Board). with_board x g) left ∙ ap (λ i. gone h i g) one ∙ o.guest;
      dirty = marked ∙ ap (λ i. mark_all (straight.steps i (machine_at h g.board)).pages log) one ∙ ap (λ ps. mark_all ps log) o.pages;
      reply = o.reply;
    })
    inside no_breakpoint none

-- a guest and its log are unchanged
pub record Same (left : Guest) (log : List Bool) (now : GuestState) : Type 0 where
  pub guest : left ≡ now.guest
  pub dirty : log ≡ now.dirty

pub not_turned : (h k : ℕ) (g : Guest) (log : List Bool) (b : Board) (dirty : List Bool) (now : GuestState) → record { guest = g; dirty = log } ≡ now → k ≡ 0
    → b ≡ with_machine h (straight.steps k (machine_at h g.board)).machine g.board → dirty ≡ mark_all (straight.steps k (machine_at h g.board)).pages log
    → Same (with_board b g) dirty now
not_turned h k g log b dirty now view none left marked =
    let still : NoTurn h k g = no_turn h k g none in
    record {
      guest = ap (λ (x : Board). with_board x g) left ∙ still.guest ∙ ap (λ (s : GuestState). s.guest) view;
      dirty = marked ∙ ap (λ ps. mark_all ps log) still.pages ∙ ap (λ (s : GuestState). s.dirty) view;
    }
