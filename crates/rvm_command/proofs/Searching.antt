-- A search turn by turn: the turns so far, the steps that they are, and the first fault that they show.
use Rattle.std.proofs.Common.{◌≡◌, ℕ, suc, ◌+◌, ◌-◌, ◌%◌, ◌<◌, ◌≤◌, List, [], ◌∷◌, ◌++◌, length, map, get_or, replicate, Option, Some, None, Bool, true, false, refl, sym, ap, subst, ◌∙◌, arith, append-nil}
use Rattle.std.proofs.Math.Nat.{mod-add-mod}
use Rattle.std.proofs.lemmas.Nat.{mod_below}
use Rattle.std.specs.List.{range_with_len}
use Rattle.std.specs.Prelude.{slice_set, is_some, ◌||◌}
use Rattle.rvm_mem.specs.Pages.{mark_all}
use Rattle.rvm_board.specs.declared.event.BoardEvent.{BoardEvent}
use Rattle.rvm_board.specs.declared.event.BoardEvent.TheVariants.{Step}
use Rattle.rvm_board.specs.declared.event.BoardReply.{BoardReply}
use Rattle.rvm_board.specs.declared.event.BoardReply.TheVariants as reply
use Rattle.rvm_board.specs.declared.turns.Order.TheVariants.{RoundRobin}
use Rattle.rvm_board.specs.declared.turns.Stop.{Stop}
use Rattle.rvm_board.specs.declared.turns.Turns.{Turns}
use Rattle.rvm_board.specs.Events.{Answered, steps}
use Rattle.rvm_board.specs.Guest.{Guest, GuestState}
use Rattle.rvm_board.specs.Turns.{AfterTurns, TakesTurns, after_turns, behind, stop_in, unless_stopped}
use Rattle.rvm_board.proofs.Turning.{behind_both, behind_none, ended, mark_more, one_more, steps_count}
use Rattle.rvm_command.specs.declared.fault.Fault.{Fault}
use Rattle.rvm_command.specs.ExtendedScript.{events_of_turns, fault_in_turns, fault_shown, hart_of_turn, steps_of_turns, turns_from}
use Rattle.rvm_command.specs.Faults.{Shown, fault_of, first_fault, latest_fault, or_later, shown}
use Rattle.rvm_command.specs.Taken.{Taken, steps_in}
use Rattle.rvm_command.specs.Turns.{taken_by}
use Rattle.rvm_command.specs.Watched.{turns_until}
use Rattle.rvm_command.proofs.Runs.{there_steps}
use Rattle.rvm_command.proofs.Watching.{Knows, knows_more, knows_none, steps_more, steps_none}

-- ---- turns one by one

-- no turns
no_turns : (t : ℕ) (g : Guest) → turns_from 0 t g ≡ record { guest = g; pages = []; made = 0; stop = None }
unfolding after_turns
no_turns t g = refl

-- a turn, and those after it
next_turns : (n t : ℕ) (g : Guest) → let s = steps (hart_of_turn t g) g in turns_from (suc n) t g ≡ unless_stopped (stop_in s.reply) s (turns_from n (t + 1) s.guest)
next_turns n t g =
    let h = hart_of_turn t g in
    let s : Answered = steps h g in
    let next : (h + 1) % length g.board.harts ≡ (t + 1) % length s.guest.board.harts = mod-add-mod t (length g.board.harts) 1 ∙ ap (λ k. (t + 1) % k) (sym (steps_count h g)) in
    one_more RoundRobin (suc n) n h g refl ∙ ap (λ k. unless_stopped (stop_in s.reply) s (after_turns RoundRobin n k s.guest)) next

-- the step of a turn, and those of the events after it
next_steps : (n t : ℕ) (g : Guest) → 0 < length g.board.harts → let s = steps (hart_of_turn t g) g in
    steps_in (events_of_turns (suc n) t g) g ≡ taken_by (hart_of_turn t g) g ∷ steps_in (events_of_turns n (t + 1) s.guest) s.guest
next_steps n t g some =
    let h = hart_of_turn t g in
    let s : Answered = steps h g in
    let there : h < length g.board.harts = mod_below t (length g.board.harts) some in
    let rest : List BoardEvent = map (λ k. Step (hart_of_turn k g)) (range_with_len (t + 1) n) in
    let same : rest ≡ events_of_turns n (t + 1) s.guest = ap (λ l. map (λ k. Step (k % l)) (range_with_len (t + 1) n)) (sym (steps_count h g)) in
    steps_more (Step h) rest g
    ∙ ap (λ (a : Answered). taken_by h g ∷ steps_in rest a.guest) (there_steps h g there)
    ∙ ap (λ (es : List BoardEvent). taken_by h g ∷ steps_in es s.guest) same

-- the steps of turns that end with the first of them
stopped_steps : (n t : ℕ) (g : Guest) (x : Stop) → 0 < length g.board.harts → stop_in (steps (hart_of_turn t g) g).reply ≡ Some x → steps_of_turns (suc n) t g ≡ taken_by (hart_of_turn t g) g ∷ []
stopped_steps n t g x some stop =
    let s : Answered = steps (hart_of_turn t g) g in
    ap (λ (a : AfterTurns). steps_in (events_of_turns a.made t g) g) (next_turns n t g ∙ ap (λ (o : Option Stop). unless_stopped o s (turns_from n (t + 1) s.guest)) stop)
    ∙ next_steps 0 t g some
    ∙ ap (λ (l : List Taken). taken_by (hart_of_turn t g) g ∷ l) (steps_none s.guest)

-- those of turns that go on after it
more_steps : (n t : ℕ) (g : Guest) → 0 < length g.board.harts → let s = steps (hart_of_turn t g) g in stop_in s.reply ≡ None
    → steps_of_turns (suc n) t g ≡ taken_by (hart_of_turn t g) g ∷ steps_of_turns n (t + 1) s.guest
more_steps n t g some stop =
    let s : Answered = steps (hart_of_turn t g) g in
    let rest : AfterTurns = turns_from n (t + 1) s.guest in
    let more : 1 + rest.made ≡ suc rest.made = omega arith in
    ap (λ (a : AfterTurns). steps_in (events_of_turns a.made t g) g) (next_turns n t g ∙ ap (λ (o : Option Stop). unless_stopped o s rest) stop)
    ∙ ap (λ k. steps_in (events_of_turns k t g) g) more
    ∙ next_steps rest.made t g some

-- ---- the first fault

no_fault : (earlier : List Taken) → first_fault earlier [] ≡ None
unfolding first_fault
no_fault earlier = refl

next_fault : (earlier : List Taken) (u : Taken) (us : List Taken) → first_fault earlier (u ∷ us) ≡ or_later (shown u.reply (latest_fault u.hart earlier)) (length earlier + 1) (first_fault (u ∷ earlier) us)
unfolding first_fault
next_fault earlier u us = refl

-- a step that shows a fault ends no turns by itself
goes_on : (r : BoardReply) (latest : Option Fault) (f : Fault) → Some f ≡ shown r latest → stop_in r ≡ None
goes_on (reply.Trapped x) latest f shows = refl
goes_on (reply.Halted s) latest f shows = absurd cc
goes_on (reply.Break a) latest f shows = absurd cc
goes_on reply.Retired latest f shows = refl
goes_on (reply.Interrupted i) latest f shows = refl
goes_on reply.Done latest f shows = refl
goes_on (reply.Bytes bytes) latest f shows = refl
goes_on (reply.Regs values) latest f shows = refl
goes_on (reply.Line a word) latest f shows = refl
goes_on (reply.Refused why) latest f shows = refl

-- ---- turns so far

-- turns from turn t on, none of which ended the search: the pages that they wrote; that more turns go on after them; their
-- steps, the latest first; what is known of each hart's latest step; and that they show no fault
pub record Searched (t : ℕ) (start now : GuestState) (made : ℕ) (latest : List (Option Fault)) : Type 0 where
  pub pages : List ℕ
  pub log : now.dirty ≡ mark_all pages start.dirty
  pub size : length now.guest.board.harts ≡ length start.guest.board.harts
  pub turned : (n : ℕ) → turns_from (made + n) t start.guest ≡ behind pages made (turns_from n (t + made) now.guest)
  pub earlier : List Taken
  pub count : length earlier ≡ made
  pub known : Knows latest earlier
  pub found : (n : ℕ) → fault_in_turns (made + n) t start.guest ≡ first_fault earlier (steps_of_turns n (t + made) now.guest)

pub none_searched : (t : ℕ) (start : GuestState) (latest : List (Option Fault)) → latest ≡ replicate 8 None → Searched t start start 0 latest
none_searched t start latest e =
    let same : t ≡ t + 0 = omega arith in
    record {
      pages = [];
      log = refl;
      size = refl;
      turned = λ n. (let all : 0 + n ≡ n = omega arith in
          ap (λ k. turns_from k t start.guest) all ∙ sym (behind_none (turns_from n t start.guest)) ∙ ap (λ k. behind [] 0 (turns_from n k start.guest)) same);
      earlier = [];
      count = refl;
      known = knows_none latest e;
      found = λ n. (let all : 0 + n ≡ n = omega arith in
          ap (λ k. fault_in_turns k t start.guest) all ∙ ap (λ k. first_fault [] (steps_of_turns n k start.guest)) same);
    }

-- a turn of hart h: what ends the turns with it, the fault that it shows, and what is noted of it
pub record TurnTaken (h : ℕ) (now next : GuestState) (latest noted : List (Option Fault)) (stop : Option Stop) (fault : Option Fault) : Type 0 where
  pub guest : next.guest ≡ (steps h now.guest).guest
  pub dirty : next.dirty ≡ mark_all (steps h now.guest).pages now.dirty
  pub ends : stop ≡ stop_in (steps h now.guest).reply
  pub shows : fault ≡ shown (steps h now.guest).reply (get_or latest h None)
  pub notes : noted ≡ slice_set latest h (fault_of (taken_by h now.guest))

-- a fault that the step of hart h shows
shows_so : {t h made : ℕ} {start now next : GuestState} {latest noted : List (Option Fault)} {stop : Option Stop} {fault : Option Fault} → h < 8 → h < length now.guest.board.harts → (so_far : Searched t start now made latest) → TurnTaken h now next latest noted stop fault
    → shown (taken_by h now.guest).reply (latest_fault h so_far.earlier) ≡ fault
shows_so {t} {h} {made} {start} {now} {next} {latest} {noted} {stop} {fault} below there so_far taken =
    ap (λ (a : Answered). shown a.reply (latest_fault h so_far.earlier)) (there_steps h now.guest there)
    ∙ ap (shown (steps h now.guest).reply) (sym (so_far.known.each h below))
    ∙ sym taken.shows

-- a turn that does not end the search
more_searched : {t made : ℕ} {start now next : GuestState} {latest noted : List (Option Fault)} → hart_of_turn (t + made) now.guest < 8 → 0 < length now.guest.board.harts → Searched t start now made latest → TurnTaken (hart_of_turn (t + made) now.guest) now next latest noted None None
    → Searched t start next (made + 1) noted
more_searched {t} {made} {start} {now} {next} {latest} {noted} below some so_far taken =
    let g = now.guest in
    let turn : ℕ = t + made in
    let h = hart_of_turn turn g in
    let s : Answered = steps h g in
    let u : Taken = taken_by h g in
    let stop : stop_in s.reply ≡ None = sym taken.ends in
    let none : shown u.reply (latest_fault h so_far.earlier) ≡ None = shows_so below (mod_below turn (length g.board.harts) some) so_far taken in
    let later : turn + 1 ≡ t + (made + 1) = omega arith in
    let pages = so_far.pages ++ s.pages in
    let earlier = u ∷ so_far.earlier in
    record {
      pages = pages;
      log = taken.dirty ∙ ap (mark_all s.pages) so_far.log ∙ sym (mark_more so_far.pages s.pages start.dirty);
      size = ap (λ (x : Guest). length x.board.harts) taken.guest ∙ steps_count h g ∙ so_far.size;
      turned = λ n. (let more : made + 1 + n ≡ made + suc n = omega arith in
          let rest : AfterTurns = turns_from n (turn + 1) s.guest in
          ap (λ k. turns_from k t start.guest) more ∙ so_far.turned (suc n)
          ∙ ap (behind so_far.pages made) (next_turns n turn g ∙ ap (λ (o : Option Stop). unless_stopped o s rest) stop)
          ∙ behind_both so_far.pages s.pages made 1 rest
          ∙ ap (λ k. behind pages (made + 1) (turns_from n k s.guest)) later
          ∙ ap (λ (x : Guest). behind pages (made + 1) (turns_from n (t + (made + 1)) x)) (sym taken.guest));
      earlier = earlier;
      count = omega (arith, so_far.count);
      known = knows_more u below so_far.known taken.notes;
      found = λ n. (let more : made + 1 + n ≡ made + suc n = omega arith in
          let us : List Taken = steps_of_turns n (turn + 1) s.guest in
          ap (λ k. fault_in_turns k t start.guest) more ∙ so_far.found (suc n)
          ∙ ap (first_fault so_far.earlier) (more_steps n turn g some stop)
          ∙ next_fault so_far.earlier u us
          ∙ ap (λ (o : Option Fault). or_later o (length so_far.earlier + 1) (first_fault earlier us)) none
          ∙ ap (λ k. first_fault earlier (steps_of_turns n k s.guest)) later
          ∙ ap (λ (x : Guest). first_fault earlier (steps_of_turns n (t + (made + 1)) x)) (sym taken.guest));
    }

-- ---- the end of a search

-- a search of at most `count` turns ended so
pub record IsSought (t count : ℕ) (start new : GuestState) (told : Turns) (fault : Option Fault) : Type 0 where
  pub takes : TakesTurns (turns_from (turns_until (fault_in_turns count t start.guest) count) t start.guest) start new told
  pub shows : fault ≡ fault_shown (fault_in_turns count t start.guest)

-- with a turn that shows a fault
ends_shown : {t made : ℕ} {start now next : GuestState} {latest noted : List (Option Fault)} {stop : Option Stop} (m count : ℕ) (f : Fault) → count ≡ made + suc m → hart_of_turn (t + made) now.guest < 8 → 0 < length now.guest.board.harts → Searched t start now made latest
    → TurnTaken (hart_of_turn (t + made) now.guest) now next latest noted stop (Some f) → IsSought t count start next (record { made = made + 1; stop = stop }) (Some f)
ends_shown {t} {made} {start} {now} {next} {latest} {noted} {stop} m count f all below some so_far taken =
    let g = now.guest in
    let turn : ℕ = t + made in
    let h = hart_of_turn turn g in
    let s : Answered = steps h g in
    let u : Taken = taken_by h g in
    let on : stop_in s.reply ≡ None = goes_on s.reply (get_or latest h None) f taken.shows in
    let shows : shown u.reply (latest_fault h so_far.earlier) ≡ Some f = shows_so below (mod_below turn (length g.board.harts) some) so_far taken in
    let us : List Taken = steps_of_turns m (turn + 1) s.guest in
    let steps_made : length so_far.earlier + 1 ≡ made + 1 = omega (arith, so_far.count) in
    let told : Shown = record { steps = made + 1; fault = f } in
    let found : fault_in_turns count t start.guest ≡ Some told =
    ap (λ k. fault_in_turns k t start.guest) all ∙ so_far.found (suc m)
    ∙ ap (first_fault so_far.earlier) (more_steps m turn g some on)
    ∙ next_fault so_far.earlier u us
    ∙ ap (λ (o : Option Fault). or_later o (length so_far.earlier + 1) (first_fault (u ∷ so_far.earlier) us)) shows
    ∙ ap (λ k. or_later (Some f) k None) steps_made in
    let last : AfterTurns = record { guest = s.guest; pages = s.pages ++ []; made = 1 + 0; stop = None } in
    let one : turns_from 1 turn g ≡ last =
    next_turns 0 turn g ∙ ap (λ (o : Option Stop). unless_stopped o s (turns_from 0 (turn + 1) s.guest)) on ∙ ap (behind s.pages 1) (no_turns (turn + 1) s.guest) in
    let until = turns_until (fault_in_turns count t start.guest) count in
    let whole : behind so_far.pages made last ≡ turns_from until t start.guest =
    ap (behind so_far.pages made) (sym one) ∙ sym (so_far.turned 1) ∙ ap (λ (o : Option Shown). turns_from (turns_until o count) t start.guest) (sym found) in
    record {
      takes = ended (turns_from until t start.guest) last so_far.pages made start.dirty now.dirty next.dirty next.guest start next (record { made = made + 1; stop = stop }) whole so_far.log
          (taken.dirty ∙ ap (λ ps. mark_all ps now.dirty) (sym (append-nil s.pages))) refl taken.guest refl refl (taken.ends ∙ on);
      shows = ap fault_shown (sym found);
    }

-- with a turn that stops or halts
ends_stopped : {t made : ℕ} {start now next : GuestState} {latest noted : List (Option Fault)} (m count : ℕ) (x : Stop) → count ≡ made + suc m → hart_of_turn (t + made) now.guest < 8 → 0 < length now.guest.board.harts → Searched t start now made latest
    → TurnTaken (hart_of_turn (t + made) now.guest) now next latest noted (Some x) None → IsSought t count start next (record { made = made + 1; stop = Some x }) None
ends_stopped {t} {made} {start} {now} {next} {latest} {noted} m count x all below some so_far taken =
    let g = now.guest in
    let turn : ℕ = t + made in
    let h = hart_of_turn turn g in
    let s : Answered = steps h g in
    let u : Taken = taken_by h g in
    let stop : stop_in s.reply ≡ Some x = sym taken.ends in
    let none : shown u.reply (latest_fault h so_far.earlier) ≡ None = shows_so below (mod_below turn (length g.board.harts) some) so_far taken in
    let found : fault_in_turns count t start.guest ≡ None =
    ap (λ k. fault_in_turns k t start.guest) all ∙ so_far.found (suc m)
    ∙ ap (first_fault so_far.earlier) (stopped_steps m turn g x some stop)
    ∙ next_fault so_far.earlier u []
    ∙ ap (λ (o : Option Fault). or_later o (length so_far.earlier + 1) (first_fault (u ∷ so_far.earlier) [])) none
    ∙ no_fault (u ∷ so_far.earlier) in
    let last : AfterTurns = record { guest = s.guest; pages = s.pages; made = 1; stop = Some x } in
    let until = turns_until (fault_in_turns count t start.guest) count in
    let whole : behind so_far.pages made last ≡ turns_from until t start.guest =
    ap (behind so_far.pages made) (sym (next_turns m turn g ∙ ap (λ (o : Option Stop). unless_stopped o s (turns_from m (turn + 1) s.guest)) stop))
    ∙ sym (so_far.turned (suc m)) ∙ ap (λ k. turns_from k t start.guest) (sym all)
    ∙ ap (λ (o : Option Shown). turns_from (turns_until o count) t start.guest) (sym found) in
    record {
      takes = ended (turns_from until t start.guest) last so_far.pages made start.dirty now.dirty next.dirty next.guest start next (record { made = made + 1; stop = Some x }) whole so_far.log
          taken.dirty refl taken.guest refl refl refl;
      shows = ap fault_shown (sym found);
    }

-- with its last turn, since all were made
pub ends_spent : (t count : ℕ) (start now : GuestState) (latest : List (Option Fault)) → Searched t start now count latest → IsSought t count start now (record { made = count; stop = None }) None
ends_spent t count start now latest so_far =
    let all : count ≡ count + 0 = omega arith in
    let turn : ℕ = t + count in
    let none : steps_of_turns 0 turn now.guest ≡ [] = ap (λ (a : AfterTurns). steps_in (events_of_turns a.made turn now.guest) now.guest) (no_turns turn now.guest) ∙ steps_none now.guest in
    let found : fault_in_turns count t start.guest ≡ None =
    ap (λ k. fault_in_turns k t start.guest) all ∙ so_far.found 0 ∙ ap (first_fault so_far.earlier) none ∙ no_fault so_far.earlier in
    let last : AfterTurns = record { guest = now.guest; pages = []; made = 0; stop = None } in
    let until = turns_until (fault_in_turns count t start.guest) count in
    let whole : behind so_far.pages count last ≡ turns_from until t start.guest =
    ap (behind so_far.pages count) (sym (no_turns turn now.guest)) ∙ sym (so_far.turned 0) ∙ ap (λ k. turns_from k t start.guest) (sym all)
    ∙ ap (λ (o : Option Shown). turns_from (turns_until o count) t start.guest) (sym found) in
    record {
      takes = ended (turns_from until t start.guest) last so_far.pages count start.dirty now.dirty now.dirty now.guest start now (record { made = count; stop = None }) whole so_far.log
          refl refl refl refl all refl;
      shows = ap fault_shown (sym found);
    }

-- ---- the loop

-- the hart of a turn, by the code's numbers
pub hart_is : (t made k harts n h : ℕ) → h ≡ (t + k) % harts → k ≡ made → harts ≡ n → h ≡ (t + made) % n
hart_is t made k harts n h is same count = is ∙ ap (λ x. (t + x) % harts) same ∙ ap (λ x. (t + made) % x) count

turn_hart : {t made h : ℕ} {start now next : GuestState} {latest noted : List (Option Fault)} {stop : Option Stop} {fault : Option Fault} → h ≡ (t + made) % length start.guest.board.harts → Searched t start now made latest → TurnTaken h now next latest noted stop fault
    → TurnTaken (hart_of_turn (t + made) now.guest) now next latest noted stop fault
turn_hart {t} {made} {h} {start} {now} {next} {latest} {noted} {stop} {fault} hart so_far taken =
    subst (λ k. TurnTaken k now next latest noted stop fault) (hart ∙ ap (λ k. (t + made) % k) (sym so_far.size)) taken

-- a turn that is known not to end the search
pub goes_on_with : {t made h : ℕ} {start now next : GuestState} {latest noted : List (Option Fault)} (stop : Option Stop) (fault : Option Fault) (b : Bool) → b ≡ (is_some stop || is_some fault) → b ≡ false → h ≡ (t + made) % length start.guest.board.harts → length start.guest.board.harts ≤ 8 → 0 < length start.guest.board.harts → Searched t start now made latest → TurnTaken h now next latest noted stop fault
    → Searched t start next (made + 1) noted
goes_on_with {t} {made} {h} {start} {now} {next} {latest} {noted} None None b said on hart most some so_far taken =
    let harts = length now.guest.board.harts in
    let there : 0 < harts = omega (arith, some, so_far.size) in
    more_searched (omega (arith, mod_below (t + made) harts there, most, so_far.size)) there so_far (turn_hart hart so_far taken)
goes_on_with {t} {made} {h} {start} {now} {next} {latest} {noted} (Some x) fault b said on hart most some so_far taken = let no : true ≡ false = sym said ∙ on in absurd cc
goes_on_with {t} {made} {h} {start} {now} {next} {latest} {noted} None (Some f) b said on hart most some so_far taken = let no : true ≡ false = sym said ∙ on in absurd cc

-- a turn that ends the search
pub ends_with : {t made h : ℕ} {start now next : GuestState} {latest noted : List (Option Fault)} (count : ℕ) (stop : Option Stop) (fault : Option Fault) (b : Bool) → b ≡ (is_some stop || is_some fault) → b ≡ true → made < count → h ≡ (t + made) % length start.guest.board.harts → length start.guest.board.harts ≤ 8 → 0 < length start.guest.board.harts → Searched t start now made latest → TurnTaken h now next latest noted stop fault
    → IsSought t count start next (record { made = made + 1; stop = stop }) fault
ends_with {t} {made} {h} {start} {now} {next} {latest} {noted} count stop (Some f) b said off more hart most some so_far taken =
    let harts = length now.guest.board.harts in
    let there : 0 < harts = omega (arith, some, so_far.size) in
    ends_shown (count - made - 1) count f (omega (arith, more)) (omega (arith, mod_below (t + made) harts there, most, so_far.size)) there so_far (turn_hart hart so_far taken)
ends_with {t} {made} {h} {start} {now} {next} {latest} {noted} count (Some x) None b said off more hart most some so_far taken =
    let harts = length now.guest.board.harts in
    let there : 0 < harts = omega (arith, some, so_far.size) in
    ends_stopped (count - made - 1) count x (omega (arith, more)) (omega (arith, mod_below (t + made) harts there, most, so_far.size)) there so_far (turn_hart hart so_far taken)
ends_with {t} {made} {h} {start} {now} {next} {latest} {noted} count None None b said off more hart most some so_far taken = let no : false ≡ true = sym said ∙ off in absurd cc
