-- A run turn by turn: the steps among its events, the first fault that they show, and their lines.
use Rattle.std.proofs.Common.{◌≡◌, ◌⊎◌, ℕ, zero, suc, ◌+◌, ◌-◌, ◌/◌, ◌%◌, ◌^◌, ◌<◌, ◌≤◌, List, [], ◌∷◌, ◌++◌, length, get_or, replicate, Option, Some, None, Bool, true, false, refl, sym, ap, subst, ◌∙◌, inl, inr, arith, append_assoc, append-nil, cond, nat_eq, nat_lt}
use Rattle.std.proofs.lemmas.Bool.{cases_eq, ne_eqb}
use Rattle.std.proofs.lemmas.Bool.Decides.{nat_tests}
use Rattle.std.proofs.lemmas.List.{get_or-set_same, get_or-set_other, get_or-replicate, length-append, length-set}
use Rattle.std.specs.Prelude.{slice_set, option_map, unwrap_or, is_some, not}
use Rattle.std.specs.List.{concat}
use Rattle.std.specs.Io.KnownBytes.{Appends}
use Rattle.rvm_mem.specs.Pages.{mark_all}
use Rattle.rvm_board.specs.declared.event.BoardEvent.{BoardEvent}
use Rattle.rvm_board.specs.declared.event.BoardEvent.TheVariants.{Step, Input, Drain}
use Rattle.rvm_board.specs.declared.event.BoardReply.{BoardReply}
use Rattle.rvm_board.specs.declared.event.BoardReply.TheVariants as reply
use Rattle.rvm_board.specs.declared.event.BoardRefusal.TheVariants.{BadHart}
use Rattle.rvm_board.specs.Guest.{Guest, GuestState}
use Rattle.rvm_board.specs.Events.{Answered, answered, pc_of, refuses, steps}
use Rattle.rvm_board.proofs.Turning.{steps_count}
use Rattle.rvm_command.specs.declared.trace.Before.{Before}
use Rattle.rvm_command.specs.Trace.{before_of, line_of}
use Rattle.rvm_command.specs.declared.fault.Fault.{Fault}
use Rattle.rvm_command.specs.declared.run.Ended.{Ended}
use Rattle.rvm_command.specs.declared.run.Ended.TheVariants as ended
use Rattle.rvm_command.specs.Buffered.{GoesOut}
use Rattle.rvm_command.specs.Counting.{AreRuns, noted as noted_step}
use Rattle.rvm_command.proofs.Covering.{counted_more}
use Rattle.rvm_command.specs.Faults.{Shown, cause_of, fault_at, fault_of, first_fault, latest_fault, or_later, shown}
use Rattle.rvm_command.specs.Order.{drawn}
use Rattle.rvm_command.specs.Run.{After, IsAfter, IsPartWay, Run, after, bytes_in, drains, first, left, offers, run_by, step_by, unless_halted}
use Rattle.rvm_command.specs.Taken.{Taken, step_in, steps_in}
use Rattle.rvm_command.specs.Turns.{between, drains_after, ends_turns, stops_at, taken_by}
use Rattle.rvm_command.specs.Watched.{BreaksOff, HasRun, end_at, fault_among, is_traced, line_at, lines_from, run_with, steps_of_run, trace_of, turns_of, turns_until}
use Rattle.rvm_command.proofs.Runs.{Finished, Progress, after_more, after_none, after_one, appends_more, appends_none, broken_off, bytes_both, ends_slice, finished, goes_quietly, is_after_both, is_after_none, is_after_one, last_drains, none_made, offer_quiet, out_more, part_way, quiet_halted, some_bytes, stays, there_steps}

-- ---- steps among events

pub steps_none : (g : Guest) → steps_in [] g ≡ []
unfolding steps_in
steps_none g = refl

pub steps_more : (e : BoardEvent) (es : List BoardEvent) (g : Guest) → steps_in (e ∷ es) g ≡ step_in e g (answered e g) ++ steps_in es (answered e g).guest
unfolding steps_in
steps_more e es g = refl

pub steps_both : (es fs : List BoardEvent) (g : Guest) → steps_in (es ++ fs) g ≡ steps_in es g ++ steps_in fs (after es g).guest
steps_both [] fs g =
    ap (λ (x : After). steps_in fs x.guest) (sym (after_none g)) ∙ ap (λ (l : List Taken). l ++ steps_in fs (after [] g).guest) (sym (steps_none g))
steps_both (e ∷ es) fs g =
    let a = answered e g in
    steps_more e (es ++ fs) g
    ∙ ap (λ (l : List Taken). step_in e g a ++ l) (steps_both es fs a.guest)
    ∙ sym (append_assoc (step_in e g a) (steps_in es a.guest) (steps_in fs (after es a.guest).guest))
    ∙ ap (λ (l : List Taken). l ++ steps_in fs (after es a.guest).guest) (sym (steps_more e es g))
    ∙ ap (λ (x : After). steps_in (e ∷ es) g ++ steps_in fs x.guest) (sym (after_more e es g))

-- none of these events is a step
steps_drained : (n : ℕ) (g : Guest) → steps_in (replicate n (Drain 256)) g ≡ []
steps_drained zero g = steps_none g
steps_drained (suc n) g = steps_more (Drain 256) (replicate n (Drain 256)) g ∙ steps_drained n (answered (Drain 256) g).guest

pub steps_drains : (g : Guest) → steps_in (drains g) g ≡ []
steps_drains g = steps_drained ((length g.board.shared.devices.output + 255) / 256) g

pub steps_offers : (input : List ℕ) (g : Guest) → steps_in (offers input) g ≡ []
steps_offers [] g = steps_none g
steps_offers (b ∷ rest) g = steps_more (Input b) [] g ∙ steps_none (answered (Input b) g).guest

steps_cond : (due : Bool) (g : Guest) → steps_in (cond due (drains g) []) g ≡ []
steps_cond true g = steps_drains g
steps_cond false g = steps_none g

pub steps_between : (end : Option Ended) (n : ℕ) (g : Guest) → steps_in (between end n g) g ≡ []
steps_between end n g = steps_cond (drains_after end n) g

pub steps_one : (h : ℕ) (g : Guest) → steps_in (Step h ∷ []) g ≡ taken_by h g ∷ []
steps_one h g = steps_more (Step h) [] g ∙ ap (λ (l : List Taken). taken_by h g ∷ l) (steps_none (answered (Step h) g).guest)

-- the events of a turn before those that follow its step
abbrev pub turn_events : (h : ℕ) → List ℕ → List BoardEvent
turn_events h input = offers input ++ Step h ∷ []

turn_left : (h : ℕ) (input : List ℕ) (now fed stepped : GuestState) → IsAfter (offers input) now fed → IsAfter (Step h ∷ []) fed stepped → IsAfter (turn_events h input) now stepped
turn_left h input now fed stepped offered made = is_after_both (offers input) (Step h ∷ []) now fed stepped offered made

-- the step of a turn
steps_turn : (h : ℕ) (input : List ℕ) (now fed : GuestState) → IsAfter (offers input) now fed → steps_in (turn_events h input) now.guest ≡ taken_by h fed.guest ∷ []
steps_turn h input now fed offered =
    steps_both (offers input) (Step h ∷ []) now.guest
    ∙ ap (λ (l : List Taken). l ++ steps_in (Step h ∷ []) (after (offers input) now.guest).guest) (steps_offers input now.guest)
    ∙ ap (steps_in (Step h ∷ [])) (sym offered.guest) ∙ steps_one h fed.guest

-- a step is answered no bytes
quiet_there : (b : Bool) (h : ℕ) (g : Guest) → bytes_in (cond b (steps h g) (refuses BadHart g)).reply ≡ []
quiet_there true h g = quiet_halted g.board.shared.devices.halted h g
quiet_there false h g = refl

turn_quiet : (h : ℕ) (input : List ℕ) (now fed : GuestState) → IsAfter (offers input) now fed → (after (turn_events h input) now.guest).bytes ≡ []
turn_quiet h input now fed offered =
    bytes_both (offers input) (Step h ∷ []) now fed offered
    ∙ ap (λ (l : List ℕ). l ++ (after (Step h ∷ []) fed.guest).bytes) (offer_quiet input now.guest).0
    ∙ ap (λ (x : After). x.bytes) (after_one (Step h) fed.guest)
    ∙ quiet_there (nat_lt h (length fed.guest.board.harts)) h fed.guest

-- ---- the rest of a run after turns

-- the rest of a run whose turns ended so far as this: n turns from turn t on, or the last drains
abbrev pub rest_after : (seed : Option ℕ) → Option Ended → (n t : ℕ) → (input : List ℕ) → Guest → Run
rest_after seed None n t input g = run_by seed n t input g
rest_after seed (Some (ended.Fault f)) n t input g = run_by seed n t input g
rest_after seed (Some (ended.HaltedWith s)) n t input g = record { events = drains g; ended = ended.HaltedWith s }
rest_after seed (Some ended.StepsSpent) n t input g = record { events = drains g; ended = ended.StepsSpent }

-- what follows seed the step of a turn
abbrev pub follows : (seed : Option ℕ) → Option Ended → (n t : ℕ) → (input : List ℕ) → Guest → Run
follows seed end n t input g = first (between end t g) (rest_after seed end n t input (after (between end t g) g).guest)

-- n turns from turn t on, after a drain or not
abbrev behind_by : (seed : Option ℕ) → Bool → (n t : ℕ) → (input : List ℕ) → Guest → Run
behind_by seed drain n t input g = let taken = cond drain (drains g) [] in first taken (run_by seed n t input (after taken g).guest)

goes_on_unless : (seed : Option ℕ) (shown : Option Fault) (stop : Bool) (n t : ℕ) (input : List ℕ) (g : Guest) → behind_by seed (nat_eq (t % 64) 63) n (t + 1) input g ≡ follows seed (stops_at shown stop) n (t + 1) input g
goes_on_unless seed None stop n t input g = ap (λ (b : Bool). behind_by seed b n (t + 1) input g) (ends_slice t)
goes_on_unless seed (Some f) true n t input g = ap (λ (b : Bool). behind_by seed b n (t + 1) input g) (ends_slice t)
goes_on_unless seed (Some f) false n t input g = ap (λ (b : Bool). behind_by seed b n (t + 1) input g) (ends_slice t)

after_answer : (seed : Option ℕ) (r : BoardReply) (shown : Option Fault) (stop : Bool) (n t : ℕ) (input : List ℕ) (g : Guest) → unless_halted r g (behind_by seed (nat_eq (t % 64) 63) n (t + 1) input g) ≡ follows seed (ends_turns r shown stop) n (t + 1) input g
after_answer seed (reply.Halted s) shown stop n t input g = ap (λ (x : After). record { events = drains x.guest; ended = ended.HaltedWith s }) (sym (after_none g))
after_answer seed (reply.Break a) shown stop n t input g = goes_on_unless seed shown stop n t input g
after_answer seed reply.Retired shown stop n t input g = goes_on_unless seed shown stop n t input g
after_answer seed (reply.Trapped x) shown stop n t input g = goes_on_unless seed shown stop n t input g
after_answer seed (reply.Interrupted i) shown stop n t input g = goes_on_unless seed shown stop n t input g
after_answer seed reply.Done shown stop n t input g = goes_on_unless seed shown stop n t input g
after_answer seed (reply.Bytes bytes) shown stop n t input g = goes_on_unless seed shown stop n t input g
after_answer seed (reply.Regs values) shown stop n t input g = goes_on_unless seed shown stop n t input g
after_answer seed (reply.Line a word) shown stop n t input g = goes_on_unless seed shown stop n t input g
after_answer seed (reply.Refused why) shown stop n t input g = goes_on_unless seed shown stop n t input g

pub turn_then : (seed : Option ℕ) (shown : Option Fault) (stop : Bool) (n t : ℕ) (input : List ℕ) (g : Guest) → let s = answered (step_by seed t g) (after (offers input) g).guest in run_by seed (suc n) t input g ≡ first (offers input ++ step_by seed t g ∷ []) (follows seed (ends_turns s.reply shown stop) n (t + 1) (left input g) s.guest)
unfolding run_by
turn_then seed shown stop n t input g =
    let s = answered (step_by seed t g) (after (offers input) g).guest in
    ap (first (offers input ++ step_by seed t g ∷ [])) (after_answer seed s.reply shown stop n t (left input g) s.guest)

-- what a turn of hart h made of a guest: the guest that the byte left, the one that the step left, its answer, and how the
-- turns end with it
pub record TurnMade (seed : Option ℕ) (stop : Bool) (t h : ℕ) (input kept : List ℕ) (now fed stepped : GuestState) (r : BoardReply) (told : Option Fault) (end : Option Ended) : Type 0 where
  pub hart : h ≡ drawn seed t % length now.guest.board.harts
  pub offered : IsAfter (offers input) now fed
  pub fewer : kept ≡ left input now.guest
  pub made : IsAfter (Step h ∷ []) fed stepped
  pub said : r ≡ (answered (Step h) fed.guest).reply
  pub ends : end ≡ ends_turns r told stop

turn_whole : {seed : Option ℕ} {stop : Bool} {t h : ℕ} {input kept : List ℕ} {now fed stepped : GuestState} {r : BoardReply} {told : Option Fault} {end : Option Ended} (n : ℕ) → TurnMade seed stop t h input kept now fed stepped r told end
    → run_by seed (suc n) t input now.guest ≡ first (turn_events h input) (follows seed end n (t + 1) kept stepped.guest)
turn_whole {seed} {stop} {t} {h} {input} {kept} {now} {fed} {stepped} {r} {told} {end} n turn =
    let g = now.guest in
    let f = (after (offers input) g).guest in
    let one : stepped.guest ≡ (answered (Step h) fed.guest).guest = turn.made.guest ∙ ap (λ (x : After). x.guest) (after_one (Step h) fed.guest) in
    turn_then seed told stop n t input g
    ∙ ap (λ (j : ℕ). first (turn_events j input) (follows seed (ends_turns (answered (Step j) f).reply told stop) n (t + 1) (left input g) (answered (Step j) f).guest)) (sym turn.hart)
    ∙ ap (λ (x : Guest). first (turn_events h input) (follows seed (ends_turns (answered (Step h) x).reply told stop) n (t + 1) (left input g) (answered (Step h) x).guest)) (sym turn.offered.guest)
    ∙ ap (λ (x : Guest). first (turn_events h input) (follows seed (ends_turns (answered (Step h) fed.guest).reply told stop) n (t + 1) (left input g) x)) (sym one)
    ∙ ap (λ (x : BoardReply). first (turn_events h input) (follows seed (ends_turns x told stop) n (t + 1) (left input g) stepped.guest)) (sym turn.said)
    ∙ ap (λ (x : Option Ended). first (turn_events h input) (follows seed x n (t + 1) (left input g) stepped.guest)) (sym turn.ends)
    ∙ ap (λ (l : List ℕ). first (turn_events h input) (follows seed end n (t + 1) l stepped.guest)) (sym turn.fewer)

-- ---- the first fault among steps

-- the fault with which turns ended, or else a later one
abbrev pub found_at : Option Ended → (n : ℕ) → Option Shown → Option Shown
found_at None n later = later
found_at (Some (ended.Fault f)) n later = Some (record { steps = n; fault = f })
found_at (Some (ended.HaltedWith s)) n later = later
found_at (Some ended.StepsSpent) n later = later

stopped_at : (x : Option Fault) (n : ℕ) (later : Option Shown) → or_later x n later ≡ found_at (stops_at x true) n later
stopped_at None n later = refl
stopped_at (Some f) n later = refl

unstopped : (x : Option Fault) (n : ℕ) → None ≡ found_at (stops_at x false) n None
unstopped None n = refl
unstopped (Some f) n = refl

shown_found : (r : BoardReply) (latest : Option Fault) (n : ℕ) (later : Option Shown) → or_later (shown r latest) n later ≡ found_at (ends_turns r (shown r latest) true) n later
shown_found (reply.Trapped x) latest n later = stopped_at latest n later
shown_found (reply.Halted s) latest n later = refl
shown_found (reply.Break a) latest n later = refl
shown_found reply.Retired latest n later = refl
shown_found (reply.Interrupted i) latest n later = refl
shown_found reply.Done latest n later = refl
shown_found (reply.Bytes bytes) latest n later = refl
shown_found (reply.Regs values) latest n later = refl
shown_found (reply.Line a word) latest n later = refl
shown_found (reply.Refused why) latest n later = refl

none_found : (r : BoardReply) (x : Option Fault) (n : ℕ) → None ≡ found_at (ends_turns r x false) n None
none_found (reply.Trapped e) x n = unstopped x n
none_found (reply.Halted s) x n = refl
none_found (reply.Break a) x n = unstopped x n
none_found reply.Retired x n = unstopped x n
none_found (reply.Interrupted i) x n = unstopped x n
none_found reply.Done x n = unstopped x n
none_found (reply.Bytes bytes) x n = unstopped x n
none_found (reply.Regs values) x n = unstopped x n
none_found (reply.Line a word) x n = unstopped x n
none_found (reply.Refused why) x n = unstopped x n

fault_more : (stop : Bool) (earlier : List Taken) (t : Taken) (us : List Taken)
    → fault_among stop earlier (t ∷ us) ≡ found_at (ends_turns t.reply (shown t.reply (latest_fault t.hart earlier)) stop) (length earlier + 1) (fault_among stop (t ∷ earlier) us)
unfolding first_fault
fault_more true earlier t us = shown_found t.reply (latest_fault t.hart earlier) (length earlier + 1) (first_fault (t ∷ earlier) us)
fault_more false earlier t us = none_found t.reply (shown t.reply (latest_fault t.hart earlier)) (length earlier + 1)

fault_none : (stop : Bool) (earlier : List Taken) → fault_among stop earlier [] ≡ None
unfolding first_fault
fault_none true earlier = refl
fault_none false earlier = refl

-- what is found is found later
abbrev IsLater : (n : ℕ) → Option Shown → Type 0
IsLater n None = Unit {0}
IsLater n (Some found) = n < found.steps

or_later_later : (x : Option Fault) (n : ℕ) (later : Option Shown) → IsLater (n + 1) later → IsLater n (or_later x (n + 1) later)
or_later_later (Some f) n later is = omega arith
or_later_later None n None is = tt
or_later_later None n (Some found) is = omega (arith, is)

first_later : (earlier us : List Taken) → IsLater (length earlier) (first_fault earlier us)
unfolding first_fault
first_later earlier [] = tt
first_later earlier (t ∷ us) =
    let one : suc (length earlier) ≡ length earlier + 1 = omega arith in
    or_later_later (shown t.reply (latest_fault t.hart earlier)) (length earlier) (first_fault (t ∷ earlier) us)
    (subst (λ n. IsLater n (first_fault (t ∷ earlier) us)) one (first_later (t ∷ earlier) us))

fault_later : (stop : Bool) (earlier us : List Taken) → IsLater (length earlier) (fault_among stop earlier us)
fault_later true earlier us = first_later earlier us
fault_later false earlier us = tt

-- ---- the latest step of each hart

-- what is known of each hart's latest step
pub record Knows (latest : List (Option Fault)) (earlier : List Taken) : Type 0 where
  pub size : length latest ≡ 8
  pub each : (h : ℕ) → h < 8 → get_or latest h None ≡ latest_fault h earlier

pub knows_none : (latest : List (Option Fault)) → latest ≡ replicate 8 None → Knows latest []
unfolding latest_fault
knows_none latest e =
    record {
      size = ap length e;
      each = λ h below. ap (λ (l : List (Option Fault)). get_or l h None) e ∙ get_or-replicate 8 h None None below;
    }

latest_same : (h : ℕ) (t : Taken) (earlier : List Taken) → t.hart ≡ h → latest_fault h (t ∷ earlier) ≡ fault_of t
unfolding latest_fault
latest_same h t earlier same = let test : nat_eq t.hart h ≡ true = grind (arith, nat_tests, same) in ap (λ b. cond b (fault_of t) (latest_fault h earlier)) test

latest_other : (h : ℕ) (t : Taken) (earlier : List Taken) → (t.hart ≡ h → ⊥) → latest_fault h (t ∷ earlier) ≡ latest_fault h earlier
unfolding latest_fault
latest_other h t earlier other = ap (λ b. cond b (fault_of t) (latest_fault h earlier)) (ne_eqb t.hart h other)

knows_case : {latest : List (Option Fault)} {earlier : List Taken} (t : Taken) (h : ℕ) → t.hart < 8 → h < 8 → Knows latest earlier → (t.hart ≡ h) ⊎ (t.hart ≡ h → ⊥) → get_or (slice_set latest t.hart (fault_of t)) h None ≡ latest_fault h (t ∷ earlier)
knows_case {latest} {earlier} t h below few known (inl same) =
    ap (λ k. get_or (slice_set latest t.hart (fault_of t)) k None) (sym same)
    ∙ get_or-set_same latest t.hart (fault_of t) None (omega (arith, below, known.size)) ∙ sym (latest_same h t earlier same)
knows_case {latest} {earlier} t h below few known (inr other) =
    get_or-set_other latest t.hart h (fault_of t) None (λ e. other (sym e)) ∙ known.each h few ∙ sym (latest_other h t earlier other)

pub knows_more : {latest new : List (Option Fault)} {earlier : List Taken} (t : Taken) → t.hart < 8 → Knows latest earlier → new ≡ slice_set latest t.hart (fault_of t) → Knows new (t ∷ earlier)
knows_more {latest} {new} {earlier} t below known made =
    record {
      size = ap length made ∙ length-set latest t.hart (fault_of t) ∙ known.size;
      each = λ h few. ap (λ (l : List (Option Fault)). get_or l h None) made ∙ knows_case t h below few known (cases_eq t.hart h);
    }

-- what is noted of a step
noted_is : (latest new : List (Option Fault)) (h pc : ℕ) (fed stepped : GuestState) (r : BoardReply) → IsAfter (Step h ∷ []) fed stepped → r ≡ (answered (Step h) fed.guest).reply → pc ≡ pc_of h fed.guest
    → new ≡ slice_set latest h (option_map (fault_at h pc stepped.guest) (cause_of r)) → new ≡ slice_set latest h (fault_of (taken_by h fed.guest))
noted_is latest new h pc fed stepped r made said at noted =
    let one : stepped.guest ≡ (answered (Step h) fed.guest).guest = made.guest ∙ ap (λ (x : After). x.guest) (after_one (Step h) fed.guest) in
    noted ∙ ap (λ k. slice_set latest h (option_map (fault_at h k stepped.guest) (cause_of r))) at
    ∙ ap (λ (g : Guest). slice_set latest h (option_map (fault_at h (pc_of h fed.guest) g) (cause_of r))) one
    ∙ ap (λ (x : BoardReply). slice_set latest h (option_map (fault_at h (pc_of h fed.guest) (answered (Step h) fed.guest).guest) (cause_of x))) said

-- ---- the lines of a trace

lines_none : (range : Option (ℕ × ℕ)) (n : ℕ) → lines_from range n [] ≡ []
unfolding lines_from
lines_none range n = refl

lines_more : (range : Option (ℕ × ℕ)) (n : ℕ) (t : Taken) (ts : List Taken) → lines_from range n (t ∷ ts) ≡ cond (is_traced range n) (line_at n t ∷ []) [] ++ lines_from range (n + 1) ts
unfolding lines_from
lines_more range n t ts = refl

untraced : (n : ℕ) (ts : List Taken) → lines_from None n ts ≡ []
untraced n [] = lines_none None n
untraced n (t ∷ ts) = lines_more None n t ts ∙ untraced (n + 1) ts

pub trace_is : (range : Option (ℕ × ℕ)) (ts : List Taken) → trace_of range ts ≡ lines_from range 0 ts
trace_is None ts = sym (untraced 0 ts)
trace_is (Some range) ts = refl

lines_both : (range : Option (ℕ × ℕ)) (n m : ℕ) (ts us : List Taken) → n + length ts ≡ m → lines_from range n (ts ++ us) ≡ lines_from range n ts ++ lines_from range m us
lines_both range n m [] us e =
    let same : n ≡ m = omega (arith, e) in
    ap (λ k. lines_from range k us) same ∙ ap (λ (l : List (List ℕ)). l ++ lines_from range m us) (sym (lines_none range n))
lines_both range n m (t ∷ ts) us e =
    let next : n + 1 + length ts ≡ m = omega (arith, e) in
    let line : List (List ℕ) = cond (is_traced range n) (line_at n t ∷ []) [] in
    lines_more range n t (ts ++ us) ∙ ap (λ (l : List (List ℕ)). line ++ l) (lines_both range (n + 1) m ts us next)
    ∙ sym (append_assoc line (lines_from range (n + 1) ts) (lines_from range m us))
    ∙ ap (λ (l : List (List ℕ)). l ++ lines_from range m us) (sym (lines_more range n t ts))

concat_both : (xs ys : List (List ℕ)) → concat (xs ++ ys) ≡ concat xs ++ concat ys
concat_both [] ys = refl
concat_both (x ∷ xs) ys = ap (λ (l : List ℕ). x ++ l) (concat_both xs ys) ∙ sym (append_assoc x (concat xs) (concat ys))

-- the line of a step that is traced, after those of others
some_line : (range : Option (ℕ × ℕ)) (n : ℕ) (ts : List Taken) (t : Taken) (us : List Taken) → length ts ≡ n → is_traced range n ≡ true → 0 < length (lines_from range 0 (ts ++ t ∷ us))
some_line range n ts t us size traced =
    let before = lines_from range 0 ts in
    let after_it = lines_from range (n + 1) us in
    let all : lines_from range 0 (ts ++ t ∷ us) ≡ before ++ (line_at n t ∷ after_it) =
    lines_both range 0 n ts (t ∷ us) (omega (arith, size))
    ∙ ap (λ (l : List (List ℕ)). before ++ l) (lines_more range n t us ∙ ap (λ b. cond b (line_at n t ∷ []) [] ++ after_it) traced) in
    rw all (omega (arith, length-append before (line_at n t ∷ after_it)))

-- ---- turns so far

-- the turns so far: their events; that each longer run begins with them; the bytes that they were answered; the first
-- fault that they show; what is known of each hart's latest step; how often each word ran; and the lines of their steps
pub record Turned (seed : Option ℕ) (stop : Bool) (range : Option (ℕ × ℕ)) (input : List ℕ) (start now : GuestState) (turn : ℕ) (end : Option Ended) (kept : List ℕ) (latest : List (Option Fault)) (counts : List ℕ) (held : List ℕ) (before written trace_before traced : Option (List ℕ)) : Type 0 where
  pub made : List BoardEvent
  pub whole : (n : ℕ) → run_by seed (turn + n) 0 input start.guest ≡ first made (rest_after seed end n turn kept now.guest)
  pub so_far : IsAfter made start now
  pub text : GoesOut (after made start.guest).bytes [] held before written
  pub earlier : List Taken
  pub count : length earlier ≡ turn
  pub taken : length (steps_in made start.guest) ≡ turn
  pub found : (us : List Taken) → fault_among stop [] (steps_in made start.guest ++ us) ≡ found_at end turn (fault_among stop earlier us)
  pub known : Knows latest earlier
  pub counted : AreRuns counts (steps_in made start.guest)
  pub lines : Appends trace_before traced (concat (lines_from range 0 (steps_in made start.guest)))

pub none_turned : (seed : Option ℕ) (stop : Bool) (range : Option (ℕ × ℕ)) (input : List ℕ) (start : GuestState) (latest : List (Option Fault)) (counts : List ℕ) (before trace_before : Option (List ℕ)) → latest ≡ replicate 8 None → AreRuns counts []
    → Turned seed stop range input start start 0 None input latest counts [] before before trace_before trace_before
none_turned seed stop range input start latest counts before trace_before e zeros =
    let no_steps = sym (steps_none start.guest) in
    record {
      made = [];
      whole = λ n. (let same : 0 + n ≡ n = omega arith in ap (λ k. run_by seed k 0 input start.guest) same);
      so_far = is_after_none start;
      text = subst (λ (l : List ℕ). GoesOut l [] [] before before) (ap (λ (x : After). x.bytes) (sym (after_none start.guest))) (stays [] before);
      earlier = [];
      count = refl;
      taken = ap length (steps_none start.guest);
      found = λ us. ap (λ (l : List Taken). fault_among stop [] (l ++ us)) (steps_none start.guest);
      known = knows_none latest e;
      counted = subst (AreRuns counts) no_steps zeros;
      lines = subst (λ (l : List Taken). Appends trace_before trace_before (concat (lines_from range 0 l))) no_steps
          (subst (λ (l : List (List ℕ)). Appends trace_before trace_before (concat l)) (sym (lines_none range 0)) (appends_none trace_before));
    }

-- events before others, as the beginning of a run
first_three : (a b c : List BoardEvent) (r : Run) → first a (first b (first c r)) ≡ first (a ++ (b ++ c)) r
first_three a b c r =
    ap (λ (l : List BoardEvent). record r { events = l }) (ap (λ (l : List BoardEvent). a ++ l) (sym (append_assoc b c r.events)) ∙ sym (append_assoc a (b ++ c) r.events))

-- a turn after others: its events, and what is taken after it
pub turned_more : {seed : Option ℕ} {stop : Bool} {range : Option (ℕ × ℕ)} {input : List ℕ} {start now fed stepped : GuestState} {turn h pc : ℕ} {end : Option Ended} {kept next : List ℕ} {latest noted : List (Option Fault)} {counts tallied : List ℕ} {held left_held : List ℕ} {before written out trace_before traced trace_after : Option (List ℕ)} {r : BoardReply} {told : Option Fault} (new : GuestState)
    → h < 8 → turn < 2 ^ 32 - 1 → Turned seed stop range input start now turn None kept latest counts held before written trace_before traced
    → TurnMade seed stop turn h kept next now fed stepped r told end → tallied ≡ noted_step pc r counts → pc ≡ pc_of h fed.guest → told ≡ shown r (get_or latest h None)
    → noted ≡ slice_set latest h (option_map (fault_at h pc stepped.guest) (cause_of r))
    → Appends traced trace_after (concat (lines_from range turn (taken_by h fed.guest ∷ [])))
    → IsAfter (between end (turn + 1) stepped.guest) stepped new → GoesOut (after (between end (turn + 1) stepped.guest) stepped.guest).bytes held left_held written out
    → Turned seed stop range input start new (turn + 1) end next noted tallied left_held before out trace_before trace_after
turned_more {seed} {stop} {range} {input} {start} {now} {fed} {stepped} {turn} {h} {pc} {end} {kept} {next} {latest} {noted} {counts} {tallied} {held} {left_held} {before} {written} {out} {trace_before} {traced} {trace_after} {r} {told} new below few so_far this tally at told_is noted_this line drained text =
    let g = start.guest in
    let ts = steps_in so_far.made g in
    let t = taken_by h fed.guest in
    let es = turn_events h kept in
    let bs = between end (turn + 1) stepped.guest in
    let there : IsAfter es now stepped = turn_left h kept now fed stepped this.offered this.made in
    let all : IsAfter (es ++ bs) now new = is_after_both es bs now stepped new there drained in
    let steps_here : steps_in (es ++ bs) now.guest ≡ t ∷ [] =
    steps_both es bs now.guest ∙ ap (λ (x : Guest). steps_in es now.guest ++ steps_in bs x) (sym there.guest)
    ∙ ap (λ (l : List Taken). steps_in es now.guest ++ l) (steps_between end (turn + 1) stepped.guest)
    ∙ append-nil (steps_in es now.guest) ∙ steps_turn h kept now fed this.offered in
    let steps_all : steps_in (so_far.made ++ (es ++ bs)) g ≡ ts ++ t ∷ [] =
    steps_both so_far.made (es ++ bs) g ∙ ap (λ (x : Guest). ts ++ steps_in (es ++ bs) x) (sym so_far.so_far.guest)
    ∙ ap (λ (l : List Taken). ts ++ l) steps_here in
    let bytes_here : (after (es ++ bs) now.guest).bytes ≡ (after bs stepped.guest).bytes =
    bytes_both es bs now stepped there ∙ ap (λ (l : List ℕ). l ++ (after bs stepped.guest).bytes) (turn_quiet h kept now fed this.offered) in
    let bytes_all : (after (so_far.made ++ (es ++ bs)) g).bytes ≡ (after so_far.made g).bytes ++ (after bs stepped.guest).bytes =
    bytes_both so_far.made (es ++ bs) start now so_far.so_far ∙ ap (λ (l : List ℕ). (after so_far.made g).bytes ++ l) bytes_here in
    let ends : end ≡ ends_turns t.reply (shown t.reply (latest_fault t.hart so_far.earlier)) stop =
    this.ends ∙ ap (λ (x : Option Fault). ends_turns r x stop) (told_is ∙ ap (shown r) (so_far.known.each h below))
    ∙ ap (λ (x : BoardReply). ends_turns x (shown x (latest_fault h so_far.earlier)) stop) this.said in
    record {
      made = so_far.made ++ (es ++ bs);
      whole = λ n. (let more : turn + 1 + n ≡ turn + suc n = omega arith in
          ap (λ k. run_by seed k 0 input g) more ∙ so_far.whole (suc n) ∙ ap (first so_far.made) (turn_whole n this)
          ∙ first_three so_far.made es bs (rest_after seed end n (turn + 1) next (after bs stepped.guest).guest)
          ∙ ap (λ (x : Guest). first (so_far.made ++ (es ++ bs)) (rest_after seed end n (turn + 1) next x)) (sym drained.guest));
      so_far = is_after_both so_far.made (es ++ bs) start now new so_far.so_far all;
      text = subst (λ (l : List ℕ). GoesOut l [] left_held before out) (sym bytes_all) (out_more so_far.text text);
      earlier = t ∷ so_far.earlier;
      count = omega (arith, so_far.count);
      taken = ap length steps_all ∙ omega (arith, so_far.taken, length-append ts (t ∷ []));
      found = λ us.
          ap (λ (l : List Taken). fault_among stop [] (l ++ us)) steps_all
          ∙ ap (fault_among stop []) (append_assoc ts (t ∷ []) us)
          ∙ so_far.found (t ∷ us) ∙ fault_more stop so_far.earlier t us
          ∙ ap (λ (x : Option Ended). found_at x (length so_far.earlier + 1) (fault_among stop (t ∷ so_far.earlier) us)) (sym ends)
          ∙ ap (λ k. found_at end (k + 1) (fault_among stop (t ∷ so_far.earlier) us)) so_far.count;
      counted = subst (AreRuns tallied) (sym steps_all)
          (subst (λ (l : List ℕ). AreRuns l (ts ++ t ∷ [])) (sym (tally ∙ ap (λ k. noted_step k r counts) at ∙ ap (λ (x : BoardReply). noted_step (pc_of h fed.guest) x counts) this.said))
          (counted_more counts ts t (omega (arith, so_far.taken, few)) so_far.counted));
      known = knows_more t below so_far.known (noted_is latest noted h pc fed stepped r this.made this.said at noted_this);
      lines = subst (λ (l : List ℕ). Appends trace_before trace_after l)
          (sym (ap (λ (l : List Taken). concat (lines_from range 0 l)) steps_all
          ∙ ap concat (lines_both range 0 turn ts (t ∷ []) (omega (arith, so_far.taken)))
          ∙ concat_both (lines_from range 0 ts) (lines_from range turn (t ∷ []))))
          (appends_more trace_before traced trace_after (concat (lines_from range 0 ts)) (concat (lines_from range turn (t ∷ []))) so_far.lines line);
    }

-- ---- the whole run

-- the steps of a longer run are those so far and those of the rest
steps_whole : {seed : Option ℕ} {stop : Bool} {range : Option (ℕ × ℕ)} {input : List ℕ} {start now : GuestState} {turn : ℕ} {end : Option Ended} {kept : List ℕ} {latest : List (Option Fault)} {counts : List ℕ} {held : List ℕ} {before written trace_before traced : Option (List ℕ)} (n : ℕ) (so_far : Turned seed stop range input start now turn end kept latest counts held before written trace_before traced)
    → steps_of_run seed (turn + n) input start.guest ≡ steps_in so_far.made start.guest ++ steps_in (rest_after seed end n turn kept now.guest).events now.guest
steps_whole {seed} {stop} {range} {input} {start} {now} {turn} {end} {kept} {latest} {counts} {held} {before} {written} {trace_before} {traced} n so_far =
    let rest = rest_after seed end n turn kept now.guest in
    ap (λ (r : Run). steps_in r.events start.guest) (so_far.whole n) ∙ steps_both so_far.made rest.events start.guest
    ∙ ap (λ (x : Guest). steps_in so_far.made start.guest ++ steps_in rest.events x) (sym so_far.so_far.guest)

progress : {seed : Option ℕ} {stop : Bool} {range : Option (ℕ × ℕ)} {input : List ℕ} {start now : GuestState} {turn : ℕ} {end : Option Ended} {kept : List ℕ} {latest : List (Option Fault)} {counts : List ℕ} {held : List ℕ} {before written trace_before traced : Option (List ℕ)} (m n : ℕ) → m ≡ turn + n → Turned seed stop range input start now turn end kept latest counts held before written trace_before traced
    → Progress (run_by seed m 0 input start.guest).events (rest_after seed end n turn kept now.guest).events start now [] held before written
progress {seed} {stop} {range} {input} {start} {now} {turn} {end} {kept} {latest} {counts} {held} {before} {written} {trace_before} {traced} m n e so_far =
    record {
      made = so_far.made;
      whole = sym (ap (λ (r : Run). r.events) (ap (λ k. run_by seed k 0 input start.guest) e ∙ so_far.whole n));
      so_far = so_far.so_far;
      text = so_far.text;
    }

-- a number is above another one
pub record IsAbove (m turn : ℕ) : Type 0 where
  pub more : ℕ
  pub is : m ≡ turn + suc more

turns_above : (x : Option Shown) (turn steps : ℕ) → turn < steps → IsLater turn x → turn < turns_until x steps
turns_above None turn steps below later = below
turns_above (Some found) turn steps below later = later

above : (m turn : ℕ) → turn < m → IsAbove m turn
above m turn below = record { more = m - turn - 1; is = omega (arith, below) }

-- a run makes one turn more after turns that did not end it
more_turns : {seed : Option ℕ} {stop : Bool} {range : Option (ℕ × ℕ)} {input : List ℕ} {start now : GuestState} {turn : ℕ} {kept : List ℕ} {latest : List (Option Fault)} {counts : List ℕ} {held : List ℕ} {before written trace_before traced : Option (List ℕ)} (steps : ℕ) → turn < steps → Turned seed stop range input start now turn None kept latest counts held before written trace_before traced
    → IsAbove (turns_of seed stop steps input start.guest) turn
more_turns {seed} {stop} {range} {input} {start} {now} {turn} {kept} {latest} {counts} {held} {before} {written} {trace_before} {traced} steps below so_far =
    let all : IsAbove steps turn = above steps turn below in
    let us = steps_in (run_by seed (suc all.more) turn kept now.guest).events now.guest in
    let found : fault_among stop [] (steps_of_run seed steps input start.guest) ≡ fault_among stop so_far.earlier us =
    ap (λ k. fault_among stop [] (steps_of_run seed k input start.guest)) all.is ∙ ap (fault_among stop []) (steps_whole (suc all.more) so_far) ∙ so_far.found us in
    let later : IsLater turn (fault_among stop so_far.earlier us) = subst (λ k. IsLater k (fault_among stop so_far.earlier us)) so_far.count (fault_later stop so_far.earlier us) in
    above (turns_of seed stop steps input start.guest) turn
    (turns_above (fault_among stop [] (steps_of_run seed steps input start.guest)) turn steps below (subst (IsLater turn) (sym found) later))

-- the line of a step could not be written
pub line_failed : {seed : Option ℕ} {stop : Bool} {range : Option (ℕ × ℕ)} {input : List ℕ} {start now : GuestState} {turn : ℕ} {kept : List ℕ} {latest : List (Option Fault)} {counts : List ℕ} {held : List ℕ} {before written trace_before traced : Option (List ℕ)} (h steps : ℕ) (next : List ℕ) (fed stepped : GuestState) → turn < steps → Turned seed stop range input start now turn None kept latest counts held before written trace_before traced
    → h ≡ drawn seed turn % length now.guest.board.harts → IsAfter (offers kept) now fed → next ≡ left kept now.guest → IsAfter (Step h ∷ []) fed stepped → is_traced range turn ≡ true
    → BreaksOff (run_with seed stop range steps input start.guest) (run_by seed (turns_of seed stop steps input start.guest) 0 input start.guest).events start stepped
line_failed {seed} {stop} {range} {input} {start} {now} {turn} {kept} {latest} {counts} {held} {before} {written} {trace_before} {traced} h steps next fed stepped below so_far hart offered fewer made is_so =
    let g = start.guest in
    let r = (answered (Step h) fed.guest).reply in
    let end = ends_turns r None stop in
    let this : TurnMade seed stop turn h kept next now fed stepped r None end = record { hart = hart; offered = offered; fewer = fewer; made = made; said = refl; ends = refl } in
    let m = turns_of seed stop steps input g in
    let more = more_turns steps below so_far in
    let n = more.more in
    let es = turn_events h kept in
    let rest = run_by seed (suc n) turn kept now.guest in
    let others = follows seed end n (turn + 1) next stepped.guest in
    let whole = turn_whole n this in
    let there = turn_left h kept now fed stepped offered made in
    let ts = steps_in so_far.made g in
    let us = steps_in others.events stepped.guest in
    let steps_all : steps_of_run seed m input g ≡ ts ++ taken_by h fed.guest ∷ us =
    ap (λ k. steps_of_run seed k input g) more.is ∙ steps_whole (suc n) so_far
    ∙ ap (λ (x : Run). ts ++ steps_in x.events now.guest) whole
    ∙ ap (λ (l : List Taken). ts ++ l) (steps_both es others.events now.guest
    ∙ ap (λ (x : Guest). steps_in es now.guest ++ steps_in others.events x) (sym there.guest)
    ∙ ap (λ (l : List Taken). l ++ us) (steps_turn h kept now fed offered)) in
    let lines_all : trace_of range (steps_of_run seed m input g) ≡ lines_from range 0 (ts ++ taken_by h fed.guest ∷ us) =
    trace_is range (steps_of_run seed m input g) ∙ ap (lines_from range 0) steps_all in
    record {
      some = inr (subst (λ (l : List (List ℕ)). 0 < length l) (sym lines_all) (some_line range turn ts (taken_by h fed.guest) us so_far.taken is_so));
      part = none_made (goes_quietly rest.events others.events es now stepped held written (progress m (suc n) more.is so_far) (ap (λ (x : Run). x.events) whole) there (turn_quiet h kept now fed offered));
    }

-- what the guest sent could not be written after a turn
pub drain_failed : {seed : Option ℕ} {stop : Bool} {range : Option (ℕ × ℕ)} {input : List ℕ} {start now fed stepped : GuestState} {turn h : ℕ} {end : Option Ended} {kept next : List ℕ} {latest : List (Option Fault)} {counts : List ℕ} {held : List ℕ} {before written trace_before traced : Option (List ℕ)} {r : BoardReply} {told : Option Fault} (steps : ℕ) (new : GuestState) → turn < steps → Turned seed stop range input start now turn None kept latest counts held before written trace_before traced
    → TurnMade seed stop turn h kept next now fed stepped r told end → IsPartWay (between end (turn + 1) stepped.guest) stepped new → 0 < length (held ++ (after (between end (turn + 1) stepped.guest) stepped.guest).bytes)
    → BreaksOff (run_with seed stop range steps input start.guest) (run_by seed (turns_of seed stop steps input start.guest) 0 input start.guest).events start new
drain_failed {seed} {stop} {range} {input} {start} {now} {fed} {stepped} {turn} {h} {end} {kept} {next} {latest} {counts} {held} {before} {written} {trace_before} {traced} {r} {told} steps new below so_far this part some =
    let m = turns_of seed stop steps input start.guest in
    let more = more_turns steps below so_far in
    let n = more.more in
    let es = turn_events h kept in
    let bs = between end (turn + 1) stepped.guest in
    let rest = run_by seed (suc n) turn kept now.guest in
    let others = follows seed end n (turn + 1) next stepped.guest in
    let last = rest_after seed end n (turn + 1) next (after bs stepped.guest).guest in
    let there = turn_left h kept now fed stepped this.offered this.made in
    let all : Progress (run_by seed m 0 input start.guest).events others.events start stepped [] held before written =
    goes_quietly rest.events others.events es now stepped held written (progress m (suc n) more.is so_far) (ap (λ (x : Run). x.events) (turn_whole n this)) there (turn_quiet h kept now fed this.offered) in
    record {
      some = inl (some_bytes others.events last.events bs stepped written all refl some);
      part = part_way others.events last.events bs stepped new written all refl part;
    }

-- ---- the end of a run

-- how the run of these turns alone ended
abbrev plain_end : Option Ended → Ended
plain_end None = ended.StepsSpent
plain_end (Some (ended.Fault f)) = ended.StepsSpent
plain_end (Some (ended.HaltedWith s)) = ended.HaltedWith s
plain_end (Some ended.StepsSpent) = ended.StepsSpent

-- the run makes no turn more, and its last drains follow
pub record Closes (seed : Option ℕ) (stop : Bool) (input : List ℕ) (start now : GuestState) (steps turn : ℕ) (end : Option Ended) (kept : List ℕ) : Type 0 where
  pub more : ℕ
  pub is : turns_of seed stop steps input start.guest ≡ turn + more
  pub last : rest_after seed end more turn kept now.guest ≡ record { events = drains now.guest; ended = plain_end end }
  pub told : unwrap_or end ended.StepsSpent ≡ end_at (fault_among stop [] (steps_of_run seed steps input start.guest)) (plain_end end)

pub no_turns_left : (seed : Option ℕ) (t : ℕ) (input : List ℕ) (g : Guest) → run_by seed 0 t input g ≡ record { events = drains g; ended = ended.StepsSpent }
unfolding run_by
no_turns_left seed t input g = refl

-- no step follows
none_after : {seed : Option ℕ} {stop : Bool} {range : Option (ℕ × ℕ)} {input : List ℕ} {start now : GuestState} {turn : ℕ} {end : Option Ended} {kept : List ℕ} {latest : List (Option Fault)} {counts : List ℕ} {held : List ℕ} {before written trace_before traced : Option (List ℕ)} (steps n : ℕ) (e : Ended) → steps ≡ turn + n → rest_after seed end n turn kept now.guest ≡ record { events = drains now.guest; ended = e }
    → Turned seed stop range input start now turn end kept latest counts held before written trace_before traced
    → fault_among stop [] (steps_of_run seed steps input start.guest) ≡ found_at end turn None
none_after {seed} {stop} {range} {input} {start} {now} {turn} {end} {kept} {latest} {counts} {held} {before} {written} {trace_before} {traced} steps n e all last so_far =
    let us = steps_in (rest_after seed end n turn kept now.guest).events now.guest in
    let none : us ≡ [] = ap (λ (r : Run). steps_in r.events now.guest) last ∙ steps_drains now.guest in
    ap (λ k. fault_among stop [] (steps_of_run seed k input start.guest)) all ∙ ap (fault_among stop []) (steps_whole n so_far) ∙ so_far.found us
    ∙ ap (λ (l : List Taken). found_at end turn (fault_among stop so_far.earlier l)) none ∙ ap (found_at end turn) (fault_none stop so_far.earlier)

pub closes : {seed : Option ℕ} {stop : Bool} {range : Option (ℕ × ℕ)} {input : List ℕ} {start now : GuestState} {turn : ℕ} {kept : List ℕ} {latest : List (Option Fault)} {counts : List ℕ} {held : List ℕ} {before written trace_before traced : Option (List ℕ)} (steps : ℕ) (end : Option Ended) → turn ≤ steps → (end ≡ None → steps ≤ turn)
    → Turned seed stop range input start now turn end kept latest counts held before written trace_before traced → Closes seed stop input start now steps turn end kept
closes {seed} {stop} {range} {input} {start} {now} {turn} {kept} {latest} {counts} {held} {before} {written} {trace_before} {traced} steps None within spent so_far =
    let none = none_after steps 0 ended.StepsSpent (omega (arith, within, spent refl)) (no_turns_left seed turn kept now.guest) so_far in
    record {
      more = 0;
      is = ap (λ x. turns_until x steps) none ∙ omega (arith, within, spent refl);
      last = no_turns_left seed turn kept now.guest;
      told = ap (λ x. end_at x ended.StepsSpent) (sym none);
    }
closes {seed} {stop} {range} {input} {start} {now} {turn} {kept} {latest} {counts} {held} {before} {written} {trace_before} {traced} steps (Some (ended.HaltedWith s)) within spent so_far =
    let none = none_after steps (steps - turn) (ended.HaltedWith s) (omega (arith, within)) refl so_far in
    record {
      more = steps - turn;
      is = ap (λ x. turns_until x steps) none ∙ omega (arith, within);
      last = refl;
      told = ap (λ x. end_at x (ended.HaltedWith s)) (sym none);
    }
closes {seed} {stop} {range} {input} {start} {now} {turn} {kept} {latest} {counts} {held} {before} {written} {trace_before} {traced} steps (Some ended.StepsSpent) within spent so_far =
    let none = none_after steps (steps - turn) ended.StepsSpent (omega (arith, within)) refl so_far in
    record {
      more = steps - turn;
      is = ap (λ x. turns_until x steps) none ∙ omega (arith, within);
      last = refl;
      told = ap (λ x. end_at x ended.StepsSpent) (sym none);
    }
closes {seed} {stop} {range} {input} {start} {now} {turn} {kept} {latest} {counts} {held} {before} {written} {trace_before} {traced} steps (Some (ended.Fault f)) within spent so_far =
    let n = steps - turn in
    let all : steps ≡ turn + n = omega (arith, within) in
    let us = steps_in (run_by seed n turn kept now.guest).events now.guest in
    let found : fault_among stop [] (steps_of_run seed steps input start.guest) ≡ Some (record { steps = turn; fault = f }) =
    ap (λ k. fault_among stop [] (steps_of_run seed k input start.guest)) all ∙ ap (fault_among stop []) (steps_whole n so_far) ∙ so_far.found us in
    record {
      more = 0;
      is = ap (λ x. turns_until x steps) found ∙ omega arith;
      last = no_turns_left seed turn kept now.guest;
      told = ap (λ x. end_at x ended.StepsSpent) (sym found);
    }

-- the steps of a run that made these turns and no more
steps_closed : {seed : Option ℕ} {stop : Bool} {range : Option (ℕ × ℕ)} {input : List ℕ} {start now : GuestState} {turn : ℕ} {kept : List ℕ} {latest : List (Option Fault)} {counts : List ℕ} {held : List ℕ} {before written trace_before traced : Option (List ℕ)} (steps : ℕ) (end : Option Ended) → turn ≤ steps → (end ≡ None → steps ≤ turn)
    → (so_far : Turned seed stop range input start now turn end kept latest counts held before written trace_before traced)
    → steps_of_run seed (turns_of seed stop steps input start.guest) input start.guest ≡ steps_in so_far.made start.guest
steps_closed {seed} {stop} {range} {input} {start} {now} {turn} {kept} {latest} {counts} {held} {before} {written} {trace_before} {traced} steps end within spent so_far =
    let c = closes steps end within spent so_far in
    let ts = steps_in so_far.made start.guest in
    ap (λ k. steps_of_run seed k input start.guest) c.is ∙ steps_whole c.more so_far
    ∙ ap (λ (r : Run). ts ++ steps_in r.events now.guest) c.last
    ∙ ap (λ (l : List Taken). ts ++ l) (steps_drains now.guest) ∙ append-nil ts

-- how often each word ran in a whole run
pub run_counted : {seed : Option ℕ} {stop : Bool} {range : Option (ℕ × ℕ)} {input : List ℕ} {start now : GuestState} {turn : ℕ} {kept : List ℕ} {latest : List (Option Fault)} {counts : List ℕ} {held : List ℕ} {before written trace_before traced : Option (List ℕ)} (steps : ℕ) (end : Option Ended) → turn ≤ steps → (end ≡ None → steps ≤ turn)
    → Turned seed stop range input start now turn end kept latest counts held before written trace_before traced
    → AreRuns counts (run_with seed stop range steps input start.guest).steps
run_counted {seed} {stop} {range} {input} {start} {now} {turn} {kept} {latest} {counts} {held} {before} {written} {trace_before} {traced} steps end within spent so_far =
    subst (AreRuns counts) (sym (steps_closed steps end within spent so_far)) so_far.counted

-- the last drains were made, and all that was held was written
pub run_closed : {seed : Option ℕ} {stop : Bool} {range : Option (ℕ × ℕ)} {input : List ℕ} {start now new : GuestState} {turn : ℕ} {kept : List ℕ} {latest : List (Option Fault)} {counts : List ℕ} {held empty : List ℕ} {before written trace_before traced : Option (List ℕ)} (steps : ℕ) (end : Option Ended) (out : Option (List ℕ)) → turn ≤ steps → (end ≡ None → steps ≤ turn)
    → Turned seed stop range input start now turn end kept latest counts held before written trace_before traced
    → IsAfter (drains now.guest) now new → GoesOut (after (drains now.guest) now.guest).bytes held empty written out → empty ≡ []
    → HasRun (run_with seed stop range steps input start.guest) (unwrap_or end ended.StepsSpent) start new before out trace_before traced
run_closed {seed} {stop} {range} {input} {start} {now} {new} {turn} {kept} {latest} {counts} {held} {empty} {before} {written} {trace_before} {traced} steps end out within spent so_far made text none =
    let c = closes steps end within spent so_far in
    let g = start.guest in
    let m = turns_of seed stop steps input g in
    let rest = rest_after seed end c.more turn kept now.guest in
    let whole : run_by seed m 0 input g ≡ first so_far.made rest = ap (λ k. run_by seed k 0 input g) c.is ∙ so_far.whole c.more in
    let end_is : (run_by seed m 0 input g).ended ≡ plain_end end = ap (λ (r : Run). r.ended) (whole ∙ ap (first so_far.made) c.last) in
    let ts = steps_in so_far.made g in
    let steps_all : steps_of_run seed m input g ≡ ts = steps_closed steps end within spent so_far in
    let lines_all : trace_of range (steps_of_run seed m input g) ≡ lines_from range 0 ts = trace_is range (steps_of_run seed m input g) ∙ ap (lines_from range 0) steps_all in
    let done : Finished (run_by seed m 0 input g).events (plain_end end) rest.ended start new before out =
    finished rest.ended out (progress m c.more c.is so_far) refl c.last made text none in
    record {
      written = done.text;
      guest = done.made.guest;
      dirty = done.made.dirty;
      ended = c.told ∙ ap (end_at (fault_among stop [] (steps_of_run seed steps input g))) (sym end_is);
      traced = subst (λ (l : List (List ℕ)). Appends trace_before traced (concat l)) (sym lines_all) so_far.lines;
    }

-- what the guest sent could not be written at the end
pub run_broken : {seed : Option ℕ} {stop : Bool} {range : Option (ℕ × ℕ)} {input : List ℕ} {start now new : GuestState} {turn : ℕ} {kept : List ℕ} {latest : List (Option Fault)} {counts : List ℕ} {held : List ℕ} {before written trace_before traced : Option (List ℕ)} (steps : ℕ) (end : Option Ended) → turn ≤ steps → (end ≡ None → steps ≤ turn)
    → Turned seed stop range input start now turn end kept latest counts held before written trace_before traced
    → IsPartWay (drains now.guest) now new → 0 < length (held ++ (after (drains now.guest) now.guest).bytes)
    → BreaksOff (run_with seed stop range steps input start.guest) (run_by seed (turns_of seed stop steps input start.guest) 0 input start.guest).events start new
run_broken {seed} {stop} {range} {input} {start} {now} {new} {turn} {kept} {latest} {counts} {held} {before} {written} {trace_before} {traced} steps end within spent so_far part some =
    let c = closes steps end within spent so_far in
    let m = turns_of seed stop steps input start.guest in
    let rest = rest_after seed end c.more turn kept now.guest in
    let broken = broken_off (record { events = []; ended = plain_end end }) (progress m c.more c.is so_far) (last_drains now.guest (plain_end end) rest c.last) part some in
    record { some = inl broken.some; part = broken.part }

-- ---- the parts of a turn

-- a step, as it was made
pub step_made : (h : ℕ) (old new : GuestState) → new.guest ≡ (answered (Step h) old.guest).guest → new.dirty ≡ mark_all (answered (Step h) old.guest).pages old.dirty → IsAfter (Step h ∷ []) old new
step_made h old new left marked = is_after_one (Step h) old new left marked

pub step_count : (h : ℕ) (old new : GuestState) → h < length old.guest.board.harts → new.guest ≡ (answered (Step h) old.guest).guest → length new.guest.board.harts ≡ length old.guest.board.harts
step_count h old new there left =
    ap (λ (g : Guest). length g.board.harts) left ∙ ap (λ (a : Answered). length a.guest.board.harts) (there_steps h old.guest there) ∙ steps_count h old.guest

-- a step that is not traced has no line
pub no_line : (range : Option (ℕ × ℕ)) (turn : ℕ) (t : Taken) (w : Option (List ℕ)) → is_traced range turn ≡ false → Appends w w (concat (lines_from range turn (t ∷ [])))
no_line range turn t w none =
    let lines : lines_from range turn (t ∷ []) ≡ [] =
    lines_more range turn t [] ∙ ap (λ b. cond b (line_at turn t ∷ []) [] ++ lines_from range (turn + 1) []) none ∙ lines_none range (turn + 1) in
    subst (λ (l : List (List ℕ)). Appends w w (concat l)) (sym lines) (appends_none w)

-- one that is has its line
pub one_line : (range : Option (ℕ × ℕ)) (turn h : ℕ) (g after_it : Guest) (b : Before) (r : BoardReply) (before written : Option (List ℕ)) → is_traced range turn ≡ true → b ≡ before_of h g → after_it ≡ (answered (Step h) g).guest → r ≡ (answered (Step h) g).reply
    → Appends before written (line_of turn h b after_it r) → Appends before written (concat (lines_from range turn (taken_by h g ∷ [])))
one_line range turn h g after_it b r before written so seen left said text =
    let t = taken_by h g in
    let line : line_of turn h b after_it r ≡ line_at turn t =
    ap (λ (x : Before). line_of turn h x after_it r) seen ∙ ap (λ (x : Guest). line_of turn h (before_of h g) x r) left
    ∙ ap (line_of turn h (before_of h g) (answered (Step h) g).guest) said in
    let lines : lines_from range turn (t ∷ []) ≡ line_at turn t ∷ [] =
    lines_more range turn t [] ∙ ap (λ b. cond b (line_at turn t ∷ []) [] ++ lines_from range (turn + 1) []) so
    ∙ ap (λ (l : List (List ℕ)). line_at turn t ∷ l) (lines_none range (turn + 1)) in
    let all : line_of turn h b after_it r ≡ concat (lines_from range turn (t ∷ [])) = line ∙ sym (append-nil (line_at turn t)) ∙ ap concat (sym lines) in
    subst (Appends before written) all text

-- nothing is taken
pub nothing_between : (end : Option Ended) (turn : ℕ) (s : GuestState) → drains_after end turn ≡ false → IsAfter (between end turn s.guest) s s
nothing_between end turn s none = subst (λ (es : List BoardEvent). IsAfter es s s) (sym (ap (λ b. cond b (drains s.guest) []) none)) (is_after_none s)

pub nothing_out : (end : Option Ended) (turn : ℕ) (g : Guest) (held : List ℕ) (w : Option (List ℕ)) → drains_after end turn ≡ false → GoesOut (after (between end turn g) g).bytes held held w w
nothing_out end turn g held w none =
    let no_bytes : (after (between end turn g) g).bytes ≡ [] = ap (λ b. (after (cond b (drains g) []) g).bytes) none ∙ ap (λ (x : After). x.bytes) (after_none g) in
    subst (λ (l : List ℕ). GoesOut l held held w w) (sym no_bytes) (stays held w)

-- all that was sent is taken
pub drains_between : (end : Option Ended) (turn : ℕ) (g : Guest) → drains_after end turn ≡ true → drains g ≡ between end turn g
drains_between end turn g due = ap (λ b. cond b (drains g) []) (sym due)

-- ---- the loop

-- the hart of a turn is there
pub turn_there : (hart harts : ℕ) (input : List ℕ) (now fed : GuestState) → harts ≡ length now.guest.board.harts → hart < harts → IsAfter (offers input) now fed → hart < length fed.guest.board.harts
turn_there hart harts input now fed count below offered =
    let same : length fed.guest.board.harts ≡ harts = ap (λ (g : Guest). length g.board.harts) offered.guest ∙ (offer_quiet input now.guest).1 ∙ sym count in
    rw same below

pub none_of : (end : Option Ended) (b : Bool) → is_some end ≡ not b → b ≡ true → end ≡ None
none_of None b e so = refl
none_of (Some end) b e so = let no : true ≡ false = e ∙ ap not so in cc

pub not_none : (end : Option Ended) (b : Bool) → is_some end ≡ not b → b ≡ false → end ≡ None → ⊥
not_none None b e so none = let no : false ≡ true = e ∙ ap not so in cc
not_none (Some end) b e so none = cc

-- turns that did not end the run
pub unended : {seed : Option ℕ} {stop : Bool} {range : Option (ℕ × ℕ)} {input : List ℕ} {start now : GuestState} {turn : ℕ} {end : Option Ended} {kept : List ℕ} {latest : List (Option Fault)} {counts : List ℕ} {held : List ℕ} {before written trace_before traced : Option (List ℕ)} → end ≡ None
    → Turned seed stop range input start now turn end kept latest counts held before written trace_before traced → Turned seed stop range input start now turn None kept latest counts held before written trace_before traced
unended {seed} {stop} {range} {input} {start} {now} {turn} {end} {kept} {latest} {counts} {held} {before} {written} {trace_before} {traced} none so_far =
    subst (λ (e : Option Ended). Turned seed stop range input start now turn e kept latest counts held before written trace_before traced) none so_far
