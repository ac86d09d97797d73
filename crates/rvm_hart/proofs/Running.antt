-- Consecutive steps of a hart.
use Rattle.std.proofs.Common.{◌≡◌, ℕ, zero, suc, ◌+◌, length, Bool, true, false, ◌&&◌, not, is_some, List, ◌++◌, Option, Some, None, refl, sym, ap, ◌∙◌, subst, arith}
use Rattle.std.proofs.lemmas.Bool.Decides.{nat_tests}
use Rattle.rvm_mem.specs.Pages.{mark_all}
use Rattle.rvm_hart.specs.declared.outcome.Stepped.{Stepped}
use Rattle.rvm_hart.specs.declared.outcome.Stepped.TheVariants.{Retired, Trapped, Interrupted, Halted}
use Rattle.rvm_hart.specs.declared.outcome.Written.TheVariants.{Other, Mcycle, Minstret, Mtime, Halt}
use Rattle.rvm_hart.specs.Machine.{BusState, HartState, Machine, machine, shape}
use Rattle.rvm_hart.specs.Marks.{passes}
use Rattle.rvm_hart.specs.Running.{all_go, ends_so, has_status, status_in}
use Rattle.rvm_hart.specs.Outcome.{Outcome, Done, Traps, machine_after}
use Rattle.rvm_hart.specs.Step.{After, Executes, after_outcome, after_ticks, all_tick, execute, step}
use Rattle.rvm_hart.specs.Straight.{Goes, Steps, all_pass, at_pc, is_plain, is_retired, pages_of, steps}
use Rattle.rvm_hart.proofs.Made.{Both, both, mark_more, steps_keep}
use Rattle.rvm_hart.proofs.Shape.{step_keeps}

-- n steps, none of which halts the board, leave this machine and this log
pub record Gone (w : Bool) (ms : List Bool) (n : ℕ) (old : Machine) (log : List Bool) (new : Machine) (dirty : List Bool) : Type 0 where
  pub left : new ≡ (steps n old).machine
  pub marked : dirty ≡ mark_all (steps n old).pages log
  pub pass : all_pass w ms n old ≡ true
  pub go : all_go n old ≡ true

gone_none : (w : Bool) (ms : List Bool) (m : Machine) (d : List Bool) → Gone w ms 0 m d m d
unfolding steps all_pass all_go
gone_none w ms m d = record { left = refl; marked = refl; pass = refl; go = refl }

pub gone_init : (w : Bool) (ms : List Bool) (n : ℕ) (m : Machine) (d : List Bool) → n ≡ 0 → Gone w ms n m d m d
gone_init w ms n m d none = subst (λ i. Gone w ms i m d m d) (sym none) (gone_none w ms m d)

-- one step more
one_more : (w : Bool) (ms : List Bool) (n : ℕ) (old : Machine) (log : List Bool) (x : Machine) (d : List Bool) (y : Machine) (e : List Bool) → Gone w ms n old log x d
    → passes w ms x.hart.pc ≡ true → status_in (step x).answer ≡ None → y ≡ (step x).machine → e ≡ mark_all (step x).pages d → Gone w ms (suc n) old log y e
unfolding steps all_pass all_go
one_more w ms n old log x d y e so_far pass go left marked =
    let s : Steps = steps n old in
    record {
      left = left ∙ ap (λ m. (step m).machine) so_far.left;
      marked = marked ∙ ap (λ m. mark_all (step m).pages d) so_far.left ∙ ap (mark_all (step s.machine).pages) so_far.marked ∙ sym (mark_more s.pages (step s.machine).pages log);
      pass = ap (λ b. b && passes w ms s.machine.hart.pc) so_far.pass ∙ ap (λ (m : Machine). passes w ms m.hart.pc) (sym so_far.left) ∙ pass;
      go = ap (λ b. b && not (is_some (status_in (step s.machine).answer))) so_far.go
          ∙ ap (λ m. not (is_some (status_in (step m).answer))) (sym so_far.left)
          ∙ ap (λ (o : Option ℕ). not (is_some o)) go;
    }

no_status : (o p : Option ℕ) → o ≡ p → is_some o ≡ false → p ≡ None
no_status o None e none = refl
no_status o (Some s) e none = absurd cc

pub one_more_to : (w : Bool) (ms : List Bool) (n m : ℕ) (status : Option ℕ) (old : Machine) (log : List Bool) (x : Machine) (d : List Bool) (y : Machine) (e : List Bool) → Gone w ms n old log x d → suc n ≡ m
    → passes w ms x.hart.pc ≡ true → status ≡ status_in (step x).answer → is_some status ≡ false → y ≡ (step x).machine → e ≡ mark_all (step x).pages d → Gone w ms m old log y e
one_more_to w ms n m status old log x d y e so_far all pass said none left marked =
    subst (λ i. Gone w ms i old log y e) all (one_more w ms n old log x d y e so_far pass (no_status status (status_in (step x).answer) said none) left marked)

-- the sizes that no step changes
pub record Sizes (m n : Machine) : Type 0 where
  pub hart : m.hart.csrs.hart ≡ n.hart.csrs.hart
  pub reservations : length m.shared.reservations ≡ length n.shared.reservations
  pub devices : length m.shared.devices.msip ≡ length n.shared.devices.msip

sizes : (m n : Machine) → shape m ≡ shape n → Sizes m n
sizes m n e = record { hart = cc; reservations = cc; devices = cc }

pub sizes_after : (k : ℕ) (x y : Machine) → y ≡ (steps k x).machine → Sizes y x
sizes_after k x y left = sizes y x (ap shape left ∙ steps_keep k x)

pub sizes_stepped : (x y : Machine) → y ≡ (step x).machine → Sizes y x
sizes_stepped x y left = sizes y x (ap shape left ∙ step_keeps x)

retired_status : (a : Stepped) → is_retired a ≡ true → status_in a ≡ None
retired_status Retired e = refl
retired_status (Trapped x) e = absurd cc
retired_status (Interrupted i) e = absurd cc
retired_status (Halted s) e = absurd cc

-- consecutive steps more, all of which retired
some_more : (w : Bool) (ms : List Bool) (k n : ℕ) (old : Machine) (log : List Bool) (x : Machine) (d : List Bool) → Gone w ms n old log x d
    → all_pass w ms k x ≡ true → (steps k x).retired ≡ true → Gone w ms (n + k) old log (steps k x).machine (mark_all (steps k x).pages d)
unfolding steps all_pass
some_more w ms zero n old log x d so_far pass retired =
    let e : n ≡ n + 0 = omega arith in
    subst (λ i. Gone w ms i old log x d) e so_far
some_more w ms (suc k) n old log x d so_far pass retired =
    let s : Steps = steps k x in
    let each : Both (all_pass w ms k x) (passes w ms s.machine.hart.pc) = both (all_pass w ms k x) (passes w ms s.machine.hart.pc) pass in
    let all : Both s.retired (is_retired (step s.machine).answer) = both s.retired (is_retired (step s.machine).answer) retired in
    let before : Gone w ms (n + k) old log s.machine (mark_all s.pages d) = some_more w ms k n old log x d so_far each.first all.first in
    let e : suc (n + k) ≡ n + suc k = omega arith in
    subst (λ i. Gone w ms i old log (step s.machine).machine (mark_all (s.pages ++ (step s.machine).pages) d)) e
    (one_more w ms (n + k) old log s.machine (mark_all s.pages d) (step s.machine).machine (mark_all (s.pages ++ (step s.machine).pages) d) before each.second (retired_status (step s.machine).answer all.second) refl
    (mark_more s.pages (step s.machine).pages d))

pub more_straight : (w : Bool) (ms : List Bool) (k n m : ℕ) (old : Machine) (log : List Bool) (x : Machine) (d : List Bool) (y : Machine) (e : List Bool) → Gone w ms n old log x d → n + k ≡ m
    → y ≡ (steps k x).machine → e ≡ mark_all (steps k x).pages d → all_pass w ms k x ≡ true → (steps k x).retired ≡ true → Gone w ms m old log y e
more_straight w ms k n m old log x d y e so_far all left marked pass retired =
    subst (λ i. Gone w ms i old log y e) all
    (subst (λ z. Gone w ms (n + k) old log z e) (sym left)
    (subst (λ z. Gone w ms (n + k) old log (steps k x).machine z) (sym marked) (some_more w ms k n old log x d so_far pass retired)))

-- all steps that were made, of which none halted the board, or the last
pub record Runs (w : Bool) (ms : List Bool) (status : Option ℕ) (n : ℕ) (old : Machine) (log : List Bool) (new : Machine) (dirty : List Bool) : Type 0 where
  pub left : new ≡ (steps n old).machine
  pub marked : dirty ≡ mark_all (steps n old).pages log
  pub pass : all_pass w ms n old ≡ true
  pub ends : ends_so status n old ≡ true

pub runs_on : (w : Bool) (ms : List Bool) (n m : ℕ) (old : Machine) (log : List Bool) (new : Machine) (dirty : List Bool) → Gone w ms n old log new dirty → n ≡ m → Runs w ms None m old log new dirty
unfolding ends_so
runs_on w ms n m old log new dirty so_far all =
    subst (λ i. Runs w ms None i old log new dirty) all (record { left = so_far.left; marked = so_far.marked; pass = so_far.pass; ends = so_far.go })

same_status : (s : ℕ) (o : Option ℕ) → o ≡ Some s → has_status s o ≡ true
same_status s o e = rw e (grind (arith, nat_tests))

status_is : (o p : Option ℕ) (go : Bool) (s : ℕ) → go ≡ true → p ≡ Some s → (go && has_status s p) ≡ true
status_is o p go s e f = rw e (same_status s p f)

-- the last one halted it
halts_at : (w : Bool) (ms : List Bool) (n m s : ℕ) (old : Machine) (log : List Bool) (x : Machine) (d : List Bool) (y : Machine) (e : List Bool) → Gone w ms n old log x d → suc n ≡ m
    → passes w ms x.hart.pc ≡ true → status_in (step x).answer ≡ Some s → y ≡ (step x).machine → e ≡ mark_all (step x).pages d → Runs w ms (Some s) m old log y e
unfolding steps all_pass ends_so
halts_at w ms n m s old log x d y e so_far all pass stop left marked =
    let t : Steps = steps n old in
    subst (λ i. Runs w ms (Some s) i old log y e) all (record {
      left = left ∙ ap (λ z. (step z).machine) so_far.left;
      marked = marked ∙ ap (λ z. mark_all (step z).pages d) so_far.left ∙ ap (mark_all (step t.machine).pages) so_far.marked ∙ sym (mark_more t.pages (step t.machine).pages log);
      pass = ap (λ b. b && passes w ms t.machine.hart.pc) so_far.pass ∙ ap (λ (z : Machine). passes w ms z.hart.pc) (sym so_far.left) ∙ pass;
      ends = status_is None (status_in (step t.machine).answer) (all_go n old) s so_far.go (ap (λ z. status_in (step z).answer) (sym so_far.left) ∙ stop);
    })

some_status : (o : Option ℕ) (P : Option ℕ → Type 0) → is_some o ≡ true → ((s : ℕ) → o ≡ Some s → P (Some s)) → P o
some_status None P e f = absurd cc
some_status (Some s) P e f = f s refl

pub halts_last : (w : Bool) (ms : List Bool) (n m : ℕ) (status : Option ℕ) (old : Machine) (log : List Bool) (x : Machine) (d : List Bool) (y : Machine) (e : List Bool) → Gone w ms n old log x d → suc n ≡ m
    → passes w ms x.hart.pc ≡ true → status ≡ status_in (step x).answer → is_some status ≡ true → y ≡ (step x).machine → e ≡ mark_all (step x).pages d → Runs w ms status m old log y e
halts_last w ms n m status old log x d y e so_far all pass said halted left marked =
    some_status status (λ o. Runs w ms o m old log y e) halted (λ s is. halts_at w ms n m s old log x d y e so_far all pass (sym said ∙ is) left marked)

-- the step of an instruction of the straight path
pub plain_executes : (o : Outcome) (m : Machine) → is_plain o ≡ true
    → after_outcome o m ≡ record { machine = after_ticks all_tick (machine_after o m); pages = pages_of o; answer = Retired }
plain_executes (Done after pages Other) m plain = refl
plain_executes (Done after pages Mcycle) m plain = absurd cc
plain_executes (Done after pages Minstret) m plain = absurd cc
plain_executes (Done after pages Mtime) m plain = absurd cc
plain_executes (Done after pages (Halt s)) m plain = absurd cc
plain_executes (Traps e v) m plain = absurd cc

-- an instruction of the straight path, and the end of its step
pub goes_executes : (pc : ℕ) (old : HartState) (bus : BusState) (next : ℕ) (new : HartState) (new_bus : BusState) (left : HartState) (left_bus : BusState) (said : Stepped) → pc ≡ old.pc → Goes execute pc old bus next new new_bus
    → machine left left_bus ≡ after_ticks all_tick (machine (at_pc next new) new_bus) → left_bus.dirty ≡ new_bus.dirty → said ≡ Retired → Executes execute old bus left left_bus said
goes_executes pc old bus next new new_bus left left_bus said at goes ticked marked told =
    let m : Machine = machine old bus in
    let here : machine (at_pc pc old) bus ≡ m = ap (λ n. machine (at_pc n old) bus) at in
    let plain : is_plain (execute m) ≡ true = ap (λ x. is_plain (execute x)) (sym here) ∙ goes.plain in
    let after : after_outcome (execute m) m ≡ record { machine = after_ticks all_tick (machine_after (execute m) m); pages = pages_of (execute m); answer = Retired } = plain_executes (execute m) m plain in
    record {
      left = ticked ∙ ap (after_ticks all_tick) (sym goes.left ∙ ap (λ x. machine_after (execute x) x) here) ∙ sym (ap (λ (a : After). a.machine) after);
      dirty = marked ∙ goes.dirty ∙ ap (λ x. mark_all (pages_of (execute x)) bus.dirty) here ∙ sym (ap (λ (a : After). mark_all a.pages bus.dirty) after);
      answer = told ∙ sym (ap (λ (a : After). a.answer) after);
    }
