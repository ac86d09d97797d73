-- Consecutive straight instructions, and the steps that make them.
use Rattle.std.proofs.Common.{◌≡◌, ℕ, zero, suc, ◌+◌, ◌%◌, ◌^◌, ◌<◌, ◌≤◌, Bool, true, false, ◌&&◌, cond, List, [], ◌∷◌, ◌++◌, Option, Some, None, refl, sym, ap, ◌∙◌, subst, arith, nat_le, get_or, is_some, not, ◌-◌}
use Rattle.std.proofs.lemmas.Bool.Decides.{nat_tests}
use Rattle.std.proofs.Math.Nat.{mod-add-mod, mod-eq_of_lt}
use Rattle.rvm_mem.specs.Pages.{mark, mark_all}
use Rattle.rvm_csr.specs.declared.interrupts.Interrupts.{Interrupts}
use Rattle.rvm_csr.specs.declared.cause.Interrupt.{Interrupt}
use Rattle.rvm_csr.specs.declared.cause.Interrupt.TheVariants.{Software, Timer, External}
use Rattle.rvm_csr.specs.Registers.{CsrState}
use Rattle.rvm_csr.specs.Counters.{counted}
use Rattle.rvm_csr.specs.Traps.{pending}
use Rattle.rvm_dev.specs.Devices.{DeviceState}
use Rattle.rvm_hart.specs.declared.outcome.Written.{Written}
use Rattle.rvm_hart.specs.declared.outcome.Written.TheVariants.{Other, Mcycle, Minstret, Mtime, Halt}
use Rattle.rvm_hart.specs.declared.outcome.Stepped.TheVariants.{Retired}
use Rattle.rvm_hart.specs.Machine.{Machine, number_of, shape}
use Rattle.rvm_hart.specs.Bus.{mip_of, ram_load}
use Rattle.rvm_hart.specs.Outcome.{Outcome, Done, Traps, machine_after}
use Rattle.rvm_hart.specs.Step.{After, after_outcome, execute, step, unless_halted, unless_pending}
use Rattle.rvm_hart.specs.Marks.{passes}
use Rattle.rvm_hart.specs.Straight.{DevicesStay, IsQuiet, Steps, Went, all_pass, at_time, is_fetched, is_next, is_other, is_plain, is_retired, is_straight, pages_of, risen, steps, timed, timed_after, went}
use Rattle.rvm_hart.proofs.Shape.{step_keeps}
use Rattle.rvm_hart.proofs.Still.{Still, execute_still, timed_outcome}

-- both are true
pub record Both (a b : Bool) : Type 0 where
  pub first : a ≡ true
  pub second : b ≡ true

pub both : (a b : Bool) → (a && b) ≡ true → Both a b
both true true e = record { first = refl; second = refl }
both true false e = absurd cc
both false b e = absurd cc

-- pages after others
pub mark_more : (ps qs : List ℕ) (dirty : List Bool) → mark_all (ps ++ qs) dirty ≡ mark_all qs (mark_all ps dirty)
mark_more [] qs dirty = refl
mark_more (p ∷ ps) qs dirty = mark_more ps qs (mark p dirty)

-- a step of a machine that is not halted and at which nothing is pending
pub step_on : (m : Machine) → m.shared.devices.halted ≡ None → pending (mip_of (number_of m) m.shared.devices) m.hart.csrs ≡ None → step m ≡ after_outcome (execute m) m
step_on m on quiet = ap (λ o. unless_halted o m) on ∙ ap (λ o. unless_pending o m) quiet

-- what the step of a plain instruction leaves, at any values of the counters
abbrev pub plain_after : (c i t : ℕ) → Outcome → Machine → After
plain_after c i t o m = record { machine = timed (counted true c) (counted true i) (counted true t) (machine_after o m); pages = pages_of o; answer = Retired }

written_plain : (c i t : ℕ) (after : Machine) (pages : List ℕ) (w : Written) (m : Machine) → is_other w ≡ true
    → after_outcome (timed_outcome c i t (Done after pages w)) (timed c i t m) ≡ plain_after c i t (Done after pages w) m
written_plain c i t after pages Other m plain = refl
written_plain c i t after pages Mcycle m plain = absurd cc
written_plain c i t after pages Minstret m plain = absurd cc
written_plain c i t after pages Mtime m plain = absurd cc
written_plain c i t after pages (Halt s) m plain = absurd cc

pub plain_cases : (c i t : ℕ) (o : Outcome) (m : Machine) → is_plain o ≡ true → after_outcome (timed_outcome c i t o) (timed c i t m) ≡ plain_after c i t o m
plain_cases c i t (Done after pages w) m plain = written_plain c i t after pages w m plain
plain_cases c i t (Traps e v) m plain = absurd cc

-- the steps so far are the instructions so far, and the counters rose by their number
pub record Agrees (w : Bool) (ms : List Bool) (n : ℕ) (m : Machine) (d : List Bool) : Type 0 where
  pub left : (steps n m).machine ≡ timed_after n m (went w ms n m d).machine
  pub dirty : (went w ms n m d).dirty ≡ mark_all (steps n m).pages d
  pub retired : (steps n m).retired ≡ true
  pub csrs : (went w ms n m d).machine.hart.csrs ≡ m.hart.csrs
  pub devices : (went w ms n m d).machine.shared.devices ≡ m.shared.devices
  pub pass : all_pass w ms n m ≡ true
  pub stays : DevicesStay n m

pub agrees : (w : Bool) (ms : List Bool) (n : ℕ) (m : Machine) (d : List Bool) → (went w ms n m d).plain ≡ true → m.shared.devices.halted ≡ None → IsQuiet n m → Agrees w ms n m d
unfolding steps all_pass
agrees w ms zero m d plain on quiet = record { left = refl; dirty = refl; retired = refl; csrs = refl; devices = refl; pass = refl; stays = tt }
agrees w ms (suc n) m d plain on quiet =
    let was : Went = went w ms n m d in
    let x : Machine = was.machine in
    let o : Outcome = execute x in
    let c : ℕ = risen n m.hart.csrs.mcycle in
    let i : ℕ = risen n m.hart.csrs.minstret in
    let t : ℕ = risen n m.shared.devices.mtime in
    let s : Steps = steps n m in
    let outer : Both (was.plain && is_plain o) (is_straight x && passes w ms x.hart.pc) = both (was.plain && is_plain o) (is_straight x && passes w ms x.hart.pc) plain in
    let inner : Both was.plain (is_plain o) = both was.plain (is_plain o) outer.first in
    let path : Both (is_straight x) (passes w ms x.hart.pc) = both (is_straight x) (passes w ms x.hart.pc) outer.second in
    let so_far : Agrees w ms n m d = agrees w ms n m d inner.first on (λ k below. quiet k (omega arith)) in
    let still : Still x o (λ c i t. execute (timed c i t x)) = execute_still x path.first in
    let not_halted : (timed c i t x).shared.devices.halted ≡ None = ap (λ (y : DeviceState). y.halted) so_far.devices ∙ on in
    let none : pending (mip_of (number_of (timed c i t x)) (timed c i t x).shared.devices) (timed c i t x).hart.csrs ≡ None =
    ap (λ (y : CsrState). pending (mip_of y.hart (at_time t x.shared.devices)) y) so_far.csrs
    ∙ ap (λ (y : DeviceState). pending (mip_of m.hart.csrs.hart (at_time t y)) m.hart.csrs) so_far.devices
    ∙ quiet n (omega arith) in
    let made : step s.machine ≡ plain_after c i t o x =
    ap step so_far.left
    ∙ step_on (timed c i t x) not_halted none
    ∙ ap (λ y. after_outcome y (timed c i t x)) (still.any c i t)
    ∙ plain_cases c i t o x inner.second in
    let left : (steps (suc n) m).machine ≡ timed_after (suc n) m (machine_after o x) = ap (λ (a : After). a.machine) made in
    record {
      left = left;
      dirty = ap (λ y. mark_all (pages_of o) y) so_far.dirty ∙ sym (mark_more s.pages (pages_of o) d) ∙ ap (λ (a : After). mark_all (s.pages ++ a.pages) d) (sym made);
      retired = ap (λ b. b && is_retired (step s.machine).answer) so_far.retired ∙ ap (λ (a : After). is_retired a.answer) made;
      csrs = still.csrs ∙ so_far.csrs;
      devices = still.devices ∙ so_far.devices;
      pass = ap (λ b. b && passes w ms s.machine.hart.pc) so_far.pass ∙ ap (λ (y : Machine). passes w ms y.hart.pc) so_far.left ∙ path.second;
      stays = (so_far.stays, ap (λ (y : Machine). y.shared.devices) left ∙ ap (at_time (risen (suc n) m.shared.devices.mtime)) (still.devices ∙ so_far.devices));
    }

-- COUNTERS

-- the rise of a counter as one addition
risen_suc : (k n : ℕ) → risen (suc k) n ≡ (n + suc k) % 2 ^ 64
risen_suc zero n = refl
risen_suc (suc k) n =
    ap (λ x. (x + 1) % 2 ^ 64) (risen_suc k n) ∙ mod-add-mod (n + suc k) (2 ^ 64) 1 ∙ ap (λ x. x % 2 ^ 64) (omega arith)

pub risen_is : (k n : ℕ) → 0 < k → (n + k) % 2 ^ 64 ≡ risen k n
risen_is zero n some = absurd (omega arith)
risen_is (suc k) n some = sym (risen_suc k n)

-- if the counter does not wrap
pub risen_within : (k n : ℕ) → n + k < 2 ^ 64 → risen k n ≡ n + k
risen_within zero n below = omega arith
risen_within (suc k) n below = risen_suc k n ∙ mod-eq_of_lt below

-- INTERRUPTS

-- which interrupt is taken, if the tests are known
pending_cases : (e x w a b : Bool) → cond e (cond x (Some External) (cond w (Some Software) (cond a (Some Timer) None))) None ≡ None → b ≡ false
    → cond e (cond x (Some External) (cond w (Some Software) (cond b (Some Timer) None))) None ≡ None
pending_cases false x w a b none later = refl
pending_cases true true w a b none later = absurd cc
pending_cases true false true a b none later = absurd cc
pending_cases true false false a b none later = ap (λ y. cond y (Some Timer) None) later

never : (b c : Bool) → c ≡ false → (b && c) ≡ false
never false c e = refl
never true c e = e

none_of : (b c : Bool) → b ≡ false → (b && c) ≡ false
none_of false c e = refl
none_of true c e = absurd cc

disabled_cases : (e : Bool) (o : Option Interrupt) → e ≡ false → cond e o None ≡ None
disabled_cases false o disabled = refl
disabled_cases true o disabled = absurd cc

pub quiet_disabled : (n : ℕ) (m : Machine) → m.hart.csrs.interrupts_enabled ≡ false → IsQuiet n m
quiet_disabled n m disabled = λ k below. disabled_cases m.hart.csrs.interrupts_enabled _ disabled

pub quiet_none : (n : ℕ) (m : Machine) → n ≡ 0 → IsQuiet n m
quiet_none n m none = λ k below. absurd (omega arith)

-- at another time the timer alone may be pending
at_another_time : (t : ℕ) (m : Machine) → pending (mip_of (number_of m) m.shared.devices) m.hart.csrs ≡ None
    → (nat_le (get_or m.shared.devices.mtimecmp (number_of m) 0) t && m.hart.csrs.mie.timer) ≡ false
    → pending (mip_of (number_of m) (at_time t m.shared.devices)) m.hart.csrs ≡ None
at_another_time t m none later =
    let p : Interrupts = mip_of (number_of m) m.shared.devices in
    let s : CsrState = m.hart.csrs in
    pending_cases s.interrupts_enabled (p.external && s.mie.external) (p.software && s.mie.software) (p.timer && s.mie.timer) (nat_le (get_or m.shared.devices.mtimecmp (number_of m) 0) t && s.mie.timer) none later

pub quiet_timer_off : (n : ℕ) (m : Machine) → pending (mip_of (number_of m) m.shared.devices) m.hart.csrs ≡ None → m.hart.csrs.mie.timer ≡ false → IsQuiet n m
quiet_timer_off n m none off = λ k below. at_another_time (risen k m.shared.devices.mtime) m none (never _ m.hart.csrs.mie.timer off)

pub quiet_until : (n : ℕ) (m : Machine) → pending (mip_of (number_of m) m.shared.devices) m.hart.csrs ≡ None
    → (0 < n → m.shared.devices.mtime + n ≤ get_or m.shared.devices.mtimecmp (number_of m) 0) → get_or m.shared.devices.mtimecmp (number_of m) 0 < 2 ^ 64 → IsQuiet n m
quiet_until n m none far range = λ k below.
    let t : ℕ = m.shared.devices.mtime in
    let then : ℕ = get_or m.shared.devices.mtimecmp (number_of m) 0 in
    let e : risen k t ≡ t + k = risen_within k t (omega (arith, below, far, range)) in
    let before : risen k t < then = omega (arith, e, below, far, range) in
    at_another_time (risen k t) m none (none_of (nat_le then (risen k t)) m.hart.csrs.mie.timer (grind (arith, nat_tests, before)))

-- STEPS

pub steps_keep : (n : ℕ) (m : Machine) → shape (steps n m).machine ≡ shape m
unfolding steps
steps_keep zero m = refl
steps_keep (suc n) m = step_keeps (steps n m).machine ∙ steps_keep n m

pub no_steps : (n : ℕ) (m : Machine) → n ≡ 0 → steps n m ≡ record { machine = m; pages = []; retired = true }
unfolding steps
no_steps n m e = rw e refl

-- the counters of a machine, this many steps later
pub counts : (k : ℕ) (m : Machine) → 0 < k
    → timed ((m.hart.csrs.mcycle + k) % 2 ^ 64) ((m.hart.csrs.minstret + k) % 2 ^ 64) ((m.shared.devices.mtime + k) % 2 ^ 64) m ≡ timed_after k m m
counts k m some =
    ap (λ c. timed c ((m.hart.csrs.minstret + k) % 2 ^ 64) ((m.shared.devices.mtime + k) % 2 ^ 64) m) (risen_is k m.hart.csrs.mcycle some)
    ∙ ap (λ i. timed (risen k m.hart.csrs.mcycle) i ((m.shared.devices.mtime + k) % 2 ^ 64) m) (risen_is k m.hart.csrs.minstret some)
    ∙ ap (λ t. timed (risen k m.hart.csrs.mcycle) (risen k m.hart.csrs.minstret) t m) (risen_is k m.shared.devices.mtime some)

pub counts_none : (k : ℕ) (m : Machine) → k ≡ 0 → m ≡ timed_after k m m
counts_none k m e = ap (λ i. timed_after i m m) (sym e)

-- what holds of no steps
pub none_pass : (w : Bool) (ms : List Bool) (n : ℕ) (m : Machine) → n ≡ 0 → all_pass w ms n m ≡ true
unfolding all_pass
none_pass w ms n m e = rw e refl

pub none_change : (n : ℕ) (m : Machine) → n ≡ 0 → DevicesStay n m
none_change n m e = rw e tt

-- a machine and its dirty log are those that k steps leave, all of which retired on the path
pub record MadeSteps (w : Bool) (ms : List Bool) (k : ℕ) (old : Machine) (log : List Bool) (new : Machine) (dirty : List Bool) : Type 0 where
  pub left : new ≡ (steps k old).machine
  pub marked : dirty ≡ mark_all (steps k old).pages log
  pub retired : (steps k old).retired ≡ true
  pub pass : all_pass w ms k old ≡ true
  pub stays : DevicesStay k old

pub made_steps : (w : Bool) (ms : List Bool) (k : ℕ) (old : Machine) (log : List Bool) (x new : Machine) (dirty : List Bool) → record { machine = x; dirty = dirty; plain = true } ≡ went w ms k old log
    → old.shared.devices.halted ≡ None → IsQuiet k old → new ≡ timed_after k x x → MadeSteps w ms k old log new dirty
made_steps w ms k old log x new dirty same on quiet counted_on =
    let a : Agrees w ms k old log = agrees w ms k old log (ap (λ (y : Went). y.plain) (sym same)) on quiet in
    let is : x ≡ (went w ms k old log).machine = ap (λ (y : Went). y.machine) same in
    record {
      left = counted_on
          ∙ ap (λ (s : CsrState). timed (risen k s.mcycle) (risen k s.minstret) (risen k x.shared.devices.mtime) x) (ap (λ (m : Machine). m.hart.csrs) is ∙ a.csrs)
          ∙ ap (λ (v : DeviceState). timed (risen k old.hart.csrs.mcycle) (risen k old.hart.csrs.minstret) (risen k v.mtime) x) (ap (λ (m : Machine). m.shared.devices) is ∙ a.devices)
          ∙ ap (timed_after k old) is
          ∙ sym a.left;
      marked = ap (λ (y : Went). y.dirty) same ∙ a.dirty;
      retired = a.retired;
      pass = a.pass;
      stays = a.stays;
    }

none_of_some : (o : Option Interrupt) → is_some o ≡ false → o ≡ None
none_of_some None e = refl
none_of_some (Some i) e = absurd cc

pub quiet_for : (n hart : ℕ) (o : Option Interrupt) (m : Machine) → o ≡ pending (mip_of (number_of m) m.shared.devices) m.hart.csrs → is_some o ≡ false → hart ≡ number_of m
    → (0 < n → m.shared.devices.mtime + n ≤ get_or m.shared.devices.mtimecmp hart 0) → get_or m.shared.devices.mtimecmp hart 0 < 2 ^ 64 → IsQuiet n m
quiet_for n hart o m same none is far range =
    quiet_until n m (sym same ∙ none_of_some o none) (λ some. rw is at (far some)) (rw is at range)

no_status : (o : Option ℕ) → is_some o ≡ false → o ≡ None
no_status None e = refl
no_status (Some s) e = absurd cc

-- the word at which the path ended is the next step's
next_at : (w : ℕ) (f : Option ℕ) (p : Option Interrupt) (h : Option ℕ) → f ≡ Some w → p ≡ None → h ≡ None
    → (is_fetched w f && not (is_some p) && not (is_some h)) ≡ true
next_at w f p h at none on = rw at (rw none (rw on (grind (arith, nat_tests))))

pub next_for : (word left quiet : ℕ) (o : Option ℕ) (old x new : Machine) → (0 < word → ram_load 4 x.hart.pc x.shared.bytes ≡ Some word) → (0 < word → 0 < left) → left ≤ quiet
    → o ≡ old.shared.devices.halted → is_some o ≡ false → IsQuiet quiet old → x.hart.csrs ≡ old.hart.csrs → x.shared.devices ≡ old.shared.devices → new ≡ timed_after (quiet - left) x x → is_next word new ≡ true
unfolding is_next
next_for zero left quiet o old x new at some within halted on none csrs devices timed_so = refl
next_for (suc w) left quiet o old x new at some within halted on none csrs devices timed_so =
    let k : ℕ = quiet - left in
    let y : Machine = timed_after k x x in
    let quiet_then : pending (mip_of (number_of y) y.shared.devices) y.hart.csrs ≡ None =
    ap (λ (s : CsrState). pending (mip_of s.hart (at_time (risen k x.shared.devices.mtime) x.shared.devices)) s) csrs
    ∙ ap (λ (v : DeviceState). pending (mip_of old.hart.csrs.hart (at_time (risen k v.mtime) v)) old.hart.csrs) devices
    ∙ none k (omega (arith, some (omega arith), within)) in
    let not_halted : y.shared.devices.halted ≡ None = ap (λ (v : DeviceState). v.halted) devices ∙ sym halted ∙ no_status o on in
    ap (λ m. is_next (suc w) m) timed_so
    ∙ next_at (suc w) (ram_load 4 y.hart.pc y.shared.bytes) (pending (mip_of (number_of y) y.shared.devices) y.hart.csrs) y.shared.devices.halted (at (omega arith)) quiet_then not_halted

pub none_next : (m : Machine) → is_next 0 m ≡ true
unfolding is_next
none_next m = refl

quiet_of : (f : Bool) (p : Option Interrupt) (h : Option ℕ) → (f && not (is_some p) && not (is_some h)) ≡ true → p ≡ None
quiet_of f None h e = refl
quiet_of true (Some i) h e = absurd cc
quiet_of false (Some i) h e = absurd cc

on_of : (f : Bool) (p : Option Interrupt) (h : Option ℕ) → (f && not (is_some p) && not (is_some h)) ≡ true → h ≡ None
on_of f p None e = refl
on_of true None (Some s) e = absurd cc
on_of true (Some i) (Some s) e = absurd cc
on_of false p (Some s) e = absurd cc

-- if the word at pc is known, the next step runs its instruction
pub step_next : (w : ℕ) (m : Machine) → 0 < w → is_next w m ≡ true → step m ≡ after_outcome (execute m) m
unfolding is_next
step_next zero m e next = absurd (omega arith)
step_next (suc v) m e next =
    let f : Bool = is_fetched (suc v) (ram_load 4 m.hart.pc m.shared.bytes) in
    let p : Option Interrupt = pending (mip_of (number_of m) m.shared.devices) m.hart.csrs in
    step_on m (on_of f p m.shared.devices.halted next) (quiet_of f p m.shared.devices.halted next)

pub made_for : (w : Bool) (ms : List Bool) (n k quiet : ℕ) (o : Option ℕ) (old : Machine) (log : List Bool) (x new : Machine) (dirty left : List Bool) → n ≡ k → k ≤ quiet → o ≡ old.shared.devices.halted → is_some o ≡ false → IsQuiet quiet old
    → record { machine = x; dirty = dirty; plain = true } ≡ went w ms k old log → new ≡ timed_after k x x → left ≡ dirty → MadeSteps w ms n old log new left
made_for w ms n k quiet o old log x new dirty left counted_so within halted on none same timed_so log_so =
    let made : MadeSteps w ms k old log new dirty = made_steps w ms k old log x new dirty same (sym halted ∙ no_status o on) (λ i below. none i (omega (arith, below, within))) timed_so in
    subst (λ i. MadeSteps w ms i old log new left) (sym counted_so) (subst (λ d. MadeSteps w ms k old log new d) (sym log_so) made)
