-- An instruction of the straight path makes the step of its hart at any values of the counters.
use Rattle.std.proofs.Common.{◌≡◌, ℕ, ◌+◌, ◌%◌, ◌^◌, ◌<◌, Bool, true, List, None, sym, ap, ◌∙◌}
use Rattle.rvm_mem.specs.Pages.{mark_all}
use Rattle.rvm_csr.specs.Counters.{counted}
use Rattle.rvm_csr.specs.Traps.{pending}
use Rattle.rvm_hart.specs.declared.outcome.Stepped.TheVariants.{Retired}
use Rattle.rvm_hart.specs.Machine.{BusState, HartState, Machine, machine, number_of, shape, with_devices}
use Rattle.rvm_hart.specs.Bus.{mip_of}
use Rattle.rvm_hart.specs.Outcome.{Outcome, machine_after}
use Rattle.rvm_hart.specs.Step.{After, after_outcome, execute, step}
use Rattle.rvm_hart.specs.Straight.{Goes, at_time, is_straight, pages_of, risen, timed}
use Rattle.rvm_hart.specs.Frozen.{risen_by}
use Rattle.rvm_hart.proofs.Made.{plain_cases, risen_is, step_on}
use Rattle.rvm_hart.proofs.Shape.{pending_keeps}
use Rattle.rvm_hart.proofs.Still.{Still, execute_still}

-- the machine n is what one instruction of the straight path leaves of m, with the counters of m; the step is that at
-- any values of the counters
pub record Strides (m n : Machine) (old new : List Bool) : Type 0 where
  pub pages : List ℕ
  pub dirty : new ≡ mark_all pages old
  pub csrs : n.hart.csrs ≡ m.hart.csrs
  pub devices : n.shared.devices ≡ m.shared.devices
  pub sizes : shape n ≡ shape m
  pub step : (c i t : ℕ) → m.shared.devices.halted ≡ None → pending (mip_of (number_of m) (at_time t m.shared.devices)) m.hart.csrs ≡ None
      → step (timed c i t m) ≡ record { machine = timed (counted true c) (counted true i) (counted true t) n; pages = pages; answer = Retired }

pub strides : (h n : HartState) (b c : BusState) → Goes execute h.pc h b n.pc n c → is_straight (machine h b) ≡ true → Strides (machine h b) (machine n c) b.dirty c.dirty
strides h n b c goes straight =
    let m : Machine = machine h b in
    let o : Outcome = execute m in
    let left : machine_after o m ≡ machine n c = goes.left in
    let still : Still m o (λ c i t. execute (timed c i t m)) = execute_still m straight in
    record {
      pages = pages_of o;
      dirty = goes.dirty;
      csrs = ap (λ (x : Machine). x.hart.csrs) (sym left) ∙ still.csrs;
      devices = ap (λ (x : Machine). x.shared.devices) (sym left) ∙ still.devices;
      sizes = ap shape (sym left)
          ∙ sym (ap (λ (a : After). shape a.machine) (ap (λ y. after_outcome y (timed 0 0 0 m)) (still.any 0 0 0) ∙ plain_cases 0 0 0 o m goes.plain))
          ∙ pending_keeps None (timed 0 0 0 m);
      step = λ c i t on quiet.
          step_on (timed c i t m) on quiet
          ∙ ap (λ y. after_outcome y (timed c i t m)) (still.any c i t)
          ∙ plain_cases c i t o m goes.plain
          ∙ ap (λ (x : Machine). record { machine = timed (counted true c) (counted true i) (counted true t) x; pages = pages_of o; answer = Retired }) left;
    }

-- mcycle and minstret of a hart, this many steps later
pub rises : (k : ℕ) (h : HartState) → 0 < k
    → record h { csrs = record h.csrs { mcycle = (h.csrs.mcycle + k) % 2 ^ 64; minstret = (h.csrs.minstret + k) % 2 ^ 64 } } ≡ risen_by k h
rises k h some =
    ap (λ (c : ℕ). record h { csrs = record h.csrs { mcycle = c; minstret = (h.csrs.minstret + k) % 2 ^ 64 } }) (risen_is k h.csrs.mcycle some)
    ∙ ap (λ (i : ℕ). record h { csrs = record h.csrs { mcycle = risen k h.csrs.mcycle; minstret = i } }) (risen_is k h.csrs.minstret some)

-- mtime of a bus, this many steps later
pub rises_time : (k : ℕ) (b : BusState) → 0 < k
    → with_devices (record b.shared.devices { mtime = (b.shared.devices.mtime + k) % 2 ^ 64 }) b ≡ with_devices (at_time (risen k b.shared.devices.mtime) b.shared.devices) b
rises_time k b some = ap (λ (t : ℕ). with_devices (at_time t b.shared.devices) b) (risen_is k b.shared.devices.mtime some)
