use Rattle.std.proofs.Common.{ℕ, ◌≡◌, ◌-◌, not, true, sym, ap, ◌∙◌, arith, refl, Option}
use Rattle.rvm_hart.specs.Machine.{Machine, machine}
use Rattle.rvm_hart.specs.Marks.{passes}
use Rattle.rvm_hart.specs.Running.{status_in}
use Rattle.rvm_hart.specs.Step.{step}
use Rattle.rvm_hart.proofs.Running.{Gone, Sizes, gone_init, halts_last, more_straight, one_more_to, runs_on, sizes_after, sizes_stepped}
use Rattle.rvm_hart.proofs.hart.Hart.run.Goals as goal

pub loop-left-init : goal.loop-left-init
loop-left-init g c =
    record {
      left = omega arith;
      hart = refl;
      reservations = refl;
      devices = refl;
      gone = gone_init c.args.watched c.args.marks.now (c.args.count - c.args.count) (machine c.args.self.now c.args.bus.now) c.args.bus.now.dirty (omega arith);
    }

-- all that were left were made on the straight path, or it ended at a mark
pub returns-then-left-eq0-clause-machine : goal.returns-then-left-eq0-clause-machine
returns-then-left-eq0-clause-machine g c =
    let x : Machine = machine c.loop-left.self c.loop-left.bus in
    let y : Machine = machine c.run_straight-straight.new.self c.run_straight-straight.new.bus in
    let old : Machine = machine c.args.self.now c.args.bus.now in
    let so_far : Gone c.args.watched c.args.marks.now (c.args.count - c.run_straight-straight.result.left) old c.args.bus.now.dirty y c.run_straight-straight.new.bus.dirty =
    more_straight c.args.watched c.args.marks.now (c.loop-left.left - c.run_straight-straight.result.left) (c.args.count - c.loop-left.left) (c.args.count - c.run_straight-straight.result.left) old c.args.bus.now.dirty x c.loop-left.bus.dirty y c.run_straight-straight.new.bus.dirty
    c.loop-left.invariant.gone (omega (arith, c.run_straight-straight.ensures.left, c.loop-left.invariant.left)) c.run_straight-straight.ensures.machine c.run_straight-straight.ensures.dirty c.run_straight-straight.ensures.pass c.run_straight-straight.ensures.retired in
    (runs_on c.args.watched c.args.marks.now (c.args.count - c.run_straight-straight.result.left) (c.args.count - c.run_straight-straight.result.left) old c.args.bus.now.dirty y c.run_straight-straight.new.bus.dirty so_far refl).left

pub returns-then-left-eq0-clause-dirty : goal.returns-then-left-eq0-clause-dirty
returns-then-left-eq0-clause-dirty g c =
    let x : Machine = machine c.loop-left.self c.loop-left.bus in
    let y : Machine = machine c.run_straight-straight.new.self c.run_straight-straight.new.bus in
    let old : Machine = machine c.args.self.now c.args.bus.now in
    let so_far : Gone c.args.watched c.args.marks.now (c.args.count - c.run_straight-straight.result.left) old c.args.bus.now.dirty y c.run_straight-straight.new.bus.dirty =
    more_straight c.args.watched c.args.marks.now (c.loop-left.left - c.run_straight-straight.result.left) (c.args.count - c.loop-left.left) (c.args.count - c.run_straight-straight.result.left) old c.args.bus.now.dirty x c.loop-left.bus.dirty y c.run_straight-straight.new.bus.dirty
    c.loop-left.invariant.gone (omega (arith, c.run_straight-straight.ensures.left, c.loop-left.invariant.left)) c.run_straight-straight.ensures.machine c.run_straight-straight.ensures.dirty c.run_straight-straight.ensures.pass c.run_straight-straight.ensures.retired in
    (runs_on c.args.watched c.args.marks.now (c.args.count - c.run_straight-straight.result.left) (c.args.count - c.run_straight-straight.result.left) old c.args.bus.now.dirty y c.run_straight-straight.new.bus.dirty so_far refl).marked

pub returns-then-left-eq0-clause-pass : goal.returns-then-left-eq0-clause-pass
returns-then-left-eq0-clause-pass g c =
    let x : Machine = machine c.loop-left.self c.loop-left.bus in
    let y : Machine = machine c.run_straight-straight.new.self c.run_straight-straight.new.bus in
    let old : Machine = machine c.args.self.now c.args.bus.now in
    let so_far : Gone c.args.watched c.args.marks.now (c.args.count - c.run_straight-straight.result.left) old c.args.bus.now.dirty y c.run_straight-straight.new.bus.dirty =
    more_straight c.args.watched c.args.marks.now (c.loop-left.left - c.run_straight-straight.result.left) (c.args.count - c.loop-left.left) (c.args.count - c.run_straight-straight.result.left) old c.args.bus.now.dirty x c.loop-left.bus.dirty y c.run_straight-straight.new.bus.dirty
    c.loop-left.invariant.gone (omega (arith, c.run_straight-straight.ensures.left, c.loop-left.invariant.left)) c.run_straight-straight.ensures.machine c.run_straight-straight.ensures.dirty c.run_straight-straight.ensures.pass c.run_straight-straight.ensures.retired in
    (runs_on c.args.watched c.args.marks.now (c.args.count - c.run_straight-straight.result.left) (c.args.count - c.run_straight-straight.result.left) old c.args.bus.now.dirty y c.run_straight-straight.new.bus.dirty so_far refl).pass

pub returns-then-left-eq0-clause-ends : goal.returns-then-left-eq0-clause-ends
returns-then-left-eq0-clause-ends g c =
    let x : Machine = machine c.loop-left.self c.loop-left.bus in
    let y : Machine = machine c.run_straight-straight.new.self c.run_straight-straight.new.bus in
    let old : Machine = machine c.args.self.now c.args.bus.now in
    let so_far : Gone c.args.watched c.args.marks.now (c.args.count - c.run_straight-straight.result.left) old c.args.bus.now.dirty y c.run_straight-straight.new.bus.dirty =
    more_straight c.args.watched c.args.marks.now (c.loop-left.left - c.run_straight-straight.result.left) (c.args.count - c.loop-left.left) (c.args.count - c.run_straight-straight.result.left) old c.args.bus.now.dirty x c.loop-left.bus.dirty y c.run_straight-straight.new.bus.dirty
    c.loop-left.invariant.gone (omega (arith, c.run_straight-straight.ensures.left, c.loop-left.invariant.left)) c.run_straight-straight.ensures.machine c.run_straight-straight.ensures.dirty c.run_straight-straight.ensures.pass c.run_straight-straight.ensures.retired in
    (runs_on c.args.watched c.args.marks.now (c.args.count - c.run_straight-straight.result.left) (c.args.count - c.run_straight-straight.result.left) old c.args.bus.now.dirty y c.run_straight-straight.new.bus.dirty so_far refl).ends

pub returns-then-is_at_mark-clause-machine : goal.returns-then-is_at_mark-clause-machine
returns-then-is_at_mark-clause-machine g c =
    let x : Machine = machine c.loop-left.self c.loop-left.bus in
    let y : Machine = machine c.run_straight-straight.new.self c.run_straight-straight.new.bus in
    let old : Machine = machine c.args.self.now c.args.bus.now in
    let so_far : Gone c.args.watched c.args.marks.now (c.args.count - c.run_straight-straight.result.left) old c.args.bus.now.dirty y c.run_straight-straight.new.bus.dirty =
    more_straight c.args.watched c.args.marks.now (c.loop-left.left - c.run_straight-straight.result.left) (c.args.count - c.loop-left.left) (c.args.count - c.run_straight-straight.result.left) old c.args.bus.now.dirty x c.loop-left.bus.dirty y c.run_straight-straight.new.bus.dirty
    c.loop-left.invariant.gone (omega (arith, c.run_straight-straight.ensures.left, c.loop-left.invariant.left)) c.run_straight-straight.ensures.machine c.run_straight-straight.ensures.dirty c.run_straight-straight.ensures.pass c.run_straight-straight.ensures.retired in
    (runs_on c.args.watched c.args.marks.now (c.args.count - c.run_straight-straight.result.left) (c.args.count - c.run_straight-straight.result.left) old c.args.bus.now.dirty y c.run_straight-straight.new.bus.dirty so_far refl).left

pub returns-then-is_at_mark-clause-dirty : goal.returns-then-is_at_mark-clause-dirty
returns-then-is_at_mark-clause-dirty g c =
    let x : Machine = machine c.loop-left.self c.loop-left.bus in
    let y : Machine = machine c.run_straight-straight.new.self c.run_straight-straight.new.bus in
    let old : Machine = machine c.args.self.now c.args.bus.now in
    let so_far : Gone c.args.watched c.args.marks.now (c.args.count - c.run_straight-straight.result.left) old c.args.bus.now.dirty y c.run_straight-straight.new.bus.dirty =
    more_straight c.args.watched c.args.marks.now (c.loop-left.left - c.run_straight-straight.result.left) (c.args.count - c.loop-left.left) (c.args.count - c.run_straight-straight.result.left) old c.args.bus.now.dirty x c.loop-left.bus.dirty y c.run_straight-straight.new.bus.dirty
    c.loop-left.invariant.gone (omega (arith, c.run_straight-straight.ensures.left, c.loop-left.invariant.left)) c.run_straight-straight.ensures.machine c.run_straight-straight.ensures.dirty c.run_straight-straight.ensures.pass c.run_straight-straight.ensures.retired in
    (runs_on c.args.watched c.args.marks.now (c.args.count - c.run_straight-straight.result.left) (c.args.count - c.run_straight-straight.result.left) old c.args.bus.now.dirty y c.run_straight-straight.new.bus.dirty so_far refl).marked

pub returns-then-is_at_mark-clause-pass : goal.returns-then-is_at_mark-clause-pass
returns-then-is_at_mark-clause-pass g c =
    let x : Machine = machine c.loop-left.self c.loop-left.bus in
    let y : Machine = machine c.run_straight-straight.new.self c.run_straight-straight.new.bus in
    let old : Machine = machine c.args.self.now c.args.bus.now in
    let so_far : Gone c.args.watched c.args.marks.now (c.args.count - c.run_straight-straight.result.left) old c.args.bus.now.dirty y c.run_straight-straight.new.bus.dirty =
    more_straight c.args.watched c.args.marks.now (c.loop-left.left - c.run_straight-straight.result.left) (c.args.count - c.loop-left.left) (c.args.count - c.run_straight-straight.result.left) old c.args.bus.now.dirty x c.loop-left.bus.dirty y c.run_straight-straight.new.bus.dirty
    c.loop-left.invariant.gone (omega (arith, c.run_straight-straight.ensures.left, c.loop-left.invariant.left)) c.run_straight-straight.ensures.machine c.run_straight-straight.ensures.dirty c.run_straight-straight.ensures.pass c.run_straight-straight.ensures.retired in
    (runs_on c.args.watched c.args.marks.now (c.args.count - c.run_straight-straight.result.left) (c.args.count - c.run_straight-straight.result.left) old c.args.bus.now.dirty y c.run_straight-straight.new.bus.dirty so_far refl).pass

pub returns-then-is_at_mark-clause-ends : goal.returns-then-is_at_mark-clause-ends
returns-then-is_at_mark-clause-ends g c =
    let x : Machine = machine c.loop-left.self c.loop-left.bus in
    let y : Machine = machine c.run_straight-straight.new.self c.run_straight-straight.new.bus in
    let old : Machine = machine c.args.self.now c.args.bus.now in
    let so_far : Gone c.args.watched c.args.marks.now (c.args.count - c.run_straight-straight.result.left) old c.args.bus.now.dirty y c.run_straight-straight.new.bus.dirty =
    more_straight c.args.watched c.args.marks.now (c.loop-left.left - c.run_straight-straight.result.left) (c.args.count - c.loop-left.left) (c.args.count - c.run_straight-straight.result.left) old c.args.bus.now.dirty x c.loop-left.bus.dirty y c.run_straight-straight.new.bus.dirty
    c.loop-left.invariant.gone (omega (arith, c.run_straight-straight.ensures.left, c.loop-left.invariant.left)) c.run_straight-straight.ensures.machine c.run_straight-straight.ensures.dirty c.run_straight-straight.ensures.pass c.run_straight-straight.ensures.retired in
    (runs_on c.args.watched c.args.marks.now (c.args.count - c.run_straight-straight.result.left) (c.args.count - c.run_straight-straight.result.left) old c.args.bus.now.dirty y c.run_straight-straight.new.bus.dirty so_far refl).ends

-- the next step may be made
pub step_with-requires-clause-reservation : goal.step_with-requires-clause-reservation
step_with-requires-clause-reservation g c =
    let s : Sizes (machine c.run_straight-straight.new.self c.run_straight-straight.new.bus) (machine c.loop-left.self c.loop-left.bus) = sizes_after (c.loop-left.left - c.run_straight-straight.result.left) (machine c.loop-left.self c.loop-left.bus) (machine c.run_straight-straight.new.self c.run_straight-straight.new.bus) c.run_straight-straight.ensures.machine in
    omega (arith, s.hart, s.reservations, c.loop-left.invariant.hart, c.loop-left.invariant.reservations, c.requires.reservation)

pub step_with-requires-clause-devices : goal.step_with-requires-clause-devices
step_with-requires-clause-devices g c =
    let s : Sizes (machine c.run_straight-straight.new.self c.run_straight-straight.new.bus) (machine c.loop-left.self c.loop-left.bus) = sizes_after (c.loop-left.left - c.run_straight-straight.result.left) (machine c.loop-left.self c.loop-left.bus) (machine c.run_straight-straight.new.self c.run_straight-straight.new.bus) c.run_straight-straight.ensures.machine in
    omega (arith, s.hart, s.devices, c.loop-left.invariant.hart, c.loop-left.invariant.devices, c.requires.devices)

pub returns-then-is_some-clause-machine : goal.returns-then-is_some-clause-machine
returns-then-is_some-clause-machine g c =
    let x : Machine = machine c.loop-left.self c.loop-left.bus in
    let y : Machine = machine c.run_straight-straight.new.self c.run_straight-straight.new.bus in
    let old : Machine = machine c.args.self.now c.args.bus.now in
    let so_far : Gone c.args.watched c.args.marks.now (c.args.count - c.run_straight-straight.result.left) old c.args.bus.now.dirty y c.run_straight-straight.new.bus.dirty =
    more_straight c.args.watched c.args.marks.now (c.loop-left.left - c.run_straight-straight.result.left) (c.args.count - c.loop-left.left) (c.args.count - c.run_straight-straight.result.left) old c.args.bus.now.dirty x c.loop-left.bus.dirty y c.run_straight-straight.new.bus.dirty
    c.loop-left.invariant.gone (omega (arith, c.run_straight-straight.ensures.left, c.loop-left.invariant.left)) c.run_straight-straight.ensures.machine c.run_straight-straight.ensures.dirty c.run_straight-straight.ensures.pass c.run_straight-straight.ensures.retired in
    let passed : passes c.args.watched c.args.marks.now y.hart.pc ≡ true = ap not (sym c.is_at_mark.ensures ∙ c.if-is_at_mark.false) in
    let z : Machine = machine c.step_with.new.self c.step_with.new.bus in
    let status : Option ℕ = c.status_in-halted.result in
    let said : status ≡ status_in (step y).answer = c.status_in-halted.ensures ∙ ap status_in c.step_with.ensures.answer in
    (halts_last c.args.watched c.args.marks.now (c.args.count - c.run_straight-straight.result.left) (c.args.count - (c.run_straight-straight.result.left - 1)) status old c.args.bus.now.dirty y c.run_straight-straight.new.bus.dirty z c.step_with.new.bus.dirty so_far
    (omega (arith, c.if-left-eq0.false, c.run_straight-straight.ensures.left, c.loop-left.invariant.left)) passed said (sym c.is_some.ensures ∙ c.if-is_some.true) c.step_with.ensures.machine c.step_with.ensures.dirty).left

pub returns-then-is_some-clause-dirty : goal.returns-then-is_some-clause-dirty
returns-then-is_some-clause-dirty g c =
    let x : Machine = machine c.loop-left.self c.loop-left.bus in
    let y : Machine = machine c.run_straight-straight.new.self c.run_straight-straight.new.bus in
    let old : Machine = machine c.args.self.now c.args.bus.now in
    let so_far : Gone c.args.watched c.args.marks.now (c.args.count - c.run_straight-straight.result.left) old c.args.bus.now.dirty y c.run_straight-straight.new.bus.dirty =
    more_straight c.args.watched c.args.marks.now (c.loop-left.left - c.run_straight-straight.result.left) (c.args.count - c.loop-left.left) (c.args.count - c.run_straight-straight.result.left) old c.args.bus.now.dirty x c.loop-left.bus.dirty y c.run_straight-straight.new.bus.dirty
    c.loop-left.invariant.gone (omega (arith, c.run_straight-straight.ensures.left, c.loop-left.invariant.left)) c.run_straight-straight.ensures.machine c.run_straight-straight.ensures.dirty c.run_straight-straight.ensures.pass c.run_straight-straight.ensures.retired in
    let passed : passes c.args.watched c.args.marks.now y.hart.pc ≡ true = ap not (sym c.is_at_mark.ensures ∙ c.if-is_at_mark.false) in
    let z : Machine = machine c.step_with.new.self c.step_with.new.bus in
    let status : Option ℕ = c.status_in-halted.result in
    let said : status ≡ status_in (step y).answer = c.status_in-halted.ensures ∙ ap status_in c.step_with.ensures.answer in
    (halts_last c.args.watched c.args.marks.now (c.args.count - c.run_straight-straight.result.left) (c.args.count - (c.run_straight-straight.result.left - 1)) status old c.args.bus.now.dirty y c.run_straight-straight.new.bus.dirty z c.step_with.new.bus.dirty so_far
    (omega (arith, c.if-left-eq0.false, c.run_straight-straight.ensures.left, c.loop-left.invariant.left)) passed said (sym c.is_some.ensures ∙ c.if-is_some.true) c.step_with.ensures.machine c.step_with.ensures.dirty).marked

pub returns-then-is_some-clause-pass : goal.returns-then-is_some-clause-pass
returns-then-is_some-clause-pass g c =
    let x : Machine = machine c.loop-left.self c.loop-left.bus in
    let y : Machine = machine c.run_straight-straight.new.self c.run_straight-straight.new.bus in
    let old : Machine = machine c.args.self.now c.args.bus.now in
    let so_far : Gone c.args.watched c.args.marks.now (c.args.count - c.run_straight-straight.result.left) old c.args.bus.now.dirty y c.run_straight-straight.new.bus.dirty =
    more_straight c.args.watched c.args.marks.now (c.loop-left.left - c.run_straight-straight.result.left) (c.args.count - c.loop-left.left) (c.args.count - c.run_straight-straight.result.left) old c.args.bus.now.dirty x c.loop-left.bus.dirty y c.run_straight-straight.new.bus.dirty
    c.loop-left.invariant.gone (omega (arith, c.run_straight-straight.ensures.left, c.loop-left.invariant.left)) c.run_straight-straight.ensures.machine c.run_straight-straight.ensures.dirty c.run_straight-straight.ensures.pass c.run_straight-straight.ensures.retired in
    let passed : passes c.args.watched c.args.marks.now y.hart.pc ≡ true = ap not (sym c.is_at_mark.ensures ∙ c.if-is_at_mark.false) in
    let z : Machine = machine c.step_with.new.self c.step_with.new.bus in
    let status : Option ℕ = c.status_in-halted.result in
    let said : status ≡ status_in (step y).answer = c.status_in-halted.ensures ∙ ap status_in c.step_with.ensures.answer in
    (halts_last c.args.watched c.args.marks.now (c.args.count - c.run_straight-straight.result.left) (c.args.count - (c.run_straight-straight.result.left - 1)) status old c.args.bus.now.dirty y c.run_straight-straight.new.bus.dirty z c.step_with.new.bus.dirty so_far
    (omega (arith, c.if-left-eq0.false, c.run_straight-straight.ensures.left, c.loop-left.invariant.left)) passed said (sym c.is_some.ensures ∙ c.if-is_some.true) c.step_with.ensures.machine c.step_with.ensures.dirty).pass

pub returns-then-is_some-clause-ends : goal.returns-then-is_some-clause-ends
returns-then-is_some-clause-ends g c =
    let x : Machine = machine c.loop-left.self c.loop-left.bus in
    let y : Machine = machine c.run_straight-straight.new.self c.run_straight-straight.new.bus in
    let old : Machine = machine c.args.self.now c.args.bus.now in
    let so_far : Gone c.args.watched c.args.marks.now (c.args.count - c.run_straight-straight.result.left) old c.args.bus.now.dirty y c.run_straight-straight.new.bus.dirty =
    more_straight c.args.watched c.args.marks.now (c.loop-left.left - c.run_straight-straight.result.left) (c.args.count - c.loop-left.left) (c.args.count - c.run_straight-straight.result.left) old c.args.bus.now.dirty x c.loop-left.bus.dirty y c.run_straight-straight.new.bus.dirty
    c.loop-left.invariant.gone (omega (arith, c.run_straight-straight.ensures.left, c.loop-left.invariant.left)) c.run_straight-straight.ensures.machine c.run_straight-straight.ensures.dirty c.run_straight-straight.ensures.pass c.run_straight-straight.ensures.retired in
    let passed : passes c.args.watched c.args.marks.now y.hart.pc ≡ true = ap not (sym c.is_at_mark.ensures ∙ c.if-is_at_mark.false) in
    let z : Machine = machine c.step_with.new.self c.step_with.new.bus in
    let status : Option ℕ = c.status_in-halted.result in
    let said : status ≡ status_in (step y).answer = c.status_in-halted.ensures ∙ ap status_in c.step_with.ensures.answer in
    (halts_last c.args.watched c.args.marks.now (c.args.count - c.run_straight-straight.result.left) (c.args.count - (c.run_straight-straight.result.left - 1)) status old c.args.bus.now.dirty y c.run_straight-straight.new.bus.dirty z c.step_with.new.bus.dirty so_far
    (omega (arith, c.if-left-eq0.false, c.run_straight-straight.ensures.left, c.loop-left.invariant.left)) passed said (sym c.is_some.ensures ∙ c.if-is_some.true) c.step_with.ensures.machine c.step_with.ensures.dirty).ends

pub loop-left-preserved : goal.loop-left-preserved
loop-left-preserved g c =
    let x : Machine = machine c.loop-left.self c.loop-left.bus in
    let y : Machine = machine c.run_straight-straight.new.self c.run_straight-straight.new.bus in
    let old : Machine = machine c.args.self.now c.args.bus.now in
    let so_far : Gone c.args.watched c.args.marks.now (c.args.count - c.run_straight-straight.result.left) old c.args.bus.now.dirty y c.run_straight-straight.new.bus.dirty =
    more_straight c.args.watched c.args.marks.now (c.loop-left.left - c.run_straight-straight.result.left) (c.args.count - c.loop-left.left) (c.args.count - c.run_straight-straight.result.left) old c.args.bus.now.dirty x c.loop-left.bus.dirty y c.run_straight-straight.new.bus.dirty
    c.loop-left.invariant.gone (omega (arith, c.run_straight-straight.ensures.left, c.loop-left.invariant.left)) c.run_straight-straight.ensures.machine c.run_straight-straight.ensures.dirty c.run_straight-straight.ensures.pass c.run_straight-straight.ensures.retired in
    let passed : passes c.args.watched c.args.marks.now y.hart.pc ≡ true = ap not (sym c.is_at_mark.ensures ∙ c.if-is_at_mark.false) in
    let z : Machine = machine c.step_with.new.self c.step_with.new.bus in
    let status : Option ℕ = c.status_in-halted.result in
    let said : status ≡ status_in (step y).answer = c.status_in-halted.ensures ∙ ap status_in c.step_with.ensures.answer in
    let before : Sizes y x = sizes_after (c.loop-left.left - c.run_straight-straight.result.left) x y c.run_straight-straight.ensures.machine in
    let after : Sizes z y = sizes_stepped y z c.step_with.ensures.machine in
    record {
      left = omega (arith, c.run_straight-straight.ensures.left, c.loop-left.invariant.left);
      hart = after.hart ∙ before.hart ∙ c.loop-left.invariant.hart;
      reservations = after.reservations ∙ before.reservations ∙ c.loop-left.invariant.reservations;
      devices = after.devices ∙ before.devices ∙ c.loop-left.invariant.devices;
      gone = one_more_to c.args.watched c.args.marks.now (c.args.count - c.run_straight-straight.result.left) (c.args.count - (c.run_straight-straight.result.left - 1)) status old c.args.bus.now.dirty y c.run_straight-straight.new.bus.dirty z c.step_with.new.bus.dirty so_far
          (omega (arith, c.if-left-eq0.false, c.run_straight-straight.ensures.left, c.loop-left.invariant.left)) passed said (sym c.is_some.ensures ∙ c.if-is_some.false) c.step_with.ensures.machine c.step_with.ensures.dirty;
    }

pub returns-clause-ends : goal.returns-clause-ends
returns-clause-ends g c =
    (runs_on c.args.watched c.args.marks.now (c.args.count - c.loop-left.left) (c.args.count - 0) (machine c.args.self.now c.args.bus.now) c.args.bus.now.dirty (machine c.loop-left.self c.loop-left.bus) c.loop-left.bus.dirty
    c.loop-left.invariant.gone (omega (arith, c.loop-left-test.false))).ends
