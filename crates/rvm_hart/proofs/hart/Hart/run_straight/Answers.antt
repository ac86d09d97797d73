use Rattle.std.proofs.Common.{ℕ, ◌-◌, sym, ap, ◌∙◌, arith}
use Rattle.rvm_mem.specs.Pages.{mark_all}
use Rattle.rvm_hart.specs.Machine.{machine}
use Rattle.rvm_hart.specs.Straight.{Steps}
use Rattle.rvm_hart.proofs.Made.{made_for, next_for, no_steps, none_change, none_next, none_pass}
use Rattle.rvm_hart.proofs.hart.Hart.run_straight.Goals as goal

-- a halted board
pub returns-then-is_some-clause-machine : goal.returns-then-is_some-clause-machine
returns-then-is_some-clause-machine g c =
    ap (λ (s : Steps). s.machine) (sym (no_steps (c.args.count - c.args.count) (machine c.args.self.now c.args.bus.now) (omega arith)))

pub returns-then-is_some-clause-dirty : goal.returns-then-is_some-clause-dirty
returns-then-is_some-clause-dirty g c =
    ap (λ (s : Steps). mark_all s.pages c.args.bus.now.dirty) (sym (no_steps (c.args.count - c.args.count) (machine c.args.self.now c.args.bus.now) (omega arith)))

pub returns-then-is_some-clause-retired : goal.returns-then-is_some-clause-retired
returns-then-is_some-clause-retired g c =
    ap (λ (s : Steps). s.retired) (no_steps (c.args.count - c.args.count) (machine c.args.self.now c.args.bus.now) (omega arith))

pub returns-then-is_some-clause-pass : goal.returns-then-is_some-clause-pass
returns-then-is_some-clause-pass g c =
    none_pass c.args.watched c.args.marks.now (c.args.count - c.args.count) (machine c.args.self.now c.args.bus.now) (omega arith)

pub returns-then-is_some-clause-devices : goal.returns-then-is_some-clause-devices
returns-then-is_some-clause-devices g c =
    none_change (c.args.count - c.args.count) (machine c.args.self.now c.args.bus.now) (omega arith)

-- all steps that were made
pub returns-clause-machine : goal.returns-clause-machine
returns-clause-machine g c =
    let k : ℕ = c.quiet_steps-quiet.result - c.rows_straight-rows.result.left in
    (made_for c.args.watched c.args.marks.now (c.args.count - (c.args.count - k)) k c.quiet_steps-quiet.result c.halted.result (machine c.args.self.now c.args.bus.now) c.args.bus.now.dirty
    (machine c.rows_straight-rows.new.self c.rows_straight-rows.new.bus) (machine c.count_steps.new.self c.count_steps.new.bus) c.rows_straight-rows.new.bus.dirty c.count_steps.new.bus.dirty
    (omega (arith, c.quiet_steps-quiet.ensures.within)) (omega arith) c.halted.ensures (sym c.is_some.ensures ∙ c.if-is_some.false) c.quiet_steps-quiet.ensures.quiet
    c.rows_straight-rows.ensures.went c.count_steps.ensures.machine c.count_steps.ensures.dirty).left

pub returns-clause-dirty : goal.returns-clause-dirty
returns-clause-dirty g c =
    let k : ℕ = c.quiet_steps-quiet.result - c.rows_straight-rows.result.left in
    (made_for c.args.watched c.args.marks.now (c.args.count - (c.args.count - k)) k c.quiet_steps-quiet.result c.halted.result (machine c.args.self.now c.args.bus.now) c.args.bus.now.dirty
    (machine c.rows_straight-rows.new.self c.rows_straight-rows.new.bus) (machine c.count_steps.new.self c.count_steps.new.bus) c.rows_straight-rows.new.bus.dirty c.count_steps.new.bus.dirty
    (omega (arith, c.quiet_steps-quiet.ensures.within)) (omega arith) c.halted.ensures (sym c.is_some.ensures ∙ c.if-is_some.false) c.quiet_steps-quiet.ensures.quiet
    c.rows_straight-rows.ensures.went c.count_steps.ensures.machine c.count_steps.ensures.dirty).marked

pub returns-clause-retired : goal.returns-clause-retired
returns-clause-retired g c =
    let k : ℕ = c.quiet_steps-quiet.result - c.rows_straight-rows.result.left in
    (made_for c.args.watched c.args.marks.now (c.args.count - (c.args.count - k)) k c.quiet_steps-quiet.result c.halted.result (machine c.args.self.now c.args.bus.now) c.args.bus.now.dirty
    (machine c.rows_straight-rows.new.self c.rows_straight-rows.new.bus) (machine c.count_steps.new.self c.count_steps.new.bus) c.rows_straight-rows.new.bus.dirty c.count_steps.new.bus.dirty
    (omega (arith, c.quiet_steps-quiet.ensures.within)) (omega arith) c.halted.ensures (sym c.is_some.ensures ∙ c.if-is_some.false) c.quiet_steps-quiet.ensures.quiet
    c.rows_straight-rows.ensures.went c.count_steps.ensures.machine c.count_steps.ensures.dirty).retired

pub returns-clause-pass : goal.returns-clause-pass
returns-clause-pass g c =
    let k : ℕ = c.quiet_steps-quiet.result - c.rows_straight-rows.result.left in
    (made_for c.args.watched c.args.marks.now (c.args.count - (c.args.count - k)) k c.quiet_steps-quiet.result c.halted.result (machine c.args.self.now c.args.bus.now) c.args.bus.now.dirty
    (machine c.rows_straight-rows.new.self c.rows_straight-rows.new.bus) (machine c.count_steps.new.self c.count_steps.new.bus) c.rows_straight-rows.new.bus.dirty c.count_steps.new.bus.dirty
    (omega (arith, c.quiet_steps-quiet.ensures.within)) (omega arith) c.halted.ensures (sym c.is_some.ensures ∙ c.if-is_some.false) c.quiet_steps-quiet.ensures.quiet
    c.rows_straight-rows.ensures.went c.count_steps.ensures.machine c.count_steps.ensures.dirty).pass

pub returns-clause-devices : goal.returns-clause-devices
returns-clause-devices g c =
    let k : ℕ = c.quiet_steps-quiet.result - c.rows_straight-rows.result.left in
    (made_for c.args.watched c.args.marks.now (c.args.count - (c.args.count - k)) k c.quiet_steps-quiet.result c.halted.result (machine c.args.self.now c.args.bus.now) c.args.bus.now.dirty
    (machine c.rows_straight-rows.new.self c.rows_straight-rows.new.bus) (machine c.count_steps.new.self c.count_steps.new.bus) c.rows_straight-rows.new.bus.dirty c.count_steps.new.bus.dirty
    (omega (arith, c.quiet_steps-quiet.ensures.within)) (omega arith) c.halted.ensures (sym c.is_some.ensures ∙ c.if-is_some.false) c.quiet_steps-quiet.ensures.quiet
    c.rows_straight-rows.ensures.went c.count_steps.ensures.machine c.count_steps.ensures.dirty).stays

-- the word of the next step
pub returns-clause-next : goal.returns-clause-next
returns-clause-next g c =
    next_for c.rows_straight-rows.result.word c.rows_straight-rows.result.left c.quiet_steps-quiet.result c.halted.result (machine c.args.self.now c.args.bus.now) (machine c.rows_straight-rows.new.self c.rows_straight-rows.new.bus)
    (machine c.count_steps.new.self c.count_steps.new.bus) c.rows_straight-rows.ensures.word c.rows_straight-rows.ensures.some c.rows_straight-rows.ensures.left c.halted.ensures (sym c.is_some.ensures ∙ c.if-is_some.false)
    c.quiet_steps-quiet.ensures.quiet c.rows_straight-rows.ensures.csrs c.rows_straight-rows.ensures.devices c.count_steps.ensures.machine

pub returns-then-is_some-clause-next : goal.returns-then-is_some-clause-next
returns-then-is_some-clause-next g c = none_next (machine c.args.self.now c.args.bus.now)
