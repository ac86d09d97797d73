use Rattle.std.proofs.Common.{ℕ, ◌+◌, ◌%◌, ◌^◌, ap, ◌∙◌, arith}
use Rattle.rvm_csr.specs.Registers.{CsrState}
use Rattle.rvm_hart.specs.Machine.{BusState, HartState, Machine, machine}
use Rattle.rvm_hart.specs.Straight.{timed_after}
use Rattle.rvm_hart.proofs.Made.{counts}
use Rattle.rvm_hart.proofs.hart.Hart.count_steps.Goals as goal

pub returns-clause-machine : goal.returns-clause-machine
returns-clause-machine g c =
    let s : CsrState = c.self.inside.csrs in
    let k : ℕ = c.args.steps in
    let at : CsrState → BusState → Machine = λ x b. machine (record { regs = c.self.inside.regs; pc = c.self.inside.pc; csrs = x }) b in
    ap (λ (x : CsrState). at x c.tick_many-2.new.self) c.tick_many.ensures
    ∙ ap (λ (b : BusState). at (record s { mcycle = (s.mcycle + k) % 2 ^ 64; minstret = (s.minstret + k) % 2 ^ 64 }) b) c.tick_many-2.ensures
    ∙ counts k (at s c.args.bus.now) (omega arith)
    ∙ ap (λ (h : HartState). timed_after k (machine h c.args.bus.now) (machine h c.args.bus.now)) c.self.view_is
