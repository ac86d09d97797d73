use Rattle.std.proofs.Common.{ℕ, ap, ◌∙◌, arith}
use Rattle.rvm_csr.specs.Registers.{CsrState}
use Rattle.rvm_hart.specs.Machine.{HartState}
use Rattle.rvm_hart.specs.Frozen.{risen_by}
use Rattle.rvm_hart.proofs.Strides.{rises}
use Rattle.rvm_hart.proofs.hart.Hart.rise.Goals as goal

pub returns : goal.returns
returns c =
    let k : ℕ = c.args.steps in
    let at : CsrState → HartState = λ x. record { regs = c.self.inside.regs; pc = c.self.inside.pc; csrs = x } in
    ap at c.tick_many.ensures ∙ rises k (at c.self.inside.csrs) (omega arith) ∙ ap (λ (h : HartState). risen_by k h) c.self.view_is
