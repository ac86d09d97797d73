use Rattle.std.proofs.Common.{◌≡◌, subst}
use Rattle.rvm_hart.specs.Machine.{HartState}
use Rattle.rvm_hart.specs.Fields.{with_number}
use Rattle.rvm_hart.proofs.Whole.{whole}
use Rattle.rvm_hart.proofs.hart.Hart.fields.Goals as goal

pub returns-clause-whole : goal.returns-clause-whole
returns-clause-whole c =
    let h = c.self.inside in
    let Whole : HartState → Type 0 =
    λ now. with_number now.csrs.hart (record { registers = c.behind_x0.result; pc = h.pc; csrs = c.fields.result }) ≡ now in
    subst Whole c.self.view_is
    (whole h.regs c.behind_x0.result h.pc h.csrs c.fields.result c.behind_x0.ensures.length c.self.invariant.1 c.behind_x0.ensures.registers c.fields.ensures.fields)
