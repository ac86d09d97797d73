use Rattle.std.proofs.Common.{length, ap, subst, sym, ◌∙◌, arith}
use Rattle.rvm_guest.specs.Body.{build}
use Rattle.rvm_guest.specs.Pages.{pages_in}
use Rattle.rvm_handover.specs.Outcomes.{IsFault}
use Rattle.rvm_handover.specs.Stages.{PlainStage}
use Rattle.rvm_handover.proofs.Built.{fault_is, made, other_harts}
use Rattle.rvm_handover.proofs.staging.Staging.make_guest.Goals as goal

pub returns-then-first_of-self-clause-fault : goal.returns-then-first_of-self-clause-fault
returns-then-first_of-self-clause-fault g c =
    let size = c.pages-size.ensures in
    other_harts c.args.self.harts c.args.bytes.now c.args.self.bytes (omega (arith, size.bytes)) (omega (arith, size.bytes, size.some)) (λ i. omega (arith, c.type_inv.bytes i))
    (λ same. c.if-first_of-self.true (c.first_of.ensures ∙ same ∙ sym (ap (λ (s : PlainStage). s.harts) c.self.view_is)))

pub returns-in-Ok-clause-made : goal.returns-in-Ok-clause-made
returns-in-Ok-clause-made g c =
    let size = c.pages-size.ensures in
    let sized = ap (λ (s : PlainStage). length s.bytes) c.self.view_is ∙ size.bytes in
    sym (ap (λ (s : PlainStage). build s.harts c.args.bytes.now (pages_in s.bytes)) c.self.view_is)
    ∙ made c.self.inside.harts c.args.bytes.now (g.M.Memory.bytes c.self.inside.memory) c.in-Ok.guest.guest (omega (arith, sized)) (sym c.first_of.ensures ∙ c.if-first_of-self.false) c.in-Ok.ensures.found

pub returns-in-Err-clause-fault : goal.returns-in-Err-clause-fault
returns-in-Err-clause-fault g c =
    let size = c.pages-size.ensures in
    let sized = ap (λ (s : PlainStage). length s.bytes) c.self.view_is ∙ size.bytes in
    subst (λ (s : PlainStage). IsFault c.in-Err.fault (build s.harts c.args.bytes.now (pages_in s.bytes))) c.self.view_is
    (fault_is c.in-Err.fault c.self.inside.harts c.args.bytes.now (g.M.Memory.bytes c.self.inside.memory) (omega (arith, sized)) (omega (arith, sized, size.some)) (λ i. omega (arith, c.type_inv.bytes i))
    (sym c.first_of.ensures ∙ c.if-first_of-self.false) c.in-Err.ensures.bad c.in-Err.ensures.memory)
