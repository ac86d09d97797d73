use Rattle.std.proofs.Common.{sym, ap, ◌∙◌, ◌≡◌, subst, ◌++◌, Ok, None}
use Rattle.rvm_frame.specs.declared.unfinished.Store.{Store}
use Rattle.rvm_frame.specs.declared.unfinished.Store.TheVariants as stores
use Rattle.rvm_frame.specs.Kinds.{names_hosts}
use Rattle.rvm_frame.specs.Verdict.{verdict}
use Rattle.rvm_frame.specs.Unfinished.{Beginning, Kept, stored}
use Rattle.rvm_frame.proofs.Parts.{body_lacks, page_lacks}
use Rattle.rvm_frame.proofs.unfinished.Unfinished.step.Goals as goal

pub page_step-requires-clause-room : goal.page_step-requires-clause-room
page_step-requires-clause-room c =
    let v = c.self.inside.version in
    let head = c.self.inside.head.items in
    let is : c.self.inside.store ≡ stores.Page c.in-Page.part = sym c.replace.ensures.value ∙ c.in-Page.is in
    let k = subst (λ (s : Store). Kept (names_hosts v) head s) is c.self.invariant in
    let w = ap (λ (s : Store). verdict v (head ++ stored s)) (sym is) ∙ (subst (λ (b : Beginning). verdict b.version b.bytes ≡ Ok None) (sym c.self.view_is) c.requires.waits) in
    page_lacks v head c.in-Page.part k w

pub body_step-requires-clause-room : goal.body_step-requires-clause-room
body_step-requires-clause-room c =
    let v = c.self.inside.version in
    let head = c.self.inside.head.items in
    let is : c.self.inside.store ≡ stores.Other c.in-Other.body = sym c.replace.ensures.value ∙ c.in-Other.is in
    let k = subst (λ (s : Store). Kept (names_hosts v) head s) is c.self.invariant in
    let w = ap (λ (s : Store). verdict v (head ++ stored s)) (sym is) ∙ (subst (λ (b : Beginning). verdict b.version b.bytes ≡ Ok None) (sym c.self.view_is) c.requires.waits) in
    body_lacks v head c.in-Other.body.items k.0 w
