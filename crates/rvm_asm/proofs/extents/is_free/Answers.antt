use Rattle.std.proofs.Common.{◌≤◌, ◌<◌, ◌∙◌, sym, arith}
use Rattle.std.proofs.lemmas.Bool.Decides.{nat_tests}
use Rattle.rvm_asm.proofs.Placed.{last_ends, last_extent, last_takes, none_up_to}
use Rattle.rvm_asm.proofs.extents.is_free.Goals as goal

pub returns-in-Some-clause-free : goal.returns-in-Some-clause-free
returns-in-Some-clause-free c = λ bytes lines count held some end yes.
    let ends : c.in-Some.extent.now.last < c.args.address = grind (arith, nat_tests, yes) in
    let steps = sym (c.range.ensures.between tt) ∙ c.in-Some.ensures.steps in
    let is = last_extent bytes lines c.args.last c.args.extents.now.entries _ _ held.each steps in
    last_ends bytes 0 c.args.last c.args.address count c.args.extents.now.entries _ _ held.ordered steps (omega (arith, end)) (omega (arith, ends, is.1))

pub returns-in-Some-clause-taken : goal.returns-in-Some-clause-taken
returns-in-Some-clause-taken c = λ bytes lines count held some end no.
    let past : c.args.address ≤ c.in-Some.extent.now.last = grind (arith, nat_tests, no) in
    let steps = sym (c.range.ensures.between tt) ∙ c.in-Some.ensures.steps in
    let is = last_extent bytes lines c.args.last c.args.extents.now.entries _ _ held.each steps in
    last_takes bytes 0 c.args.last c.args.address count c.args.extents.now.entries _ _ held.ordered steps some (omega (arith, end)) (omega (arith, past, is.1))

pub returns-in-None-clause-free : goal.returns-in-None-clause-free
returns-in-None-clause-free c = λ bytes lines count held some end yes.
    none_up_to bytes c.args.last c.args.address count c.args.extents.now.entries (sym (c.range.ensures.between tt) ∙ c.in-None.ensures.steps.0) (omega (arith, end))
