use Rattle.std.proofs.Common.{subst, sym}
use Rattle.rvm_audit.specs.Parts.{AreSized}
use Rattle.rvm_audit.specs.ListOrders.{journals_of}
use Rattle.rvm_audit.proofs.Outlined.{all_sized, parts_are}
use Rattle.rvm_audit.specs.Outlines.{outlines_in}
use Rattle.rvm_audit.proofs.outline.pass_outlines.Goals as goal

pub pass_all-requires-clause-sized : goal.pass_all-requires-clause-sized
pass_all-requires-clause-sized c =
    subst AreSized (sym c.as_slice.ensures.value)
    (all_sized (outlines_in c.args.outlines.now) c.in_ok-parts.parts.items c.in_ok-parts.ensures.each)

pub returns-clause-end : goal.returns-clause-end
returns-clause-end c = λ hs are.
    c.in_ok-places.ensures.end (journals_of hs)
    (parts_are hs c.args.outlines.now are c.in_ok-parts.parts.items c.as_slice.result.now c.in_ok-parts.ensures.long
    c.in_ok-parts.ensures.each c.as_slice.ensures.value)
