use Rattle.std.proofs.Common.{◌∙◌, sym, length, ap, arith}
use Rattle.rvm_audit.proofs.Commands.{next_event, next_placed, nothing_behind}
use Rattle.rvm_audit.proofs.placed.Events.next.Goals as goal

pub loop-placed-init : goal.loop-placed-init
loop-placed-init c = c.self.view_is

pub returns-in-Some-event_at : goal.returns-in-Some-event_at
returns-in-Some-event_at c =
    let l = c.loop-placed.self-inside in
    sym c.loop-placed.invariant
    ∙ next_event c.in-Some.placed.now c.in-Some.rest.now l.items.now l.skipped c.in-Some-event_at.event c.in-Some.ensures.cases.0
    (sym c.in-Some-event_at.is ∙ c.event_at.ensures.event)

pub loop-placed-smaller : goal.loop-placed-smaller
loop-placed-smaller c = let is = ap length c.in-Some.ensures.cases.0 in omega (arith, is)

pub loop-placed-preserved : goal.loop-placed-preserved
loop-placed-preserved c =
    let l = c.loop-placed.self-inside in
    next_placed c.in-Some.placed.now c.in-Some.rest.now l.items.now l.skipped c.in-Some.ensures.cases.0
    (sym c.in_default-event_at.is ∙ c.event_at.ensures.event)
    ∙ c.loop-placed.invariant

pub returns : goal.returns
returns c =
    let l = c.loop-placed.self-inside in
    sym c.loop-placed.invariant ∙ nothing_behind l.items.now l.skipped c.in_default.ensures.cases
