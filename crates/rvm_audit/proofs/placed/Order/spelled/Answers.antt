use Rattle.std.proofs.Common.{◌∙◌, ◌∷◌, ◌++◌, [], append_assoc, append-nil, ap, arith, length, sym}
use Rattle.rvm_audit.proofs.placed.Order.spelled.Goals as goal

pub loop-event-init : goal.loop-event-init
loop-event-init c = ap (λ es. es ++ c.events-left.result) c.in_ok-events.ensures.items ∙ c.events-left.ensures

pub loop-event-smaller : goal.loop-event-smaller
loop-event-smaller c = let is = ap length c.in-Some.ensures in omega (arith, is)

pub loop-event-preserved : goal.loop-event-preserved
loop-event-preserved c =
    let so_far = c.loop-event.events.items in
    ap (λ es. es ++ c.next.new.self) c.in_ok-push.ensures.items ∙ append_assoc so_far (c.in-Some.event ∷ []) c.next.new.self
    ∙ ap (λ es. so_far ++ es) (sym c.in-Some.ensures) ∙ c.loop-event.invariant

pub returns : goal.returns
returns c =
    let so_far = c.loop-event.events.items in
    sym (append-nil so_far) ∙ ap (λ es. so_far ++ es) (sym c.in_default.ensures) ∙ c.loop-event.invariant
