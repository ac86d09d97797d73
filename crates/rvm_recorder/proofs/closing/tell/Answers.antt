use Rattle.std.proofs.Common.{◌+◌, ◌∙◌, ap, sym, arith, Some}
use Rattle.rvm_recorder.specs.Told.{told_entry}
use Rattle.rvm_recorder.proofs.Tellings.{after_skip, one_told, tells_all, tells_all_left, tells_another, tells_until}
use Rattle.rvm_recorder.proofs.closing.tell.Goals as goal

pub returns-then-told-len : goal.returns-then-told-len
returns-then-told-len c =
    let now = c.skip-told in
    let k = c.loop-told.told + now.result in
    let so = after_skip c.args.item.now c.args.left.now c.loop-told.left now.new.left c.args.until c.loop-told.told now.result c.loop-told.invariant now.ensures in
    tells_all c.args.item.now c.args.left.now now.new.left c.args.until k so (omega (arith, c.if-told-len.true, c.len-len.ensures.count))

pub returns-then-is_at : goal.returns-then-is_at
returns-then-is_at c =
    let now = c.skip-told in
    let k = c.loop-told.told + now.result in
    let so = after_skip c.args.item.now c.args.left.now c.loop-told.left now.new.left c.args.until c.loop-told.told now.result c.loop-told.invariant now.ensures in
    let few = so.few in
    tells_until c.args.item.now c.args.left.now now.new.left c.args.until k so now.new.left
    (omega (arith, few, c.if-told-len.false, c.len-len.ensures.count))
    (c.is_at.ensures.yes c.if-is_at.true ∙ ap (λ p. Some (p + k)) c.place-place.ensures)

pub returns-in_default : goal.returns-in_default
returns-in_default c =
    let now = c.skip-told in
    let k = c.loop-told.told + now.result in
    let so = after_skip c.args.item.now c.args.left.now c.loop-told.left now.new.left c.args.until c.loop-told.told now.result c.loop-told.invariant now.ensures in
    let few = so.few in
    tells_all_left c.args.item.now c.args.left.now now.new.left c.args.until k so c.next.new.self
    (omega (arith, few, c.if-told-len.false, c.len-len.ensures.count)) c.in_default.ensures

pub returns-then-not-is_of : goal.returns-then-not-is_of
returns-then-not-is_of c =
    let now = c.skip-told in
    let k = c.loop-told.told + now.result in
    let so = after_skip c.args.item.now c.args.left.now c.loop-told.left now.new.left c.args.until c.loop-told.told now.result c.loop-told.invariant now.ensures in
    let few = so.few in
    tells_another c.args.item.now c.args.left.now now.new.left c.args.until k so (told_entry c.in-Some.entry) c.next.new.self c.next.new.self
    (omega (arith, few, c.if-told-len.false, c.len-len.ensures.count)) c.in-Some.ensures (c.is_of.ensures.no c.if-not-is_of.true)

pub loop-told-preserved : goal.loop-told-preserved
loop-told-preserved c =
    let now = c.skip-told in
    let k = c.loop-told.told + now.result in
    let so = after_skip c.args.item.now c.args.left.now c.loop-told.left now.new.left c.args.until c.loop-told.told now.result c.loop-told.invariant now.ensures in
    let few = so.few in
    one_told c.args.item.now c.args.left.now now.new.left c.args.until k so (told_entry c.in-Some.entry) c.next.new.self
    (omega (arith, few, c.if-told-len.false, c.len-len.ensures.count)) c.in-Some.ensures (c.is_of.ensures.yes c.if-not-is_of.false)
    (λ is. c.is_at.ensures.no c.if-is_at.false (is ∙ ap (λ p. Some (p + k)) (sym c.place-place.ensures)))
