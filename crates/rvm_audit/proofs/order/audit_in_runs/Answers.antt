use Rattle.std.proofs.Common.{◌≡◌, ◌<◌, arith, inl, inr, length}
use Rattle.std.specs.Prelude.{◌⊎◌}
use Rattle.rvm_audit.specs.Parts.{IsOf, taken}
use Rattle.rvm_audit.proofs.Two.{are_of, is_dead_end, is_merge, looked_at, no_order_at}
use Rattle.rvm_audit.proofs.order.audit_in_runs.Goals as goal
use Rattle.rvm_audit.proofs.order.audit_in_runs.Goals.{then-i-count-via-then-i-count, then-i-count-via-else-i-count+then-j-count}

pub returns-then-i-count-clause-none : goal.returns-then-i-count-clause-none
returns-then-i-count-clause-none g c =
    let a = c.args.first.now in
    let b = c.args.second.now in
    let places = c.in_ok-ended.ended.places.items in
    let long : length places ≡ 2 = c.in_ok-ended.ensures.long in
    let is = looked_at places 0 c.index.result.now c.index.ensures (omega (arith, long)) in
    let js = looked_at places 1 c.index-2.result.now c.index-2.ensures (omega (arith, long)) in
    let first : IsOf a.opening a.entries c.of.result = record { version_is = c.of.ensures.version; entries_are = c.of.ensures.entries; replay = c.of.ensures.replay } in
    let second : IsOf b.opening b.entries c.of-2.result = record { version_is = c.of-2.ensures.version; entries_are = c.of-2.ensures.entries; replay = c.of-2.ensures.replay } in
    let ended = c.in_ok-ended.ensures.end _ (are_of a b c.of.result c.of-2.result first second) in
    let more : (taken places 0 < length a.entries) ⊎ (taken places 1 < length b.entries) = elim c.then-i-count.branch [
      | then-i-count-via-then-i-count w ↦ inl (omega (arith, is, w.if-i-count.true, c.count.ensures))
      | then-i-count-via-else-i-count+then-j-count w ↦ inr (omega (arith, js, w.if-j-count.true, w.count-else-i-count.ensures))
    ] in
    no_order_at a b places c.index.result.now.entries c.index-2.result.now.entries long is js
    (is_dead_end a b places c.in_ok-ended.ended.order ended more)

pub returns-clause-merge : goal.returns-clause-merge
returns-clause-merge g c =
    let a = c.args.first.now in
    let b = c.args.second.now in
    let places = c.in_ok-ended.ended.places.items in
    let long : length places ≡ 2 = c.in_ok-ended.ensures.long in
    let is = looked_at places 0 c.index.result.now c.index.ensures (omega (arith, long)) in
    let js = looked_at places 1 c.index-2.result.now c.index-2.ensures (omega (arith, long)) in
    let first : IsOf a.opening a.entries c.of.result = record { version_is = c.of.ensures.version; entries_are = c.of.ensures.entries; replay = c.of.ensures.replay } in
    let second : IsOf b.opening b.entries c.of-2.result = record { version_is = c.of-2.ensures.version; entries_are = c.of-2.ensures.entries; replay = c.of-2.ensures.replay } in
    is_merge a b places c.in_ok-ended.ended.order
    (c.in_ok-ended.ensures.end _ (are_of a b c.of.result c.of-2.result first second))
    (omega (arith, is, c.if-i-count.false, c.count.ensures))
    (omega (arith, js, c.if-j-count.false, c.count-else-i-count.ensures))
