use Rattle.std.proofs.Common.{◌≡◌, ◌+◌, ◌<◌, ◌++◌, sym, ap, refl, ◌∙◌, ⊎_elim, arith, length, length-append}
use Rattle.std.specs.Prelude.{vec_len}
use Rattle.std.proofs.lemmas.Bool.{false≢true}
use Rattle.std.proofs.str.Laws.{order}
use Rattle.rvm_asm.proofs.Bytes.{longest_is, append_last, append_new}
use Rattle.rvm_asm.proofs.Order.{last_zeros, end_last, ends_at, first_ordered, longer_ordered, next_ordered}
use Rattle.rvm_asm.proofs.segments.append.Goals as goal

pub returns-in_default-clause-ordered : goal.returns-in_default-clause-ordered
returns-in_default-clause-ordered c = λ gap g o.
    let none : length c.args.segments.now.items ≡ 0 =
    ⊎_elim (λ h. absurd (false≢true (c.in_default.ensures.variant.1 h))) (λ h. omega (arith, h, c.args.segments.now.ok.0)) (order 0 (vec_len c.args.segments.now)) in
    first_ordered gap c.args.segments.now.items c.pop.new.self.items c.push.new.segments.items (record { address = c.args.address; bytes = c.args.bytes; zeros = 0 }) c.in_default.ensures.items none c.in_ok-push.ensures c.requires.some refl

pub returns-in_default-clause-ends : goal.returns-in_default-clause-ends
returns-in_default-clause-ends c = ends_at c.push.new.segments.items c.pop.new.self.items (record { address = c.args.address; bytes = c.args.bytes; zeros = 0 }) c.args.address c.args.bytes.items c.in_ok-push.ensures refl

pub returns-in_ok-push-2-clause-joined : goal.returns-in_ok-push-2-clause-joined
returns-in_ok-push-2-clause-joined c =
    let z = last_zeros 0 c.args.segments.now.items c.pop.new.self.items c.in-Some.last c.in-Some.ensures.items c.requires.ordered in
    let more : c.in_ok-last.last.bytes.items ≡ c.in-Some.last.bytes.items ++ c.args.bytes.items = rw c.deref-then-end-from.ensures.value at c.in_ok-last.ensures.bytes in
    append_last c.args.segments.now.items c.pop.new.self.items c.push-then-end-from.new.self.items c.in-Some.last c.in_ok-last.last c.args.address c.args.bytes.items c.in-Some.ensures.items c.in_ok-push-2.ensures.items
    (longest_is c.in-Some.last c.in_ok-last.last c.args.bytes.items c.in_ok-last.ensures.address more c.in_ok-last.ensures.zeros z) z
    (omega (arith, c.if-end-from.true, c.end.ensures, c.deref.ensures.len, c.from.ensures, z))

pub returns-in_ok-push-2-clause-ordered : goal.returns-in_ok-push-2-clause-ordered
returns-in_ok-push-2-clause-ordered c = λ gap g o.
    let z = last_zeros 0 c.args.segments.now.items c.pop.new.self.items c.in-Some.last c.in-Some.ensures.items c.requires.ordered in
    let more : c.in_ok-last.last.bytes.items ≡ c.in-Some.last.bytes.items ++ c.args.bytes.items = rw c.deref-then-end-from.ensures.value at c.in_ok-last.ensures.bytes in
    longer_ordered gap c.args.segments.now.items c.pop.new.self.items c.push-then-end-from.new.self.items c.in-Some.last c.in_ok-last.last c.args.bytes.items c.in-Some.ensures.items c.in_ok-push-2.ensures.items
    (longest_is c.in-Some.last c.in_ok-last.last c.args.bytes.items c.in_ok-last.ensures.address more c.in_ok-last.ensures.zeros z) o

pub returns-in_ok-push-2-clause-ends : goal.returns-in_ok-push-2-clause-ends
returns-in_ok-push-2-clause-ends c =
    let z = last_zeros 0 c.args.segments.now.items c.pop.new.self.items c.in-Some.last c.in-Some.ensures.items c.requires.ordered in
    let more : c.in_ok-last.last.bytes.items ≡ c.in-Some.last.bytes.items ++ c.args.bytes.items = rw c.deref-then-end-from.ensures.value at c.in_ok-last.ensures.bytes in
    let long : length c.in_ok-last.last.bytes.items ≡ length c.in-Some.last.bytes.items + length c.args.bytes.items = ap length more ∙ length-append c.in-Some.last.bytes.items c.args.bytes.items in
    ends_at c.push-then-end-from.new.self.items c.pop.new.self.items c.in_ok-last.last c.args.address c.args.bytes.items c.in_ok-push-2.ensures.items
    (omega (arith, c.if-end-from.true, c.end.ensures, c.deref.ensures.len, c.from.ensures, z, long, c.in_ok-last.ensures.address))

pub returns-in_ok-push-4-clause-joined : goal.returns-in_ok-push-4-clause-joined
returns-in_ok-push-4-clause-joined c =
    append_new c.args.segments.now.items c.push-else-end-from.new.self.items c.push-else-end-from-2.new.segments.items (record { address = c.args.address; bytes = c.args.bytes; zeros = 0 }) (c.in-Some.ensures.items ∙ sym c.in_ok-push-3.ensures.items) c.in_ok-push-4.ensures

pub returns-in_ok-push-4-clause-ordered : goal.returns-in_ok-push-4-clause-ordered
returns-in_ok-push-4-clause-ordered c = λ gap g o.
    let z = last_zeros 0 c.args.segments.now.items c.pop.new.self.items c.in-Some.last c.in-Some.ensures.items c.requires.ordered in
    let here = end_last 0 c.args.segments.now.items c.pop.new.self.items c.in-Some.last c.in-Some.ensures.items in
    let apart : c.in-Some.last.address + length c.in-Some.last.bytes.items < c.args.address = omega (arith, here, z, c.requires.behind, c.if-end-from.false, c.end.ensures, c.deref.ensures.len, c.from.ensures) in
    next_ordered gap c.args.segments.now.items c.push-else-end-from.new.self.items c.push-else-end-from-2.new.segments.items (record { address = c.args.address; bytes = c.args.bytes; zeros = 0 }) (c.in-Some.ensures.items ∙ sym c.in_ok-push-3.ensures.items) c.in_ok-push-4.ensures
    (omega (arith, g, apart, end_last gap c.args.segments.now.items c.pop.new.self.items c.in-Some.last c.in-Some.ensures.items)) c.requires.some refl o

pub returns-in_ok-push-4-clause-ends : goal.returns-in_ok-push-4-clause-ends
returns-in_ok-push-4-clause-ends c = ends_at c.push-else-end-from-2.new.segments.items c.push-else-end-from.new.self.items (record { address = c.args.address; bytes = c.args.bytes; zeros = 0 }) c.args.address c.args.bytes.items c.in_ok-push-4.ensures refl
