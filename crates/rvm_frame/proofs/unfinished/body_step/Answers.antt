use Rattle.std.proofs.Common.{arith, refl, sym, ap, ◌∙◌, ◌≡◌, ◌-◌, ◌+◌, Bool, None, Some, length}
use Rattle.rvm_frame.specs.Kinds.{header_len, names_hosts}
use Rattle.rvm_frame.specs.Verdict.{wanted}
use Rattle.rvm_frame.specs.Unfinished.{frame_behind}
use Rattle.rvm_frame.proofs.Parts.{body_short, body_whole, none_refused, some_given, some_lacks, taken_len}
use Rattle.rvm_frame.proofs.unfinished.body_step.Goals as goal

-- a body that is not whole yet
pub returns-then-len-want-clause-step : goal.returns-then-len-want-clause-step
returns-then-len-want-clause-step c =
    let v = c.args.version in
    let named = names_hosts v in
    let t = c.take_body-count.ensures in
    let full : c.header_len.result ≡ header_len named = c.header_len.ensures ∙ ap header_len c.names_hosts-named.ensures in
    let w : c.next_check.result ≡ wanted named c.args.head.now.items = c.next_check.ensures ∙ ap (λ (n : Bool). wanted n c.as_slice.result.now) c.names_hosts-named.ensures ∙ ap (wanted named) c.as_slice.ensures.value in
    body_short v c.args.head.now.items c.args.body.items c.args.piece.now c.take_body-count.new.body.items c.take_body-count.result (c.next_check.result - c.header_len.result) c.requires.kept.0 (omega (arith, w, full)) t.items (search (arith)) t.moves t.count c.requires.waits

pub returns-in-Ok-Some-clause-step : goal.returns-in-Ok-Some-clause-step
returns-in-Ok-Some-clause-step c =
    let v = c.args.version in
    let named = names_hosts v in
    let t = c.take_body-count.ensures in
    let all = c.take_body-count.new.body.items in
    let full : c.header_len.result ≡ header_len named = c.header_len.ensures ∙ ap header_len c.names_hosts-named.ensures in
    let w : c.next_check.result ≡ wanted named c.args.head.now.items = c.next_check.ensures ∙ ap (λ (n : Bool). wanted n c.as_slice.result.now) c.names_hosts-named.ensures ∙ ap (wanted named) c.as_slice.ensures.value in
    let l = taken_len c.args.body.items c.args.piece.now all c.take_body-count.result t.items t.count in
    let end : header_len named + length all ≡ wanted named c.args.head.now.items = omega (arith, w, full, l, t.fits, c.len.ensures, c.if-len-want.false, c.requires.room) in
    let d = body_whole v c.args.head.now.items c.args.body.items c.args.piece.now all c.as_slice-2.result.now c.as_slice-3.result.now c.take_body-count.result c.as_slice-2.ensures.value c.as_slice-3.ensures.value c.requires.kept.0 t.items end t.moves t.count c.requires.waits in
    let made : frame_behind c.names_hosts-named.result c.as_slice-2.result.now c.as_slice-3.result.now ≡ Some c.in-Ok-Some.received = sym (rw (← c.in-Ok-Some.field-0-is) c.in-Ok-Some.ensures.value) in
    some_given v _ c.args.piece.now c.take_body-count.result (frame_behind named c.as_slice-2.result.now c.as_slice-3.result.now) c.in-Ok-Some.received (rw c.names_hosts-named.ensures at made) d

pub returns-in-Ok-None-clause-step : goal.returns-in-Ok-None-clause-step
returns-in-Ok-None-clause-step c =
    let v = c.args.version in
    let named = names_hosts v in
    let t = c.take_body-count.ensures in
    let all = c.take_body-count.new.body.items in
    let full : c.header_len.result ≡ header_len named = c.header_len.ensures ∙ ap header_len c.names_hosts-named.ensures in
    let w : c.next_check.result ≡ wanted named c.args.head.now.items = c.next_check.ensures ∙ ap (λ (n : Bool). wanted n c.as_slice.result.now) c.names_hosts-named.ensures ∙ ap (wanted named) c.as_slice.ensures.value in
    let l = taken_len c.args.body.items c.args.piece.now all c.take_body-count.result t.items t.count in
    let end : header_len named + length all ≡ wanted named c.args.head.now.items = omega (arith, w, full, l, t.fits, c.len.ensures, c.if-len-want.false, c.requires.room) in
    let d = body_whole v c.args.head.now.items c.args.body.items c.args.piece.now all c.as_slice-2.result.now c.as_slice-3.result.now c.take_body-count.result c.as_slice-2.ensures.value c.as_slice-3.ensures.value c.requires.kept.0 t.items end t.moves t.count c.requires.waits in
    let made : frame_behind c.names_hosts-named.result c.as_slice-2.result.now c.as_slice-3.result.now ≡ None = sym (rw (← c.in-Ok-None.field-0-is) c.in-Ok-None.ensures.value) in
    none_refused v _ c.args.piece.now c.take_body-count.result (frame_behind named c.as_slice-2.result.now c.as_slice-3.result.now) (rw (rw c.names_hosts-named.ensures at made) refl) d

pub returns-in-Err-clause-step : goal.returns-in-Err-clause-step
returns-in-Err-clause-step c =
    let v = c.args.version in
    let named = names_hosts v in
    let t = c.take_body-count.ensures in
    let all = c.take_body-count.new.body.items in
    let full : c.header_len.result ≡ header_len named = c.header_len.ensures ∙ ap header_len c.names_hosts-named.ensures in
    let w : c.next_check.result ≡ wanted named c.args.head.now.items = c.next_check.ensures ∙ ap (λ (n : Bool). wanted n c.as_slice.result.now) c.names_hosts-named.ensures ∙ ap (wanted named) c.as_slice.ensures.value in
    let l = taken_len c.args.body.items c.args.piece.now all c.take_body-count.result t.items t.count in
    let end : header_len named + length all ≡ wanted named c.args.head.now.items = omega (arith, w, full, l, t.fits, c.len.ensures, c.if-len-want.false, c.requires.room) in
    let d = body_whole v c.args.head.now.items c.args.body.items c.args.piece.now all c.as_slice-2.result.now c.as_slice-3.result.now c.take_body-count.result c.as_slice-2.ensures.value c.as_slice-3.ensures.value c.requires.kept.0 t.items end t.moves t.count c.requires.waits in
    some_lacks v _ c.args.piece.now c.take_body-count.result (frame_behind named c.as_slice-2.result.now c.as_slice-3.result.now) (rw c.names_hosts-named.ensures at c.in-Err.ensures.memory) d
