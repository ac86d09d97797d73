use Rattle.std.proofs.Common.{◌≡◌, ◌∙◌, ap, arith, Bool}
use Rattle.rvm_frame.specs.Kinds.{names_hosts}
use Rattle.rvm_frame.specs.Verdict.{wanted}
use Rattle.rvm_frame.proofs.Gather.{behind_head, rest_is}
use Rattle.rvm_frame.proofs.Parts.{Judged, judged_fault, judged_frame, judged_open}
use Rattle.rvm_frame.proofs.unfinished.header_step.Goals as goal

pub returns-in-Ok-Some-clause-step : goal.returns-in-Ok-Some-clause-step
returns-in-Ok-Some-clause-step c =
    let v = c.args.version in
    let head = c.args.head.now.items in
    let piece = c.args.piece.now in
    let n = c.take_head-count.result in
    let t = c.take_head-count.ensures in
    let limit : c.head_limit-limit.result ≡ wanted (names_hosts v) head = c.head_limit-limit.ensures.value ∙ ap (λ (b : Bool). wanted b c.as_slice.result.now) c.names_hosts-named.ensures ∙ ap (wanted (names_hosts v)) c.as_slice.ensures.value in
    let seen = c.as_slice-2.result.now in
    let j : Judged v head piece seen n = record { waits = c.requires.waits; some = t.moves; within_piece = t.count; within_check = omega (arith, t.fits, limit); seen_is = c.as_slice-2.ensures.value ∙ t.items } in
    judged_frame v head piece seen n c.in-Ok-Some.received j (rw c.in-Ok-Some.field-0-is at c.in-Ok-Some.ensures)

pub returns-in-Err-clause-step : goal.returns-in-Err-clause-step
returns-in-Err-clause-step c =
    let v = c.args.version in
    let head = c.args.head.now.items in
    let piece = c.args.piece.now in
    let n = c.take_head-count.result in
    let t = c.take_head-count.ensures in
    let limit : c.head_limit-limit.result ≡ wanted (names_hosts v) head = c.head_limit-limit.ensures.value ∙ ap (λ (b : Bool). wanted b c.as_slice.result.now) c.names_hosts-named.ensures ∙ ap (wanted (names_hosts v)) c.as_slice.ensures.value in
    let seen = c.as_slice-2.result.now in
    let j : Judged v head piece seen n = record { waits = c.requires.waits; some = t.moves; within_piece = t.count; within_check = omega (arith, t.fits, limit); seen_is = c.as_slice-2.ensures.value ∙ t.items } in
    judged_fault v head piece seen n c.in-Err.fault j c.in-Err.ensures

pub returns-in-Err-open_store-clause-step : goal.returns-in-Err-open_store-clause-step
returns-in-Err-open_store-clause-step c =
    let v = c.args.version in
    let head = c.args.head.now.items in
    let piece = c.args.piece.now in
    let n = c.take_head-count.result in
    let t = c.take_head-count.ensures in
    let limit : c.head_limit-limit.result ≡ wanted (names_hosts v) head = c.head_limit-limit.ensures.value ∙ ap (λ (b : Bool). wanted b c.as_slice.result.now) c.names_hosts-named.ensures ∙ ap (wanted (names_hosts v)) c.as_slice.ensures.value in
    let seen = c.as_slice-2.result.now in
    let j : Judged v head piece seen n = record { waits = c.requires.waits; some = t.moves; within_piece = t.count; within_check = omega (arith, t.fits, limit); seen_is = c.as_slice-2.ensures.value ∙ t.items } in
    behind_head v head piece c.as_slice-in-Err-open_store.result.now _ n c.without_memory-fault.result (judged_open v head piece seen n j (rw c.in-Ok-None.field-0-is at c.in-Ok-None.ensures)) (c.as_slice-in-Err-open_store.ensures.value ∙ t.items) (rest_is n piece) c.without_memory-fault.ensures

pub returns-clause-step : goal.returns-clause-step
returns-clause-step c =
    let v = c.args.version in
    let head = c.args.head.now.items in
    let piece = c.args.piece.now in
    let n = c.take_head-count.result in
    let t = c.take_head-count.ensures in
    let limit : c.head_limit-limit.result ≡ wanted (names_hosts v) head = c.head_limit-limit.ensures.value ∙ ap (λ (b : Bool). wanted b c.as_slice.result.now) c.names_hosts-named.ensures ∙ ap (wanted (names_hosts v)) c.as_slice.ensures.value in
    let seen = c.as_slice-2.result.now in
    let j : Judged v head piece seen n = record { waits = c.requires.waits; some = t.moves; within_piece = t.count; within_check = omega (arith, t.fits, limit); seen_is = c.as_slice-2.ensures.value ∙ t.items } in
    judged_open v head piece seen n j (rw c.in-Ok-None.field-0-is at c.in-Ok-None.ensures)
