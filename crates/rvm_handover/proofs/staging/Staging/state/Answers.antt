use Rattle.std.proofs.Common.{◌≡◌, true, ◌<◌, ◌*◌, length, get_or, List, ℕ, Option, None, ap, sym, subst, ◌∙◌, arith}
use Rattle.std.proofs.lemmas.Bool.{eqb-false, eqb-true}
use Rattle.rvm_frame.specs.Bodies.{lost}
use Rattle.rvm_protocol.specs.Pages.{members}
use Rattle.rvm_protocol.specs.Receiving.{guest_read}
use Rattle.rvm_board.specs.Guest.{Guest}
use Rattle.rvm_guest.specs.Body.{build}
use Rattle.rvm_guest.specs.Pages.{pages_in}
use Rattle.rvm_guest.specs.TheGuest.{board}
use Rattle.rvm_handover.specs.Stages.{PlainStage, is_older, stage_of}
use Rattle.rvm_handover.proofs.States.{lack_is_good, left_so, none_lack, other_count, some_lack}
use Rattle.rvm_handover.proofs.Told.{told_fault}
use Rattle.rvm_handover.proofs.staging.Staging.state.Goals as goal

-- the pages whose copies are missing, by the numbers of the copies that are here
lacking : List ℕ → List ℕ → List ℕ
lacking numbers have = members (is_older have numbers) 0 (length have)

pub returns-then-numbers-pages-clause-left : goal.returns-then-numbers-pages-clause-left
returns-then-numbers-pages-clause-left g c =
    let s = c.args.self in
    let sized = c.pages.ensures.bytes ∙ ap (λ n. 4096 * n) c.pages.ensures.pages in
    λ move. other_count move s s.stamp s.parts (λ i. get_or s.pieces i None) c.args.numbers.now c.args.bytes.now sized (λ same. c.if-numbers-pages.true (same ∙ sym c.pages.ensures.pages))

pub returns-in_default-clause-left : goal.returns-in_default-clause-left
unfolding lacking
returns-in_default-clause-left g c =
    let s = c.args.self in
    let sized = c.pages.ensures.bytes ∙ ap (λ n. 4096 * n) c.pages.ensures.pages in
    let same = c.if-numbers-pages.false ∙ c.pages.ensures.pages in
    let have = c.as_slice.ensures.value ∙ ap (λ (x : PlainStage). x.have) c.self.view_is in
    let some = subst (λ (xs : List ℕ). 0 < length (lacking c.args.numbers.now xs)) have c.in_default.ensures.memory in
    λ move. lack_is_good move s s.stamp s.parts (λ i. get_or s.pieces i None) c.args.numbers.now c.args.bytes.now sized same some

pub returns-then-not-is_empty-clause-left : goal.returns-then-not-is_empty-clause-left
unfolding lacking
returns-then-not-is_empty-clause-left g c =
    let s = c.args.self in
    let sized = c.pages.ensures.bytes ∙ ap (λ n. 4096 * n) c.pages.ensures.pages in
    let same = c.if-numbers-pages.false ∙ c.pages.ensures.pages in
    let have = c.as_slice.ensures.value ∙ ap (λ (x : PlainStage). x.have) c.self.view_is in
    let are = c.from_vec.ensures ∙ c.in-Ok.ensures.pages ∙ ap (λ (xs : List ℕ). lacking c.args.numbers.now xs) have in
    let count = ap length (c.as_slice-2.ensures.value ∙ sym c.from_vec.ensures) in
    let not_none = eqb-false (length c.as_slice-2.result.now) 0 (sym c.is_empty.ensures ∙ c.if-not-is_empty.true) in
    let some : 0 < length c.from_vec.result = omega (arith, count, not_none) in
    λ move. some_lack move s s.stamp s.parts (λ i. get_or s.pieces i None) c.args.numbers.now c.args.bytes.now sized c.from_vec.result same are some

pub returns-in-Ok-make_guest-clause-ready : goal.returns-in-Ok-make_guest-clause-ready
unfolding lacking
returns-in-Ok-make_guest-clause-ready g c =
    let s = c.args.self in
    let sized = c.pages.ensures.bytes ∙ ap (λ n. 4096 * n) c.pages.ensures.pages in
    let same = c.if-numbers-pages.false ∙ c.pages.ensures.pages in
    let have = c.as_slice.ensures.value ∙ ap (λ (x : PlainStage). x.have) c.self.view_is in
    let are = c.as_slice-2.ensures.value ∙ c.in-Ok.ensures.pages ∙ ap (λ (xs : List ℕ). lacking c.args.numbers.now xs) have in
    let none = sym (ap length are) ∙ eqb-true (length c.as_slice-2.result.now) 0 (sym c.is_empty.ensures ∙ c.if-not-is_empty.false) in
    λ move.
    none_lack move s s.stamp s.parts (λ i. get_or s.pieces i None) c.args.numbers.now c.args.bytes.now sized same none
    ∙ ap (λ (o : Option Guest). guest_read board move (stage_of s) o) c.in-Ok-make_guest.ensures.made

pub returns-clause-left : goal.returns-clause-left
unfolding lacking
returns-clause-left g c =
    let s = c.args.self in
    let sized = c.pages.ensures.bytes ∙ ap (λ n. 4096 * n) c.pages.ensures.pages in
    let same = c.if-numbers-pages.false ∙ c.pages.ensures.pages in
    let have = c.as_slice.ensures.value ∙ ap (λ (x : PlainStage). x.have) c.self.view_is in
    let are = c.as_slice-2.ensures.value ∙ c.in-Ok.ensures.pages ∙ ap (λ (xs : List ℕ). lacking c.args.numbers.now xs) have in
    let none = sym (ap length are) ∙ eqb-true (length c.as_slice-2.result.now) 0 (sym c.is_empty.ensures ∙ c.if-not-is_empty.false) in
    λ move.
    left_so move s c.in-Err.stage c.in-Err.fault c.from_fault.result (build s.harts c.args.bytes.now (pages_in s.bytes)) _ c.from_fault.ensures c.in-Err.ensures.stage
    (none_lack move s s.stamp s.parts (λ i. get_or s.pieces i None) c.args.numbers.now c.args.bytes.now sized same none)
    c.in-Err.ensures.fault

pub returns-then-not-is_empty-clause-told : goal.returns-then-not-is_empty-clause-told
returns-then-not-is_empty-clause-told g c =
    let count = ap length c.as_slice-2.ensures.value in
    let not_none = eqb-false (length c.as_slice-2.result.now) 0 (sym c.is_empty.ensures ∙ c.if-not-is_empty.true) in
    subst (λ (xs : List ℕ). lost.fits xs ≡ true) (sym c.from_vec.ensures) (c.in-Ok.ensures.told (omega (arith, count, not_none)))

pub returns-clause-told : goal.returns-clause-told
returns-clause-told g c = told_fault c.in-Err.fault c.from_fault.result c.from_fault.ensures
