use Rattle.std.proofs.Common.{Global, ◌<◌, ◌-◌, ◌+◌, ◌++◌, length, get_or, List, ℕ, ◌≡◌, true, ap, sym, subst, ◌∙◌}
use Rattle.std.specs.Prelude.{Vec}
use Rattle.std.proofs.lemmas.Bool.{lt-ltb, le-ltb}
use Rattle.rvm_frame.specs.Bodies.{lost}
use Rattle.rvm_protocol.specs.Pages.{members}
use Rattle.rvm_handover.specs.Stages.{is_older}
use Rattle.rvm_handover.proofs.Lists.{done, left, on_err, some, taken}
use Rattle.rvm_handover.proofs.Told.{members_fit}
use Rattle.rvm_handover.proofs.staging.missing.Goals.{then-have-page+in_ok-push, else-have-page}
use Rattle.rvm_handover.proofs.staging.missing.Goals as goal

pub returns-in_err-push-clause-memory : goal.returns-in_err-push-clause-memory
returns-in_err-push-clause-memory c =
    on_err c.from_residual.result (0 < length (members (is_older c.args.have.now c.args.numbers.now) 0 (length c.args.have.now)))
    (some (is_older c.args.have.now c.args.numbers.now) c.loop-page.page (length c.args.have.now) c.loop-page.pages.items _ c.loop-page.invariant c.loop-page-test.true
    (lt-ltb (get_or c.args.have.now c.loop-page.page 0) (get_or c.args.numbers.now c.loop-page.page 0) c.if-have-page.true))

pub loop-page-preserved : goal.loop-page-preserved
loop-page-preserved c =
    let older = is_older c.args.have.now c.args.numbers.now in
    let page : ℕ = c.loop-page.page in
    let n : ℕ = length c.args.have.now in
    elim c.if-have-page.branch [
      | then-have-page+in_ok-push w ↦
          ap (λ xs. xs ++ members older (page + 1) (n - (page + 1))) (ap (λ (v : Vec ℕ Global). v.items) w.pages-is ∙ w.in_ok-push.ensures.items)
          ∙ taken older page n c.loop-page.pages.items _ c.loop-page.invariant c.loop-page-test.true
          (lt-ltb (get_or c.args.have.now page 0) (get_or c.args.numbers.now page 0) w.if-have-page.true)
      | else-have-page w ↦
          ap (λ xs. xs ++ members older (page + 1) (n - (page + 1))) (ap (λ (v : Vec ℕ Global). v.items) w.pages-is)
          ∙ left older page n c.loop-page.pages.items _ c.loop-page.invariant c.loop-page-test.true
          (le-ltb (get_or c.args.have.now page 0) (get_or c.args.numbers.now page 0) w.if-have-page.false)
    ]

pub returns-clause-pages : goal.returns-clause-pages
returns-clause-pages c =
    done (is_older c.args.have.now c.args.numbers.now) c.loop-page.page (length c.args.have.now) c.loop-page.pages.items _ c.loop-page.invariant c.loop-page-test.false

pub returns-clause-told : goal.returns-clause-told
returns-clause-told c =
    let older = is_older c.args.have.now c.args.numbers.now in
    let n : ℕ = length c.args.have.now in
    let are = done older c.loop-page.page n c.loop-page.pages.items _ c.loop-page.invariant c.loop-page-test.false in
    λ some.
    subst (λ (xs : List ℕ). lost.fits xs ≡ true) (sym are) (members_fit older n c.requires.few (subst (λ (xs : List ℕ). 0 < length xs) are some))
