use Rattle.std.proofs.Common.{◌≡◌, ◌<◌, Bool, true, if◌then◌else◌, get_or, List, ℕ, Option, None, Some, ap, sym, subst}
use Rattle.std.specs.Prelude.{IfOk, OnErr, is_some, option_map}
use Rattle.std.proofs.lemmas.Bool.{lt-ltb}
use Rattle.rvm_protocol.specs.Pages.{gathered, put}
use Rattle.rvm_guest.specs.Pages.{joined}
use Rattle.rvm_handover.specs.Stages.{PlainStage}
use Rattle.rvm_handover.proofs.staging.Staging.joined.Goals as goal

pub returns-then-self-stamp-clause-whole : goal.returns-then-self-stamp-clause-whole
returns-then-self-stamp-clause-whole g c =
    let s : PlainStage = c.args.self.now in
    let lt = subst (λ (x : PlainStage). x.stamp < c.args.stamp) c.self.view_is c.if-self-stamp.true in
    let kept : ℕ → Option (List ℕ) = λ i. get_or s.pieces i None in
    let none : ℕ → Option (List ℕ) = λ i. None in
    let is = ap (λ (b : Bool). if b then none else kept) (lt-ltb s.stamp c.args.stamp lt) in
    subst (λ (f : ℕ → Option (List ℕ)). IfOk c.join.result (λ whole. option_map (λ v. v.items) whole ≡ option_map joined (gathered (put f c.args.part (Some c.args.bytes.now)) 0 c.args.parts))) (sym is) c.join.ensures.whole

pub returns-then-self-stamp-clause-memory : goal.returns-then-self-stamp-clause-memory
returns-then-self-stamp-clause-memory g c =
    let s : PlainStage = c.args.self.now in
    let lt = subst (λ (x : PlainStage). x.stamp < c.args.stamp) c.self.view_is c.if-self-stamp.true in
    let kept : ℕ → Option (List ℕ) = λ i. get_or s.pieces i None in
    let none : ℕ → Option (List ℕ) = λ i. None in
    let is = ap (λ (b : Bool). if b then none else kept) (lt-ltb s.stamp c.args.stamp lt) in
    subst (λ (f : ℕ → Option (List ℕ)). OnErr c.join.result (is_some (gathered (put f c.args.part (Some c.args.bytes.now)) 0 c.args.parts) ≡ true)) (sym is) c.join.ensures.memory
