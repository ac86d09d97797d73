use Rattle.std.proofs.Common.{inl, inr, refl, ap}
use Rattle.rvm_host.specs.Modes.{Empty, Given, Held, Staging, mode_of, plain_of}
use Rattle.rvm_host.proofs.Targets.{offer_counts, offer_counts_too, other_offer}
use Rattle.rvm_host.proofs.mode.Mode.offered.Goals as goal

pub returns-else-staged-move_number-clause-answer :
    goal.returns-else-staged-move_number-clause-answer
returns-else-staged-move_number-clause-answer g c =
    let a = c.args in
    let n = c.in-Staging.staged in
    let s = c.in-Staging.staging in
    offer_counts a.limit a.move_number a.pages a.harts (plain_of a.self.now) (Staging n s) (ap plain_of c.in-Staging.is)
    c.offered_above.result (mode_of (plain_of c.offered_above.new.self))
    (other_offer a.limit a.move_number a.pages a.harts n s c.if-staged-move_number.false)
    c.offered_above.ensures.answer

pub returns-in-Empty-clause-answer : goal.returns-in-Empty-clause-answer
returns-in-Empty-clause-answer g c =
    let a = c.args in
    let r = c.offered_above-in-Empty.result in
    let next = mode_of (plain_of c.offered_above-in-Empty.new.self) in
    let is = c.offered_above-in-Empty.ensures.answer in
    elim c.in-Empty.is [
      | inl e ↦ offer_counts_too a.limit a.move_number a.pages a.harts (plain_of a.self.now) (Empty e.0) (ap plain_of e.1) r next refl is
      | inr rest ↦ elim rest [
        | inl e ↦ offer_counts_too a.limit a.move_number a.pages a.harts (plain_of a.self.now) (Given e.0 e.1.guest.guest) (ap plain_of e.2) r next refl is
        | inr e ↦ offer_counts_too a.limit a.move_number a.pages a.harts (plain_of a.self.now) (Held e.0 e.1.guest) (ap plain_of e.2) r next refl is
      ]
    ]
