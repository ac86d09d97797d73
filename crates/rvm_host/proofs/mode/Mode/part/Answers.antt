use Rattle.std.proofs.Common.{sym, ap, ◌∙◌}
use Rattle.rvm_host.specs.Modes.{plain_of}
use Rattle.rvm_host.proofs.Targets.{if_ok, of_staged, part_left}
use Rattle.rvm_host.proofs.mode.Mode.part.Goals as goal

pub returns-in-Err-clause-answer : goal.returns-in-Err-clause-answer
returns-in-Err-clause-answer g c =
    let here = ap plain_of (sym c.take.ensures ∙ c.in-Staging.is) in
    let same = of_staged c.args.move_number c.args.stamp c.args.part c.args.parts c.in-Staging.move_number (plain_of c.args.self.now) c.in-Staging.staging here (sym c.if-not-takes_part.ensures) in
    let there = ap plain_of c.keep.ensures in
    if_ok c.not_joined.result _ _
    (λ a so limit version.
    part_left limit version c.in-Staging.move_number c.args.move_number (plain_of c.args.self.now) (plain_of c.keep.new.self) c.in-Staging.staging c.in-Err.staging a here there same
    c.args.stamp c.args.part c.args.parts c.args.bytes.now c.in_ok-bytes.bytes c.in-Err.reason c.in_ok-bytes.ensures (so version) (c.in-Err.ensures.left c.args.move_number))
    c.not_joined.ensures.answer
