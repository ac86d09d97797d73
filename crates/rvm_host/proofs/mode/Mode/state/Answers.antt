use Rattle.std.proofs.Common.{sym, ap, ◌∙◌}
use Rattle.rvm_host.specs.Modes.{plain_of}
use Rattle.rvm_host.proofs.Targets.{if_ok, state_left}
use Rattle.rvm_host.proofs.mode.Mode.state.Goals as goal

pub returns-in-Err-clause-answer : goal.returns-in-Err-clause-answer
returns-in-Err-clause-answer g c =
    let here = ap plain_of (sym c.take.ensures ∙ c.in-Staging.is) in
    let there = ap plain_of c.keep.ensures in
    if_ok c.not_ready.result _ _
    (λ a so limit version.
    state_left limit version c.in-Staging.staged c.args.move_number (plain_of c.args.self.now) (plain_of c.keep.new.self) c.in-Staging.staging c.in-Err.staging a here there c.if-staged-move_number.false
    c.args.numbers.now c.args.bytes.now c.in-Err.reason (so version) (c.in-Err.ensures.left c.args.move_number))
    c.not_ready.ensures.answer
