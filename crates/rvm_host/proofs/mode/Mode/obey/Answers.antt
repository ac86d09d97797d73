use Rattle.std.proofs.Common.{sym, subst}
use Rattle.std.specs.Prelude.{IfOk}
use Rattle.rvm_guest.specs.TheGuest.{board}
use Rattle.rvm_message.specs.Answers.{Answers}
use Rattle.rvm_message.specs.Events.{command_of}
use Rattle.rvm_message.specs.declared.event.Command.{Command}
use Rattle.rvm_protocol.specs.Obeying as obeying
use Rattle.rvm_host.specs.Modes.{mode_of, plain_of}
use Rattle.rvm_host.proofs.Targets.{alone, if_ok}
use Rattle.rvm_host.specs.Bounds.{command_body}
use Rattle.rvm_message.specs.Sendable.{CanBeSent}
use Rattle.rvm_host.proofs.mode.Mode.obey.Goals as goal

pub returns-in-Board-clause-answer : goal.returns-in-Board-clause-answer
returns-in-Board-clause-answer g c =
    let a = c.args in
    let before = mode_of (plain_of a.self.now) in
    let after = mode_of (plain_of c.board.new.self) in
    subst (λ (x : Command). Answers a.version (obeying.obey board a.version (command_of x) before) c.alone.result after) (sym c.in-Board.is)
    (alone a.version (obeying.board board c.in-Board.event before) c.alone.result c.board.result after c.alone.ensures.reply c.alone.ensures.frame (c.board.ensures a.version))

pub returns-in-Abort-clause-answer : goal.returns-in-Abort-clause-answer
returns-in-Abort-clause-answer g c =
    let a = c.args in
    let before = mode_of (plain_of a.self.now) in
    let after = mode_of (plain_of c.abort.new.self) in
    subst (λ (x : Command). Answers a.version (obeying.obey board a.version (command_of x) before) c.abort.result after) (sym c.in-Abort.is)
    (c.abort.ensures.answer a.version)

pub returns-in-Begin-clause-sent : goal.returns-in-Begin-clause-sent
returns-in-Begin-clause-sent g c =
    let a = c.args in
    subst (λ (x : Command). IfOk c.begin.result (λ r. CanBeSent a.version (command_body a.version (plain_of a.self.now) (command_of x)) r.1)) (sym c.in-Begin.is)
    (if_ok c.begin.result _ _ (λ r so. so a.version) c.begin.ensures.sent)

pub returns-in-Abort-clause-sent : goal.returns-in-Abort-clause-sent
returns-in-Abort-clause-sent g c =
    let a = c.args in
    subst (λ (x : Command). CanBeSent a.version (command_body a.version (plain_of a.self.now) (command_of x)) c.abort.result.1) (sym c.in-Abort.is) (c.abort.ensures.sent a.version)
