use Rattle.std.proofs.Common.{◌*◌, ◌∙◌, length, ap}
use Rattle.rvm_board.specs.declared.event.BoardEvent.TheVariants.{Step}
use Rattle.rvm_board.specs.Events.{steps_if_there}
use Rattle.rvm_guest.specs.TheGuest.{board}
use Rattle.rvm_message.proofs.Logs.{length_marked, log_is, pages_are}
use Rattle.rvm_message.proofs.step.step_guest.Goals as goal

pub returns-clause-reply : goal.returns-clause-reply
unfolding board
returns-clause-reply g c = c.step_if_there.ensures.reply

pub returns-clause-next : goal.returns-clause-next
unfolding board
returns-clause-next g c = c.step_if_there.ensures.guest

pub returns-clause-log : goal.returns-clause-log
unfolding board
returns-clause-log g c =
    let d = c.args.guest.now.dirty in
    let old = c.args.guest.now.guest in
    let a = c.len-size.ensures.length ∙ ap length c.memory.ensures.bytes in
    let b = c.len-size.ensures.pages ∙ ap (λ xs. 4096 * length xs) c.memory.ensures.dirty in
    λ p. log_is old (Step c.args.hart) d c.step_if_there.new.guest.dirty p c.step_if_there.ensures.dirty
    (pages_are (length old.board.shared.bytes) (length d) c.len-size.result a b)

pub returns-clause-size : goal.returns-clause-size
returns-clause-size g c =
    ap length c.step_if_there.ensures.dirty
    ∙ length_marked (steps_if_there c.args.hart c.args.guest.now.guest).pages c.args.guest.now.dirty
