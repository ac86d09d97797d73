use Rattle.std.proofs.Common.{◌*◌, ◌∙◌, length, ap}
use Rattle.rvm_mem.specs.Pages.{mark_all}
use Rattle.rvm_board.specs.declared.event.BoardEvent.{BoardEvent}
use Rattle.rvm_board.specs.Events.{answered}
use Rattle.rvm_guest.specs.TheGuest.{board}
use Rattle.rvm_message.proofs.Logs.{length_marked, log_is, pages_are}
use Rattle.rvm_message.proofs.guest.apply_event.Goals as goal

pub returns-clause-reply : goal.returns-clause-reply
unfolding board
returns-clause-reply g c =
    c.apply.ensures.reply ∙ ap (λ (e : BoardEvent). (answered e c.args.guest.now.guest).reply) c.copy.ensures

pub returns-clause-next : goal.returns-clause-next
unfolding board
returns-clause-next g c =
    c.apply.ensures.guest ∙ ap (λ (e : BoardEvent). (answered e c.args.guest.now.guest).guest) c.copy.ensures

pub returns-clause-log : goal.returns-clause-log
unfolding board
returns-clause-log g c =
    let d = c.args.guest.now.dirty in
    let old = c.args.guest.now.guest in
    let a = c.len-size.ensures.length ∙ ap length c.memory.ensures.bytes in
    let b = c.len-size.ensures.pages ∙ ap (λ xs. 4096 * length xs) c.memory.ensures.dirty in
    λ p. log_is old c.args.event.now d c.apply.new.self.dirty p
    (c.apply.ensures.dirty ∙ ap (λ (e : BoardEvent). mark_all (answered e old).pages d) c.copy.ensures)
    (pages_are (length old.board.shared.bytes) (length d) c.len-size.result a b)

pub returns-clause-size : goal.returns-clause-size
returns-clause-size g c =
    ap length c.apply.ensures.dirty ∙ length_marked (answered c.copy.result c.args.guest.now.guest).pages c.args.guest.now.dirty
