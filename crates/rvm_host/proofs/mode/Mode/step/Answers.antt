use Rattle.std.proofs.Common.{None, sym, subst}
use Rattle.rvm_board.specs.declared.event.BoardEvent.TheVariants.{Step}
use Rattle.rvm_guest.specs.TheGuest.{board}
use Rattle.rvm_message.specs.Answers.{Answers}
use Rattle.rvm_message.specs.Steps.{reply_to_step}
use Rattle.rvm_protocol.specs.Obeying as obeying
use Rattle.rvm_source.specs.Sources as source
use Rattle.rvm_host.specs.declared.mode.Mode.{Mode}
use Rattle.rvm_host.specs.Modes.{mode_of, plain_of}
use Rattle.rvm_host.proofs.mode.Mode.step.Goals as goal

pub returns-in-Leaving : goal.returns-in-Leaving
returns-in-Leaving g c = λ version.
    subst (λ (m : Mode g.row.M.Denot). Answers version (obeying.board board (Step c.args.hart) (mode_of (plain_of m))) (reply_to_step c.step.result, None) (source.mode_of c.step.new.self))
    (sym c.in-Leaving.is) (c.step.ensures version)
