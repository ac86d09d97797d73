use Rattle.std.proofs.Common.{None, sym, subst}
use Rattle.rvm_guest.specs.TheGuest.{board}
use Rattle.rvm_message.specs.Answers.{Answers}
use Rattle.rvm_protocol.specs.Obeying as obeying
use Rattle.rvm_source.specs.Sources as source
use Rattle.rvm_host.specs.declared.mode.Mode.{Mode}
use Rattle.rvm_host.specs.Modes.{mode_of, plain_of}
use Rattle.rvm_host.proofs.mode.Mode.board.Goals as goal

pub returns-in-Leaving : goal.returns-in-Leaving
returns-in-Leaving g c = λ version.
    subst (λ (m : Mode g.row.M.Denot). Answers version (obeying.board board c.args.event.now (mode_of (plain_of m))) (c.apply.result, None) (source.mode_of c.apply.new.self))
    (sym c.in-Leaving.is) (c.apply.ensures version)
