use Rattle.std.proofs.Common.{None, sym, subst}
use Rattle.rvm_board.specs.declared.event.BoardEvent.TheVariants.{Drain}
use Rattle.rvm_guest.specs.TheGuest.{board}
use Rattle.rvm_message.specs.Answers.{Answers}
use Rattle.rvm_message.specs.Exchanges.{dry_exchange}
use Rattle.rvm_protocol.specs.Obeying as obeying
use Rattle.rvm_host.specs.declared.mode.Mode.{Mode}
use Rattle.rvm_host.specs.Modes.{mode_of, plain_of}
use Rattle.rvm_host.proofs.Drying.{run_dry}
use Rattle.rvm_host.proofs.mode.Mode.finds_nothing.Goals as goal

pub returns-in-Run : goal.returns-in-Run
returns-in-Run g c = λ is version.
    let n = c.args.count in
    subst (λ (m : Mode g.row.M.Denot). Answers version (obeying.board board (Drain n) (mode_of (plain_of m)))
    ((dry_exchange n).reply, None) (mode_of (plain_of m)))
    (sym c.in-Run.is) (run_dry n c.in-Run.move_number c.in-Run.guest.guest (c.is_dry.ensures is) version)

pub returns-in-Leaving : goal.returns-in-Leaving
returns-in-Leaving g c = λ is version.
    let n = c.args.count in
    subst (λ (m : Mode g.row.M.Denot). Answers version (obeying.board board (Drain n) (mode_of (plain_of m)))
    ((dry_exchange n).reply, None) (mode_of (plain_of m)))
    (sym c.in-Leaving.is) (c.is_dry_source.ensures is version)
