use Rattle.std.proofs.Common.{None, sym, subst}
use Rattle.rvm_guest.specs.TheGuest.{board}
use Rattle.rvm_message.specs.Answers.{Answers}
use Rattle.rvm_protocol.specs.Frames as frames
use Rattle.rvm_protocol.specs.Receiving as receiving
use Rattle.rvm_host.specs.declared.mode.Mode.{Mode}
use Rattle.rvm_host.specs.Modes.{mode_of, plain_of}
use Rattle.rvm_source.specs.Sources as source
use Rattle.rvm_host.proofs.mode.Mode.accepted.Goals as goal

pub returns-in-Leaving : goal.returns-in-Leaving
returns-in-Leaving g c = λ limit version.
    subst (λ (m : Mode g.row.M.Denot). Answers version (receiving.came board limit (frames.Accept c.args.move_number) (mode_of (plain_of m))) (c.accepted.result, None) (source.mode_of c.accepted.new.self))
    (sym c.in-Leaving.is) (c.accepted.ensures limit version)
