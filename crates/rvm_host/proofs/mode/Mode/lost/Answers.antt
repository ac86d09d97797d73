use Rattle.std.proofs.Common.{ℕ, None, IfOk, sym, subst}
use Rattle.rvm_guest.specs.TheGuest.{board}
use Rattle.rvm_message.specs.Answers.{Answers}
use Rattle.rvm_protocol.specs.Frames as frames
use Rattle.rvm_protocol.specs.Receiving as receiving
use Rattle.rvm_host.specs.declared.mode.Mode.{Mode}
use Rattle.rvm_host.specs.Modes.{mode_of, plain_of}
use Rattle.rvm_source.specs.Sources as source
use Rattle.rvm_host.proofs.mode.Mode.lost.Goals as goal

pub returns-else-not-is_stopped-clause-answer : goal.returns-else-not-is_stopped-clause-answer
returns-else-not-is_stopped-clause-answer g c =
    subst (λ (m : Mode g.row.M.Denot). IfOk c.lost.result (λ r. (limit version : ℕ) → Answers version (receiving.came board limit (frames.Lost c.args.move_number c.args.pages.now) (mode_of (plain_of m))) (r, None) (source.mode_of c.lost.new.self)))
    (sym c.in-Leaving.is) c.lost.ensures.answer
