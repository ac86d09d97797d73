use Rattle.std.proofs.Common.{ℕ, List, ◌++◌, ap, ◌∙◌, refl, replicate}
use Rattle.rvm_command.proofs.Runs.{drained, drained_bytes, drained_piece}
use Rattle.rvm_command.proofs.run.drain_once.Goals as goal

pub returns-clause-bytes : goal.returns-clause-bytes
returns-clause-bytes g c =
    let count = c.drain-count.result in
    let sent = c.args.guest.now.guest.board.shared.devices.output in
    let text = drained_piece count sent (replicate 256 0) c.drain-count.new.bytes c.drain-count.ensures.count c.drain-count.ensures.bytes ∙ drained_bytes count 256 c.args.guest.now refl c.drain-count.ensures.count in
    c.append.ensures ∙ ap (λ (l : List ℕ). c.args.buffer.now ++ l) text

pub returns-clause-guest : goal.returns-clause-guest
returns-clause-guest g c = drained c.drain-count.result 256 c.args.guest.now c.drain-count.new.self refl c.drain-count.ensures.count c.drain-count.ensures.guest
