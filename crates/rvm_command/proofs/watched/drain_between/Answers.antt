use Rattle.std.proofs.Common.{sym, ◌∙◌}
use Rattle.rvm_command.proofs.Watching.{nothing_between, nothing_out}
use Rattle.rvm_command.proofs.watched.drain_between.Goals as goal

pub returns-then-not-drains_after-clause-written : goal.returns-then-not-drains_after-clause-written
returns-then-not-drains_after-clause-written g c =
    nothing_out c.args.end c.args.turn c.args.guest.now.guest c.args.buffer.now (g.W.Write.contents c.args.writer.now) (sym c.drains_after.ensures ∙ c.if-not-drains_after.true)

pub returns-then-not-drains_after-clause-guest : goal.returns-then-not-drains_after-clause-guest
returns-then-not-drains_after-clause-guest g c =
    nothing_between c.args.end c.args.turn c.args.guest.now (sym c.drains_after.ensures ∙ c.if-not-drains_after.true)
