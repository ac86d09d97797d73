use Rattle.std.proofs.Common.{◌∙◌, ap, sym}
use Rattle.rvm_message.specs.Replies.{reply_of}
use Rattle.rvm_core.specs.Phases.{IsRoundLeft}
use Rattle.rvm_core.specs.Worlds.{world_of}
use Rattle.rvm_core.proofs.Drives.{on_err}
use Rattle.rvm_core.proofs.FirstRound.{begins, ends, goes_on, stopped}
use Rattle.rvm_core.proofs.drive.copy_round.Goals as goal

pub loop-pages-init : goal.loop-pages-init
loop-pages-init g c = begins c.args.from (world_of c.args.world.now)

pub loop-pages-preserved : goal.loop-pages-preserved
loop-pages-preserved g c =
    goes_on c.args.from (world_of c.args.world.now) (world_of c.loop-pages.world) (world_of c.apply.new.self)
    c.loop-pages.pages (reply_of c.in_ok-copied.copied.reply) c.loop-pages.invariant
    (sym c.is_copied.ensures ∙ c.if-not-is_copied.false) c.in_ok-copied.ensures.reply c.in_ok-copied.ensures.next

pub returns-then-not-is_copied-clause-round : goal.returns-then-not-is_copied-clause-round
returns-then-not-is_copied-clause-round g c =
    ends c.args.from (world_of c.args.world.now) (world_of c.loop-pages.world) (world_of c.apply.new.self)
    c.loop-pages.pages (reply_of c.in_ok-copied.copied.reply) c.loop-pages.invariant
    (sym c.is_copied.ensures ∙ c.if-not-is_copied.true) c.in_ok-copied.ensures.reply c.in_ok-copied.ensures.next

pub returns-in_err-copied-clause-left : goal.returns-in_err-copied-clause-left
returns-in_err-copied-clause-left g c =
    let old = world_of c.args.world.now in
    let new = world_of c.apply.new.self in
    on_err c.from_residual.result (IsRoundLeft old new c.args.from)
    (stopped c.args.from old (world_of c.loop-pages.world) new c.loop-pages.pages c.loop-pages.invariant
    (ap world_of c.in_err-copied.ensures.err))
