use Rattle.std.proofs.Common.{◌≡◌, ap, ◌∙◌, sym}
use Rattle.rvm_board.specs.declared.event.BoardEvent.TheVariants.{Step}
use Rattle.rvm_board.specs.Events.{answered, pc_of, step_reply}
use Rattle.rvm_board.specs.Guest.{Guest, GuestState}
use Rattle.rvm_command.proofs.Watching.{no_line, one_line}
use Rattle.rvm_command.specs.Turns.{taken_by}
use Rattle.rvm_command.proofs.watched.take_step.Goals as goal

pub returns-then-not-is_traced-clause-line : goal.returns-then-not-is_traced-clause-line
returns-then-not-is_traced-clause-line g c =
    no_line c.args.traced c.args.turn (taken_by c.args.hart c.args.guest.now.guest) (g.T.Write.contents c.args.trace.now) (sym c.is_traced.ensures ∙ c.if-not-is_traced.true)

pub returns-clause-line : goal.returns-clause-line
returns-clause-line g c =
    let old = c.args.guest.now.guest in
    let looked : c.look-before.new.guest.guest ≡ old = ap (λ (s : GuestState). s.guest) c.look-before.ensures.guest in
    let said : c.reply_of.result ≡ (answered (Step c.args.hart) old).reply =
    c.reply_of.ensures ∙ ap (λ k. step_reply k c.step-stepped.result) (c.pc-pc.ensures ∙ ap (pc_of c.args.hart) (sym looked))
    ∙ c.step-stepped.ensures.reply ∙ ap (λ (x : Guest). (answered (Step c.args.hart) x).reply) looked in
    one_line c.args.traced c.args.turn c.args.hart old c.step-stepped.new.guest.guest c.look-before.result c.reply_of.result (g.T.Write.contents c.args.trace.now) (g.T.Write.contents c.write_step.new.writer) (sym c.is_traced.ensures ∙ c.if-not-is_traced.false)
    c.look-before.ensures.seen (c.step-stepped.ensures.guest ∙ ap (λ (x : Guest). (answered (Step c.args.hart) x).guest) looked)
    said c.in_ok-write_step.ensures.text
