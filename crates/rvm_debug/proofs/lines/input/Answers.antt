use Rattle.std.proofs.Common.{sym, ◌∙◌}
use Rattle.rvm_debug.proofs.Running.{inputs_more, inputs_refused, inputs_over}
use Rattle.rvm_debug.proofs.lines.input.Goals as goal

pub loop-byte-preserved : goal.loop-byte-preserved
loop-byte-preserved g c =
    inputs_more c.in-Some.byte c.loop-byte.left c.in-Some.behind c.apply-reply.result c.loop-byte.board.guest c.apply-reply.new.self.guest c.loop-byte.invariant
    c.in-Some.ensures (sym c.is_refused.ensures ∙ c.if-is_refused.false) c.apply-reply.ensures.dirty c.apply-reply.ensures.reply c.apply-reply.ensures.guest

pub returns-then-is_refused : goal.returns-then-is_refused
returns-then-is_refused g c =
    let all =
    inputs_refused c.in-Some.byte c.loop-byte.left c.in-Some.behind c.apply-reply.result c.loop-byte.board.guest c.apply-reply.new.self.guest c.loop-byte.invariant
    c.in-Some.ensures (sym c.is_refused.ensures ∙ c.if-is_refused.true) c.apply-reply.ensures.dirty c.apply-reply.ensures.reply c.apply-reply.ensures.guest in
    record { reply = all.reply; guest = all.guest; dirty = all.log }

pub returns : goal.returns
returns g c =
    let all = inputs_over c.loop-byte.left c.loop-byte.board.guest c.loop-byte.invariant c.in_default.ensures in
    record { reply = all.reply; guest = all.guest; dirty = all.log }
