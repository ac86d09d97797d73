use Rattle.std.proofs.Common.{ap, refl, sym, subst}
use Rattle.rvm_message.specs.Answers.{Answers, BoardOutcome}
use Rattle.rvm_message.specs.Frames.{frame_made}
use Rattle.rvm_message.specs.Replies.{reply_of}
use Rattle.rvm_message.proofs.Refusing.{spent_stays}
use Rattle.rvm_source.specs.Sources.{mode_of}
use Rattle.rvm_source.proofs.source.Source.copy.Goals as goal

pub returns-then-is_spent-clause-answer : goal.returns-then-is_spent-clause-answer
returns-then-is_spent-clause-answer g c =
    let mode = mode_of c.args.self.now in
    subst (λ (o : BoardOutcome). Answers c.args.version o c.refused.result mode)
    (sym (spent_stays c.args.version mode (sym (c.if-is_spent.ensures c.args.version))))
    (record { reply = ap reply_of c.refused.ensures.reply; made = ap frame_made c.refused.ensures.frame; mode = refl })
