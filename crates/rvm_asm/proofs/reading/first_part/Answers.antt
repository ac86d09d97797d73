use Rattle.std.proofs.Common.{sym, ◌∙◌}
use Rattle.rvm_asm.proofs.Parts.{token_more, comma_at}
use Rattle.rvm_asm.proofs.reading.first_part.Goals as goal

pub loop-at-preserved : goal.loop-at-preserved
loop-at-preserved c =
    token_more c.args.tokens.now c.loop-at.at _ c.loop-at-test.true (sym c.is_comma.ensures ∙ c.if-is_comma.false) ∙ c.loop-at.invariant

pub returns-then-is_comma-clause-parts : goal.returns-then-is_comma-clause-parts
returns-then-is_comma-clause-parts c =
    sym c.loop-at.invariant ∙ comma_at c.args.tokens.now c.loop-at.at _ c.loop-at-test.true (sym c.is_comma.ensures ∙ c.if-is_comma.true)
