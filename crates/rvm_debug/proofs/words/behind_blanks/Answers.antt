use Rattle.std.proofs.Common.{sym, ◌∙◌}
use Rattle.rvm_debug.proofs.Reading.{blank_dropped}
use Rattle.rvm_debug.proofs.words.behind_blanks.Goals as goal

pub loop-rest-preserved : goal.loop-rest-preserved
loop-rest-preserved c =
    blank_dropped c.loop-rest.rest.now c.in-len1-up.len_at_least (sym c.is_blank.ensures ∙ c.if-is_blank.true)
    ∙ c.loop-rest.invariant
