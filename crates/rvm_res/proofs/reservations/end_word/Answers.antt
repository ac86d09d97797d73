use Rattle.std.proofs.Common.{get_or, None, arith}
use Rattle.std.proofs.lemmas.Grind.{common_steps}
use Rattle.std.proofs.lemmas.List.Edits.{map_over_more}
use Rattle.rvm_res.specs.Reservations.{without}
use Rattle.rvm_res.proofs.reservations.end_word.Goals as goal

pub loop-held-preserved : goal.loop-held-preserved
loop-held-preserved c =
    rw c.rest_of.ensures
    (map_over_more (without c.args.word) c.args.words.now c.loop-held.words c.loop-held.held-index
    (get_or c.loop-held.words c.loop-held.held-index None) (omega arith)
    c.loop-held.invariant (grind (arith, common_steps)))
