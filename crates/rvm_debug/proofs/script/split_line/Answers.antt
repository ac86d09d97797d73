use Rattle.std.proofs.Common.{◌+◌, ◌∷◌, take, get_or, ap, sym, ◌∙◌, eq-eqb}
use Rattle.rvm_debug.specs.Words.{lines}
use Rattle.rvm_debug.proofs.Reading.{behind_whole, line_ends}
use Rattle.rvm_debug.proofs.script.split_line.Goals as goal

pub returns-then-b-eq10-clause-lines : goal.returns-then-b-eq10-clause-lines
returns-then-b-eq10-clause-lines c =
    line_ends c.args.bytes.now c.loop-at.at c.loop-at-test.true (eq-eqb (get_or c.args.bytes.now c.loop-at.at 0) 10 c.if-b-eq10.true) c.loop-at.invariant
    ∙ ap (λ r. take c.loop-at.at c.args.bytes.now ∷ lines r) (sym (behind_whole c.args.bytes.now (c.loop-at.at + 1)))
