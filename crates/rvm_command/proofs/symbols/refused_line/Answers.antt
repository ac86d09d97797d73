use Rattle.std.proofs.Common.{sym, ◌∙◌, ◌+◌, arith}
use Rattle.rvm_debug.proofs.Reading.{lines_of_none}
use Rattle.rvm_command.proofs.SymbolReading.{none_refused, refused_here, refused_later}
use Rattle.rvm_command.proofs.symbols.refused_line.Goals as goal

pub returns-in_default : goal.returns-in_default
returns-in_default c =
    sym
    (refused_here (c.loop-rest.number + 1) c.loop-rest.lowest c.lowest_after.result c.split_line.ensures.lines
    c.lowest_after.ensures c.in_default.not-Some)
    ∙ c.loop-rest.invariant.1

pub loop-rest-preserved : goal.loop-rest-preserved
loop-rest-preserved c = (
  omega arith,
  sym
      (refused_later (c.loop-rest.number + 1) c.loop-rest.lowest c.in-Some.next c.split_line.ensures.lines c.in-Some.ensures)
      ∙ c.loop-rest.invariant.1,
)

pub returns : goal.returns
returns c =
    sym
    (none_refused (c.loop-rest.number + 1) c.loop-rest.lowest
    (lines_of_none c.loop-rest.rest.now c.is_empty.result c.is_empty.ensures c.loop-rest-test.false))
    ∙ c.loop-rest.invariant.1
