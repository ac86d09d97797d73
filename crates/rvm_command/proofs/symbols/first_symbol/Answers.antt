use Rattle.std.proofs.Common.{sym, ◌∙◌}
use Rattle.rvm_debug.proofs.Reading.{lines_of_none}
use Rattle.rvm_command.proofs.SymbolReading.{no_symbols, symbol_first, symbol_later}
use Rattle.rvm_command.proofs.symbols.first_symbol.Goals as goal

pub returns-in-Symbol : goal.returns-in-Symbol
returns-in-Symbol c =
    sym c.loop-rest.invariant ∙ symbol_first c.in-Symbol.symbol c.split_line.ensures.lines c.in-Symbol.ensures

pub loop-rest-preserved : goal.loop-rest-preserved
loop-rest-preserved c =
    sym (symbol_later c.told_by.result c.split_line.ensures.lines c.told_by.ensures c.in_default.not-Symbol)
    ∙ c.loop-rest.invariant

pub returns : goal.returns
returns c =
    sym c.loop-rest.invariant
    ∙ no_symbols (lines_of_none c.loop-rest.rest.now c.is_empty.result c.is_empty.ensures c.loop-rest-test.false)
