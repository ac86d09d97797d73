use Rattle.std.proofs.lemmas.Map.Text.{btree_map_updates_str}
use Rattle.rvm_asm.specs.LineViews.{names_of}
use Rattle.rvm_asm.proofs.symbols.insert.Goals as goal

pub returns : goal.returns
unfolding names_of
returns c = btree_map_updates_str c.args.symbol.name.now c.args.symbols.now c.insert.new.self _ c.in_ok-insert.ensures.updates
