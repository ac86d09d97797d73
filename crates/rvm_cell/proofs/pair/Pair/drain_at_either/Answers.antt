use Rattle.std.proofs.Common.{rules, false, []}
use Rattle.rvm_cell.specs.Calls.{Made}
use Rattle.rvm_cell.proofs.Calls.{made_behind_drain}
use Rattle.rvm_cell.proofs.pair.Pair.drain_at_either.Goals as goal

pub returns-in-Elsewhere-clause-made : goal.returns-in-Elsewhere-clause-made
returns-in-Elsewhere-clause-made g c =
    let first : Made (c.args.self.now.at_a, c.args.self.now.at_b) (c.drain_at_gate.new.self.at_a, c.drain_at_gate.new.self.at_b) [] [] false =
    search rules in
    made_behind_drain c.drain_at_gate-in-Elsewhere.result c.drain_at_gate-in-Elsewhere.new.self.taken
    (c.args.self.now.at_a, c.args.self.now.at_b) (c.drain_at_gate.new.self.at_a, c.drain_at_gate.new.self.at_b)
    (c.drain_at_gate-in-Elsewhere.new.self.at_a, c.drain_at_gate-in-Elsewhere.new.self.at_b) first
    c.drain_at_gate-in-Elsewhere.ensures.made
