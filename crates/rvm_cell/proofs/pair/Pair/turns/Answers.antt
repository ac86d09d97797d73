use Rattle.std.proofs.Common.{rules, false, []}
use Rattle.rvm_cell.specs.Calls.{Made}
use Rattle.rvm_cell.proofs.Calls.{made_behind_err}
use Rattle.rvm_cell.proofs.pair.Pair.turns.Goals as goal

pub returns-in_err-slice-clause-err : goal.returns-in_err-slice-clause-err
returns-in_err-slice-clause-err g c =
    let last : Made (c.loop-try.self.at_a, c.loop-try.self.at_b) (c.slice_at_either.new.self.at_a, c.slice_at_either.new.self.at_b) [] [] false =
    search rules in
    made_behind_err c.from_residual.result (c.args.self.now.at_a, c.args.self.now.at_b) (c.loop-try.self.at_a, c.loop-try.self.at_b)
    (c.slice_at_either.new.self.at_a, c.slice_at_either.new.self.at_b) c.loop-try.invariant last
