use Rattle.std.proofs.Common.{arith}
use Rattle.rvm_recorder.proofs.InRounds.{are_first}
use Rattle.rvm_recorder.proofs.left.shared.Goals as goal

pub returns-clause-same : goal.returns-clause-same
returns-clause-same c = λ n few.
    let is = c.is_alike.ensures c.if-not-is_alike.false in
    are_first c.args.kept.now c.args.rounds.now n is.0 is.1 is.2 is.3
    (omega (arith, few, c.min.ensures, c.len.ensures)) (omega (arith, few, c.min.ensures, c.len-2.ensures))
