use Rattle.std.proofs.Common.{arith}
use Rattle.rvm_source.proofs.Pieces.{begins, ends}
use Rattle.rvm_source.proofs.state.piece_of.Goals as goal

pub slice_bounds-result-count : goal.slice_bounds-result-count
slice_bounds-result-count c =
    let begin = begins c.args.body.now c.args.place c.requires in
    let end = c.min.ensures in
    omega (arith, begin, end)

pub slice_bounds-result-start : goal.slice_bounds-result-start
slice_bounds-result-start c =
    let begin = begins c.args.body.now c.args.place c.requires in
    let end = c.min.ensures in
    omega (arith, begin, end)

pub returns : goal.returns
returns c = ends c.args.body.now c.args.place c.min.result c.min.ensures c.requires
