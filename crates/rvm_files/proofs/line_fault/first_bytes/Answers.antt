use Rattle.std.proofs.Common.{◌≡◌, arith, length, sym, take}
use Rattle.std.proofs.lemmas.List.{length-take-le}
use Rattle.rvm_files.proofs.line_fault.first_bytes.Goals as goal

pub slice_bounds-result-end : goal.slice_bounds-result-end
slice_bounds-result-end c = sym (length-take-le 80 c.args.line.now (omega arith))

pub returns-then-line-gt-EXCERPT_SIZE-clause-few : goal.returns-then-line-gt-EXCERPT_SIZE-clause-few
returns-then-line-gt-EXCERPT_SIZE-clause-few c =
    let size : length (take 80 c.args.line.now) ≡ 80 = length-take-le 80 c.args.line.now (omega arith) in
    omega (arith, size)
