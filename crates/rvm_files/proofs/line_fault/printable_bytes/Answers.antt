use Rattle.std.proofs.Common.{◌∙◌, ap, arith, map}
use Rattle.std.proofs.lemmas.List.{take_all}
use Rattle.rvm_files.specs.LineFaults.{printable}
use Rattle.rvm_files.proofs.line_fault.printable_bytes.Goals as goal

pub returns : goal.returns
returns c = c.loop-index.invariant.0 ∙ ap (map printable) (take_all c.loop-index.index c.args.bytes.now (omega arith))
