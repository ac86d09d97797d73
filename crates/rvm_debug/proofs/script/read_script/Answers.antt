use Rattle.std.proofs.Common.{◌≤◌, length, arith}
use Rattle.std.proofs.lemmas.Grind.{common_steps}
use Rattle.rvm_debug.proofs.Reading.{taken}
use Rattle.rvm_debug.proofs.script.read_script.Goals as goal

pub returns-clause-bytes : goal.returns-clause-bytes
returns-clause-bytes g c =
    let few : length c.read_to_end.new.buf.items ≤ 67108864 = grind (arith, common_steps) in
    taken (g.R.Read.remaining c.args.reader.now) c.new-bytes.result.items c.read_to_end.new.buf.items c.take-limited.result.limit 67108864
    c.new-bytes.ensures.items c.take-limited.ensures.limit few (rw c.take-limited.ensures.inner at c.in_default.ensures.bytes)
