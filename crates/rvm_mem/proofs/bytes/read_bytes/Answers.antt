use Rattle.std.proofs.Common.{ap, ◌∙◌, set, arith}
use Rattle.rvm_mem.proofs.Ranges.{read_more}
use Rattle.rvm_mem.proofs.bytes.read_bytes.Goals as goal

pub loop-i-preserved : goal.loop-i-preserved
loop-i-preserved g c =
    let memory = g.M.Memory.bytes c.args.memory.now in
    ap (λ bytes. set bytes c.loop-i.i c.load8.result) c.loop-i.invariant
    ∙ ap (set _ c.loop-i.i) c.load8.ensures
    ∙ read_more memory c.args.bytes.now c.args.at c.loop-i.i (omega arith) c.loop-i-test.true
