use Rattle.rvm_replay.proofs.SummaryLines.{all_written}
use Rattle.rvm_replay.proofs.summary.write_summary.Goals as goal

pub returns : goal.returns
returns g c =
    let told = c.in_ok-sum.ensures in
    all_written (g.O.Write.contents c.args.output.now) (g.O.Write.contents c.write_hosts.new.output)
    (g.O.Write.contents c.write_counts.new.output) c.args.all.now c.as_slice.result.now c.in_ok-sum.sum told.written told.sum
    c.as_slice.ensures c.in_ok-write_counts.ensures
