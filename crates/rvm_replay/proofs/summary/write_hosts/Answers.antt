use Rattle.std.proofs.Common.{◌≡◌, ◌∙◌, ap, get_or, subst, sym}
use Rattle.std.proofs.lemmas.List.{take_all}
use Rattle.std.specs.Io.KnownBytes.{Appends}
use Rattle.rvm_replay.specs.Counts.{counts_of, entries_of_all, host_lines}
use Rattle.std.proofs.KnownBytes.{Appends-nil}
use Rattle.rvm_replay.proofs.SummaryLines.{host_more}
use Rattle.rvm_replay.proofs.summary.write_hosts.Goals as goal

pub loop-host-preserved : goal.loop-host-preserved
loop-host-preserved g c =
    let before = g.O.Write.contents c.args.output.now in
    let mid = g.O.Write.contents c.loop-host.output in
    let after = g.O.Write.contents c.write_host.new.output in
    let all = c.args.all.now in
    let i = c.loop-host.host in
    let r = c.index-all-host.result in
    let is : get_or all i r ≡ r = sym c.index-all-host.is in
    let told = c.in_ok-counts.ensures in
    host_more before mid after all i r c.loop-host.sum c.with-sum.result c.in_ok-counts.counts c.loop-host-test.true is
    c.loop-host.invariant told.written told.counts c.with-sum.ensures

pub loop-host-init : goal.loop-host-init
loop-host-init g c = (Appends-nil (g.O.Write.contents c.args.output.now), c.none-sum.ensures)

pub returns-clause-written : goal.returns-clause-written
returns-clause-written g c =
    let all = c.args.all.now in
    subst (λ rs. Appends (g.O.Write.contents c.args.output.now) (g.O.Write.contents c.loop-host.output) (host_lines 0 rs))
    (take_all c.loop-host.host all c.loop-host-test.false) c.loop-host.invariant.0

pub returns-clause-sum : goal.returns-clause-sum
returns-clause-sum g c =
    let all = c.args.all.now in
    c.loop-host.invariant.1
    ∙ ap (λ rs. counts_of (entries_of_all rs)) (take_all c.loop-host.host all c.loop-host-test.false)
