use Rattle.std.proofs.Common.{◌∙◌, ap, map, sym}
use Rattle.std.proofs.lemmas.List.{take_all}
use Rattle.rvm_recorder.specs.History.{count_of}
use Rattle.rvm_replay.proofs.AllHosts.{one_number}
use Rattle.rvm_replay.proofs.kept.counts_of.Goals as goal

pub loop-host-preserved : goal.loop-host-preserved
loop-host-preserved g c =
    one_number (λ kept. count_of (g.K.Kept.recording kept)) c.args.all.now c.loop-host.host c.index-all-host.result
    c.loop-host.counts.items c.push.new.self.items c.count.result c.loop-host-test.true (sym c.index-all-host.is)
    c.loop-host.invariant c.count.ensures c.in_ok-push.ensures.items

pub returns : goal.returns
returns g c =
    c.loop-host.invariant
    ∙ ap (λ all. map (λ kept. count_of (g.K.Kept.recording kept)) all) (take_all c.loop-host.host c.args.all.now c.loop-host-test.false)
