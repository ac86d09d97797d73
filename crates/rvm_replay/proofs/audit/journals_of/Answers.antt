use Rattle.std.proofs.Common.{◌∙◌, List, ap, map, sym}
use Rattle.std.proofs.lemmas.List.{take_all}
use Rattle.rvm_recorder.specs.History.{Recording}
use Rattle.rvm_replay.proofs.HostJournals.{journals_more}
use Rattle.rvm_replay.proofs.audit.journals_of.Goals as goal

pub loop-host-preserved : goal.loop-host-preserved
loop-host-preserved g c =
    journals_more c.args.all.now c.loop-host.host c.index-all-host.result c.loop-host.journals.items c.push.new.self.items
    c.journal.result c.loop-host-test.true (sym c.index-all-host.is) c.loop-host.invariant c.in_ok-push.ensures.items
    c.journal.ensures

pub returns : goal.returns
returns g c =
    c.loop-host.invariant
    ∙ ap (λ (all : List Recording). map (λ (r : Recording). r.journal) all)
    (take_all c.loop-host.host c.args.all.now c.loop-host-test.false)
