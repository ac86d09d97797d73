use Rattle.std.proofs.Common.{◌∙◌, ap}
use Rattle.rvm_journal.specs.declared.header.Header.{Header}
use Rattle.rvm_replay.proofs.Worlds.{one_kept}
use Rattle.rvm_replay.proofs.world.replay_one.Goals as goal

pub returns-in-Ok-clause-kept : goal.returns-in-Ok-clause-kept
returns-in-Ok-clause-kept g c =
    one_kept c.keep.result g.K.Kept.recording c.args.name.now c.args.reader c.args.image.now c.in-Ok.done.journal
    c.args.world.now.files.items c.keep.new.all.items c.args.world.now.hosts.items c.from-host.result c.in-Ok.done.kept
    c.new.result c.in-Ok.ensures.host.0 c.new.ensures c.in-Ok.ensures.host.1
    (c.from-host.ensures ∙ ap (λ (h : Header). h.host) c.header.ensures.header) c.keep.ensures.kept
