use Rattle.std.proofs.Common.{◌<◌, ◌∙◌, subst}
use Rattle.rvm_core.specs.Steps.{AreFirst}
use Rattle.rvm_core.specs.Worlds.{PlainWorld, world_of}
use Rattle.rvm_core.proofs.Happenings.{with_host}
use Rattle.rvm_core.proofs.Turning.{turns_become}
use Rattle.rvm_core.proofs.world.World.turns.Goals as goal

pub invariant_of-self : goal.invariant_of-self
invariant_of-self g c =
    let f = c.self.inside in
    let w : PlainWorld = record { version = f.version; hosts = f.hosts.items; sent = f.sent.items; current = f.current } in
    let lt = subst (λ z. c.args.host < z) (c.len.ensures ∙ f.hosts.ok.0) c.if-host-len.false in
    (turns_become w c.args.host c.args.hart c.args.count c.index_mut.result.now c.turns.new.self c.turns.result.made
    c.turns.result.stop c.self.invariant lt c.index_mut.ensures.value c.turns.ensures.host c.turns.ensures.made
    c.turns.ensures.stop c.turns.ensures.log).stays

pub returns : goal.returns
returns g c =
    let f = c.self.inside in
    let w : PlainWorld = record { version = f.version; hosts = f.hosts.items; sent = f.sent.items; current = f.current } in
    let lt = subst (λ z. c.args.host < z) (c.len.ensures ∙ f.hosts.ok.0) c.if-host-len.false in
    let new = with_host w c.args.host c.turns.new.self w.sent w.current in
    subst (λ (z : PlainWorld). AreFirst c.args.host c.args.hart c.args.count (world_of z) (world_of new)
    c.turns.result.made c.turns.result.stop) c.self.view_is
    (turns_become w c.args.host c.args.hart c.args.count c.index_mut.result.now c.turns.new.self c.turns.result.made
    c.turns.result.stop c.self.invariant lt c.index_mut.ensures.value c.turns.ensures.host c.turns.ensures.made
    c.turns.ensures.stop c.turns.ensures.log).first
