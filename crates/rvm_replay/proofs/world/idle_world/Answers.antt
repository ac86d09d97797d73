use Rattle.std.proofs.Common.{◌≡◌, ◌∙◌, ◌∷◌, [], ap, arith, length, length-append, subst, sym}
use Rattle.std.specs.Prelude.{slice_get}
use Rattle.rvm_replay.specs.Audited.{IsIdle}
use Rattle.rvm_replay.proofs.AllHosts.{push_each}
use Rattle.rvm_replay.proofs.world.idle_world.Goals as goal

pub loop-host-preserved : goal.loop-host-preserved
loop-host-preserved g c =
    let all = c.loop-host.all.items in
    let kept = c.in-Ok.kept in
    let long = c.loop-host.invariant.long in
    let is = c.in_ok-keep-in-Ok.ensures.kept in
    let size = ap length is in
    record {
      each = λ x other at.
          push_each (λ y k. IsIdle c.args.hosts y (g.K.Kept.recording k)) all kept c.loop-host.invariant.each
          (subst (λ y. IsIdle c.args.hosts y (g.K.Kept.recording kept)) (sym long) c.in-Ok.ensures) x other
          (sym (ap (λ xs. slice_get xs x) is) ∙ at);
      long = omega (arith, size, long, length-append all (kept ∷ []));
    }

pub returns-clause-long : goal.returns-clause-long
returns-clause-long g c =
    let long = c.loop-host.invariant.long in
    let end = c.loop-host.auto.host-end in
    let all = c.loop-host-test.false in
    omega (arith, long, end, all)

pub returns-clause-idle : goal.returns-clause-idle
returns-clause-idle g c x kept at =
    let long = c.loop-host.invariant.long in
    let end = c.loop-host.auto.host-end in
    let all = c.loop-host-test.false in
    let same : c.args.hosts ≡ length c.loop-host.all.items = omega (arith, long, end, all) in
    subst (λ n. IsIdle n x (g.K.Kept.recording kept)) same (c.loop-host.invariant.each x kept at)
