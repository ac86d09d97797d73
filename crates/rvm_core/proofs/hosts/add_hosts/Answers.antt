use Rattle.std.proofs.Common.{subst, arith}
use Rattle.rvm_core.specs.Worlds.{AreNew}
use Rattle.rvm_core.proofs.NewWorlds.{another, first, two_limits}
use Rattle.rvm_core.proofs.hosts.add_hosts.Goals as goal

pub loop-id-init : goal.loop-id-init
loop-id-init g c =
    let limits = c.args.limits.now in
    let capacity = c.push_reserved.ensures.capacity in
    let room = c.requires.room in (
      first c.args.guest c.args.version limits c.args.hosts.now.items c.push_reserved.new.self.items c.new_host.result
          c.requires.empty c.push_reserved.ensures.items c.new_host.ensures,
      omega (arith, capacity, room),
    )

pub push_reserved-requires-in-loop-id : goal.push_reserved-requires-in-loop-id
push_reserved-requires-in-loop-id g c =
    let len = c.loop-id.hosts.ok.0 in
    let count = c.loop-id.invariant.0.count in
    let room = c.loop-id.invariant.1 in
    let more = c.loop-id-test.true in
    omega (arith, len, count, room, more)

pub loop-id-preserved : goal.loop-id-preserved
loop-id-preserved g c =
    let limits = c.args.limits.now in
    let capacity = c.push_reserved-in-loop-id.ensures.capacity in
    let room = c.loop-id.invariant.1 in (
      another c.args.guest c.args.version limits c.loop-id.id c.loop-id.hosts.items
          c.push_reserved-in-loop-id.new.self.items c.new_host-in-loop-id.result c.loop-id.invariant.0
          c.push_reserved-in-loop-id.ensures.items c.loop-id.auto.id c.new_host-in-loop-id.ensures,
      omega (arith, capacity, room),
    )

pub returns : goal.returns
returns g c =
    let limits = c.args.limits.now in
    let two = two_limits c.args.version limits c.requires.sized in
    let past = c.loop-id-test.false in
    let inside = c.loop-id.auto.id-end (omega (arith, two)) in
    subst (λ z. AreNew c.args.guest c.args.version limits z c.loop-id.hosts.items) (omega (arith, past, inside))
    c.loop-id.invariant.0
