use Rattle.std.proofs.Common.{ℕ, ◌+◌, ◌∙◌, ap}
use Rattle.rvm_protocol.specs.World.{Deliver}
use Rattle.rvm_core.specs.Phases.{deliveries}
use Rattle.rvm_core.specs.Worlds.{IsPartOf, world_of}
use Rattle.rvm_core.proofs.Drives.{begins, ends, goes_on, on_err, part_of_listed}
use Rattle.rvm_core.proofs.drive.deliver_all.Goals as goal

pub loop-place-init : goal.loop-place-init
loop-place-init g c = begins (λ (p : ℕ). Deliver (c.args.first + p)) (world_of c.args.world.now) c.args.count

pub loop-place-preserved : goal.loop-place-preserved
loop-place-preserved g c =
    goes_on (λ (p : ℕ). Deliver (c.args.first + p)) (world_of c.args.world.now) (world_of c.loop-place.world)
    (world_of c.apply.new.self) c.loop-place.place c.args.count c.loop-place.invariant c.loop-place-test.true
    c.in_ok-apply.ensures.next

pub returns-clause-made : goal.returns-clause-made
returns-clause-made g c =
    ends (λ (p : ℕ). Deliver (c.args.first + p)) (world_of c.args.world.now) (world_of c.loop-place.world)
    c.loop-place.place c.args.count c.loop-place.invariant c.loop-place-test.false

pub returns-in_err-apply-clause-left : goal.returns-in_err-apply-clause-left
returns-in_err-apply-clause-left g c =
    let old = world_of c.args.world.now in
    let new = world_of c.apply.new.self in
    on_err c.from_residual.result (IsPartOf (deliveries c.args.first c.args.count) old new)
    (part_of_listed (λ (p : ℕ). Deliver (c.args.first + p)) old new c.loop-place.place c.args.count
    c.loop-place-test.true (ap world_of c.in_err-apply.ensures.err ∙ c.loop-place.invariant.so_far))
