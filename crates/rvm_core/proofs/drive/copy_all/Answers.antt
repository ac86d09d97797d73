use Rattle.std.proofs.Common.{ℕ, ◌∙◌, ap}
use Rattle.rvm_protocol.specs.Commands.{Copy}
use Rattle.rvm_protocol.specs.World.{At}
use Rattle.rvm_core.specs.Phases.{copies}
use Rattle.rvm_core.specs.Worlds.{IsPartOf, world_of}
use Rattle.rvm_core.proofs.Drives.{begins, ends, goes_on, on_err, part_of_listed}
use Rattle.rvm_core.proofs.drive.copy_all.Goals as goal

pub loop-init : goal.loop-init
loop-init g c = begins (λ (p : ℕ). At c.args.from Copy) (world_of c.args.world.now) c.args.count

pub loop-preserved : goal.loop-preserved
loop-preserved g c =
    goes_on (λ (p : ℕ). At c.args.from Copy) (world_of c.args.world.now) (world_of c.loop.world)
    (world_of c.apply.new.self) c.loop.counter c.args.count c.loop.invariant c.loop-test.true
    c.in_ok-apply.ensures.next

pub returns-clause-made : goal.returns-clause-made
returns-clause-made g c =
    ends (λ (p : ℕ). At c.args.from Copy) (world_of c.args.world.now) (world_of c.loop.world) c.loop.counter
    c.args.count c.loop.invariant c.loop-test.false

pub returns-in_err-apply-clause-left : goal.returns-in_err-apply-clause-left
returns-in_err-apply-clause-left g c =
    let old = world_of c.args.world.now in
    let new = world_of c.apply.new.self in
    on_err c.from_residual.result (IsPartOf (copies c.args.from c.args.count) old new)
    (part_of_listed (λ (p : ℕ). At c.args.from Copy) old new c.loop.counter c.args.count c.loop-test.true
    (ap world_of c.in_err-apply.ensures.err ∙ c.loop.invariant.so_far))
