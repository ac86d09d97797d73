use Rattle.std.proofs.Common.{◌≡◌, List, length, sym, subst}
use Rattle.rvm_guest.specs.TheGuest.{board}
use Rattle.rvm_protocol.specs.World.{new_world}
use Rattle.rvm_core.specs.Worlds.{IsWorld, Kept, limit_at, world_of}
use Rattle.rvm_core.proofs.NewWorlds.{new_is_world, new_shown, world_is}
use Rattle.rvm_core.proofs.world.World.with_version.Goals as goal

pub invariant_of-result : goal.invariant_of-result
invariant_of-result g c =
    let a = c.args in
    let hosts = c.add_hosts.new.hosts.items in
    let sized = sym c.if-not-is_sized.ensures in
    subst (λ (z : List Kept). IsWorld (record { version = a.version; hosts = hosts; sent = z; current = 0 }))
    (sym c.new.ensures.items)
    (new_is_world a.guest a.version a.limits.now hosts sized c.add_hosts.ensures c.valid_guest.ensures)

pub returns-in-Ok-clause-world : goal.returns-in-Ok-clause-world
returns-in-Ok-clause-world g c =
    let a = c.args in
    let hosts = c.add_hosts.new.hosts.items in
    subst (λ (z : List Kept). world_of (record { version = a.version; hosts = hosts; sent = z; current = 0 })
    ≡ new_world board a.version 0 a.guest.guest (length a.limits.now) (limit_at a.limits.now)) (sym c.new.ensures.items)
    (world_is a.guest a.version a.limits.now hosts (sym c.if-not-is_sized.ensures) c.add_hosts.ensures)

pub returns-in-Ok-clause-shown : goal.returns-in-Ok-clause-shown
returns-in-Ok-clause-shown g c =
    let a = c.args in
    let sized = sym c.if-not-is_sized.ensures in
    new_shown a.guest a.version a.limits.now c.add_hosts.new.hosts.items sized c.add_hosts.ensures
