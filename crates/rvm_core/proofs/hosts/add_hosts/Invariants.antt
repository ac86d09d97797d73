use Rattle.std.proofs.Common.{◌≤◌, length, vec_capacity}
use Rattle.rvm_core.specs.Worlds.{AreNew}
use Rattle.rvm_core.proofs.hosts.add_hosts.Given as goal

abbrev pub invariant-loop-id : goal.invariant-loop-id
invariant-loop-id g l =
    AreNew l.fn.guest l.version l.limits l.id l.hosts.items × (length l.limits ≤ vec_capacity l.hosts)
