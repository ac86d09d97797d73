use Rattle.std.proofs.Common.{◌<◌, ◌≡◌, ◌≤◌, Some, None, get_or, length, subst, sym}
use Rattle.std.specs.Prelude.{slice_get}
use Rattle.rvm_host.specs.Spelled.{AreSpelled}
use Rattle.rvm_core.specs.Worlds.{PlainWorld, world_of}
use Rattle.rvm_core.proofs.Happenings.{spelled_past, spelled_there}
use Rattle.rvm_core.proofs.world.World.frame.Goals as goal

pub returns-in-Some-clause-spelled : goal.returns-in-Some-clause-spelled
returns-in-Some-clause-spelled g c =
    let f = c.self.inside in
    let w : PlainWorld = record { version = f.version; hosts = f.hosts.items; sent = f.sent.items; current = f.current } in
    let kept = c.in-Some.sent.now in
    let place = c.args.place in
    let found = c.in-Some.ensures.lookup in
    let sent = c.deref.ensures.value in
    let lt = subst (λ z. place < length z) sent found.3.0 in
    let is = subst (λ z. kept ≡ get_or z place kept) sent found.1 in
    subst (λ (w : PlainWorld). AreSpelled w.version (slice_get (world_of w).sent place) (Some c.bytes.result.now))
    c.self.view_is
    (subst (λ z. AreSpelled w.version (slice_get (world_of w).sent place) (Some z)) (sym c.bytes.ensures)
    (spelled_there w place kept c.self.invariant lt is))

pub returns-in-None-clause-spelled : goal.returns-in-None-clause-spelled
returns-in-None-clause-spelled g c =
    let f = c.self.inside in
    let w : PlainWorld = record { version = f.version; hosts = f.hosts.items; sent = f.sent.items; current = f.current } in
    let place = c.args.place in
    let past = subst (λ z. length z ≤ place) c.deref.ensures.value c.in-None.ensures.lookup.3 in
    subst (λ (w : PlainWorld). AreSpelled w.version (slice_get (world_of w).sent place) None) c.self.view_is
    (spelled_past w place past)
