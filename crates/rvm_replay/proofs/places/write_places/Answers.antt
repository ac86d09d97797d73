use Rattle.std.proofs.Common.{◌≡◌, get_or, slice_index, subst}
use Rattle.std.proofs.KnownBytes.{Appends-nil}
use Rattle.std.proofs.lemmas.List.{get_or_default, take_all}
use Rattle.std.specs.Io.KnownBytes.{Appends}
use Rattle.rvm_audit.specs.Parts.{taken}
use Rattle.rvm_replay.specs.PlaceLines.{place_lines}
use Rattle.rvm_replay.proofs.PlaceLines.{host_more}
use Rattle.rvm_replay.proofs.places.write_places.Goals as goal

pub loop-host-preserved : goal.loop-host-preserved
loop-host-preserved g c =
    let before = g.E.Write.contents c.args.errors.now in
    let mid = g.E.Write.contents c.loop-host.errors in
    let after = g.E.Write.contents c.write_place.new.errors in
    let all = c.args.counts.now in
    let i = c.loop-host.host in
    let r = slice_index all i in
    let is : get_or all i r ≡ r = get_or_default all i r 0 c.loop-host-test.true in
    host_more c.args.files.now (taken c.args.places.now) before mid after all i r c.taken-place.result c.loop-host-test.true is
    c.loop-host.invariant c.taken-place.ensures c.in_ok-write_place.ensures

pub loop-host-init : goal.loop-host-init
loop-host-init g c = Appends-nil (g.E.Write.contents c.args.errors.now)

pub returns : goal.returns
returns g c =
    subst (λ rs. Appends (g.E.Write.contents c.args.errors.now) (g.E.Write.contents c.loop-host.errors)
    (place_lines c.args.files.now (taken c.args.places.now) 0 rs))
    (take_all c.loop-host.host c.args.counts.now c.loop-host-test.false) c.loop-host.invariant
