use Rattle.std.proofs.Common.{◌<◌, arith, length, refl}
use Rattle.std.proofs.lemmas.Option.{slice_get_read}
use Rattle.rvm_audit.proofs.Outlined.{one_outlined}
use Rattle.rvm_audit.proofs.cuts.outlines_of.Goals as goal

pub loop-host-preserved : goal.loop-host-preserved
loop-host-preserved g c =
    let journals = c.args.journals.now in
    let host = c.loop-host.host in
    let lt : host < length journals = (let t = c.loop-host-test.true in omega (arith, t)) in
    one_outlined journals host c.index-journals-host.result c.loop-host.outlines.items c.push.new.self.items c.in_ok-of_journal.field-0
    lt (slice_get_read journals (length journals) host c.index-journals-host.result refl lt c.index-journals-host.is)
    c.loop-host.invariant c.in_ok-of_journal.ensures c.in_ok-push.ensures.items
