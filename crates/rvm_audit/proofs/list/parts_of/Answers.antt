use Rattle.std.proofs.Common.{◌<◌, arith, length, refl}
use Rattle.std.proofs.lemmas.Option.{slice_get_read}
use Rattle.rvm_audit.specs.Parts.{IsOf}
use Rattle.rvm_audit.proofs.Lists.{one_longer, one_part}
use Rattle.rvm_audit.proofs.list.parts_of.Goals as goal

pub loop-host-preserved : goal.loop-host-preserved
loop-host-preserved g c =
    let journals = c.args.journals.now in
    let parts = c.loop-host.parts.items in
    let journal = c.index-journals-host.result in
    let part = c.of.result in
    let host = c.loop-host.host in
    let of_is = c.of.ensures in
    let lt : host < length journals = (let t = c.loop-host-test.true in omega (arith, t)) in
    let here = slice_get_read journals (length journals) host journal refl lt c.index-journals-host.is in
    let is_of : IsOf journal.now.opening journal.now.entries part =
    record { version_is = of_is.version; entries_are = of_is.entries; replay = of_is.replay }
    in
    let more = c.push.new.self.items in
    let items = c.in_ok-push.ensures.items in
    let long = c.loop-host.invariant.long in
    record {
      long = one_longer parts more part host items long;
      each = one_part journals parts more host journal part items c.loop-host.invariant.each long here is_of of_is.items of_is.few;
    }
