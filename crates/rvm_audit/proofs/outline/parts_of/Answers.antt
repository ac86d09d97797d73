use Rattle.std.proofs.Common.{◌<◌, ap, arith, length, length-append, refl, ◌∷◌, []}
use Rattle.std.proofs.lemmas.Option.{slice_get_read}
use Rattle.rvm_audit.proofs.Outlined.{one_part, outline_there}
use Rattle.rvm_audit.specs.Outlines.{outlines_in}
use Rattle.rvm_audit.proofs.outline.parts_of.Goals as goal

pub loop-host-preserved : goal.loop-host-preserved
loop-host-preserved c =
    let outlines = c.args.outlines.now in
    let parts = c.loop-host.parts.items in
    let host = c.loop-host.host in
    let lt : host < length outlines = (let t = c.loop-host-test.true in omega (arith, t)) in
    let here = slice_get_read outlines (length outlines) host c.index-outlines-host.result refl lt c.index-outlines-host.is in
    let items = c.in_ok-push.ensures.items in
    let size = ap length items in
    let long = c.loop-host.invariant.long in
    record {
      long = omega (arith, size, long, length-append parts (c.part.result ∷ []));
      each = one_part (outlines_in outlines) parts c.push.new.self.items host c.index-outlines-host.result.now c.part.result items
          c.loop-host.invariant.each long (outline_there outlines host c.index-outlines-host.result here) c.part.ensures;
    }
