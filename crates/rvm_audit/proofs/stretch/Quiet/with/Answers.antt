use Rattle.std.proofs.Common.{rules, ◌≡◌, ◌+◌, ap, arith, length, length-append, subst, sym}
use Rattle.rvm_audit.specs.Quiet.{AreQuiet}
use Rattle.rvm_audit.proofs.Stretched.{quiet_both}
use Rattle.rvm_audit.proofs.stretch.Quiet.with.Goals as goal

pub invariant_of-result : goal.invariant_of-result
invariant_of-result c =
    let past = c.self.inside.past in
    let item = c.args.item.now in
    let own = c.self.invariant.0 in
    let many : c.in-Some.count ≡ c.self.inside.count + c.len.result = search rules in
    let size = ap length c.push.ensures in (
      omega (arith, many, own, c.len.ensures, size, length-append past item),
      subst AreQuiet (sym c.push.ensures) (quiet_both past item c.self.invariant.1 c.requires),
    )
