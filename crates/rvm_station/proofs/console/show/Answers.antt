use Rattle.std.proofs.Common.{rules}
use Rattle.rvm_station.proofs.Shown.{shown_kept, shown_more}
use Rattle.rvm_station.proofs.console.show.Goals as goal

pub returns-then-not-is_some : goal.returns-then-not-is_some
returns-then-not-is_some g c =
    let gave = g.L.Hosting.gave in
    let old = g.A.Access.asked c.args.access.now in
    let mid = g.A.Access.asked c.loop-drain.access in
    let new = g.A.Access.asked c.show_some.new.access in
    let shown = shown_more gave old mid new (g.O.Write.contents c.args.output.now) (g.O.Write.contents c.loop-drain.output)
    (g.O.Write.contents c.show_some.new.output) c.loop-drain.invariant c.in_ok-is_some.ensures in
    shown_kept gave old new (g.O.Write.contents c.args.output.now) (g.O.Write.contents c.show_some.new.output)
    (g.O.Write.contents c.flush.new.self) shown (search rules)
