use Rattle.std.proofs.Common.{rules}
use Rattle.rvm_station.proofs.Shown.{input_shown, slice_shown}
use Rattle.rvm_station.specs.Console.{IsShown}
use Rattle.rvm_station.proofs.host_harts.harts_worker.Goals as goal

pub loop-slice-preserved-in-Some-rate : goal.loop-slice-preserved-in-Some-rate
loop-slice-preserved-in-Some-rate g c =
    let gave = g.L.Hosting.gave in
    let first = g.A.Access.asked c.args.access.now in
    let shown_first = g.O.Write.contents c.args.output.now in
    let shown_new = g.O.Write.contents c.show_sent.new.output in
    let mid = g.A.Access.asked c.show_sent.new.access in
    let shown : IsShown gave first mid shown_first shown_new =
    slice_shown gave first (g.A.Access.asked c.loop-slice.access) (g.A.Access.asked c.slice-slice.new.self) mid shown_first
    (g.O.Write.contents c.loop-slice.output) shown_new c.loop-slice.invariant c.slice-slice.ensures.asked (search rules) in
    input_shown gave first mid (g.A.Access.asked c.type_in.new.access) shown_first shown_new shown c.type_in.ensures

pub loop-slice-preserved-in_default-rate : goal.loop-slice-preserved-in_default-rate
loop-slice-preserved-in_default-rate g c =
    let gave = g.L.Hosting.gave in
    let first = g.A.Access.asked c.args.access.now in
    let shown_first = g.O.Write.contents c.args.output.now in
    let shown_new = g.O.Write.contents c.show_sent.new.output in
    let mid = g.A.Access.asked c.show_sent.new.access in
    let shown : IsShown gave first mid shown_first shown_new =
    slice_shown gave first (g.A.Access.asked c.loop-slice.access) (g.A.Access.asked c.slice-slice.new.self) mid shown_first
    (g.O.Write.contents c.loop-slice.output) shown_new c.loop-slice.invariant c.slice-slice.ensures.asked (search rules) in
    input_shown gave first mid (g.A.Access.asked c.type_in.new.access) shown_first shown_new shown c.type_in.ensures

pub returns-then-plan-clause-shown : goal.returns-then-plan-clause-shown
returns-then-plan-clause-shown g c unended =
    slice_shown g.L.Hosting.gave (g.A.Access.asked c.args.access.now) (g.A.Access.asked c.loop-slice.access)
    (g.A.Access.asked c.slice-slice.new.self) (g.A.Access.asked c.show_sent.new.access) (g.O.Write.contents c.args.output.now)
    (g.O.Write.contents c.loop-slice.output) (g.O.Write.contents c.show_sent.new.output) c.loop-slice.invariant
    c.slice-slice.ensures.asked (search rules)

pub loop-slice-preserved : goal.loop-slice-preserved
loop-slice-preserved g c =
    slice_shown g.L.Hosting.gave (g.A.Access.asked c.args.access.now) (g.A.Access.asked c.loop-slice.access)
    (g.A.Access.asked c.slice-slice.new.self) (g.A.Access.asked c.show_sent.new.access) (g.O.Write.contents c.args.output.now)
    (g.O.Write.contents c.loop-slice.output) (g.O.Write.contents c.show_sent.new.output) c.loop-slice.invariant
    c.slice-slice.ensures.asked (search rules)
