use Rattle.std.proofs.Common.{rules, ◌≡◌, [], false, None, Ok, Some, arith}
use Rattle.rvm_frame.specs.Reader.{next_of}
use Rattle.rvm_frame.specs.Verdict.{Decides}
use Rattle.rvm_station.specs.Streams.{comes, is_between}
use Rattle.rvm_station.specs.declared.host_hearing.HearEnd.TheVariants.{BadStream}
use Rattle.rvm_station.specs.Hearing.{HaveCome}
use Rattle.rvm_station.proofs.Records.{ended_at, no_frame, one_told}
use Rattle.rvm_station.proofs.host_hearing.feed.Goals as goal

pub returns-in_err-came-clause-some : goal.returns-in_err-came-clause-some
returns-in_err-came-clause-some g c =
    let reader = c.args.reader.now in
    let d : Decides reader.version reader.bytes c.args.piece.now c.in_ok-taken.taken (Ok (Some (c.in-Some.hosts, c.in-Some.frame))) = search rules in
    let other : c.in_err-came.field-0.0 ≡ BadStream → is_between c.args.from c.args.station.now.id c.in-Some.hosts ≡ false = search rules in
    let came : HaveCome g.L.Hosting.gave c.args.from (g.A.Access.asked c.args.access.now) (g.A.Access.asked c.came.new.access) [] =
    search rules in
    let up = ended_at g.L.Hosting.gave c.args.from c.args.station.now.id c.in_err-came.field-0.0
    (g.A.Access.asked c.args.access.now) (g.A.Access.asked c.came.new.access) reader c.args.piece.now c.in_ok-taken.taken
    (c.in-Some.hosts, c.in-Some.frame) (λ i. omega (arith, c.type_inv.piece i)) d other came in
    search (up, rules)

pub returns-in_ok-came-clause-all : goal.returns-in_ok-came-clause-all
returns-in_ok-came-clause-all g c =
    let reader = c.args.reader.now in
    let d : Decides reader.version reader.bytes c.args.piece.now c.in_ok-taken.taken (Ok (Some (c.in-Some.hosts, c.in-Some.frame))) = search rules in
    let next : c.feed.new.self ≡ next_of reader c.args.piece.now (Some (c.in-Some.hosts, c.in-Some.frame)) = search rules in
    let told : HaveCome g.L.Hosting.gave c.args.from (g.A.Access.asked c.args.access.now) (g.A.Access.asked c.came.new.access)
    (comes c.args.from c.args.station.now.id (c.in-Some.hosts, c.in-Some.frame)) = search rules in
    one_told g.L.Hosting.gave c.args.from c.args.station.now.id (g.A.Access.asked c.args.access.now)
    (g.A.Access.asked c.came.new.access) reader c.feed.new.self c.args.piece.now c.in_ok-taken.taken
    (c.in-Some.hosts, c.in-Some.frame) (λ i. omega (arith, c.type_inv.piece i)) d next told

pub returns-in_default-clause-all : goal.returns-in_default-clause-all
returns-in_default-clause-all g c =
    let reader = c.args.reader.now in
    let d : Decides reader.version reader.bytes c.args.piece.now c.in_ok-taken.taken (Ok None) = search rules in
    let next : c.feed.new.self ≡ next_of reader c.args.piece.now None = search rules in
    no_frame g.L.Hosting.gave c.args.from c.args.station.now.id (g.A.Access.asked c.args.access.now) reader c.feed.new.self c.args.piece.now c.in_ok-taken.taken
    (λ i. omega (arith, c.type_inv.piece i)) d next
