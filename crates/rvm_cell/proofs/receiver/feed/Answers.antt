use Rattle.std.proofs.Common.{rules, ◌≡◌, ◌++◌, None, Ok, Some, arith}
use Rattle.rvm_frame.specs.Reader.{next_of}
use Rattle.rvm_frame.specs.Verdict.{Decides}
use Rattle.rvm_cell.specs.Heard.{IsAllButLast}
use Rattle.rvm_station.specs.Streams.{comes}
use Rattle.rvm_cell.proofs.Heard.{ended_with, no_frame, one_heard}
use Rattle.rvm_cell.proofs.receiver.feed.Goals as goal

pub returns-in_err-came-clause-some : goal.returns-in_err-came-clause-some
returns-in_err-came-clause-some g c =
    let reader = c.args.stream.now.reader in
    let d : Decides reader.version reader.bytes c.args.piece.now c.in_ok-taken.taken (Ok (Some (c.in-Some.hosts, c.in-Some.frame))) = search rules in
    let h : IsAllButLast c.in_err-came.field-0.0 c.came.new.hearing.heard
    (c.args.hearing.now.heard ++ comes c.args.hearing.now.from c.args.hearing.now.to (c.in-Some.hosts, c.in-Some.frame)) = search rules in
    let up = ended_with c.args.hearing.now.from c.args.hearing.now.to c.in_err-came.field-0.0 reader c.args.piece.now c.in_ok-taken.taken (c.in-Some.hosts, c.in-Some.frame)
    c.args.hearing.now.heard c.came.new.hearing.heard (λ i. omega (arith, c.type_inv.piece i)) d h in
    search (up, rules)

pub returns-in_ok-came-clause-all : goal.returns-in_ok-came-clause-all
returns-in_ok-came-clause-all g c =
    let reader = c.args.stream.now.reader in
    let d : Decides reader.version reader.bytes c.args.piece.now c.in_ok-taken.taken (Ok (Some (c.in-Some.hosts, c.in-Some.frame))) = search rules in
    let next : c.feed.new.self ≡ next_of reader c.args.piece.now (Some (c.in-Some.hosts, c.in-Some.frame)) = search rules in
    let h : c.came.new.hearing.heard ≡ c.args.hearing.now.heard
    ++ comes c.args.hearing.now.from c.args.hearing.now.to (c.in-Some.hosts, c.in-Some.frame) = search rules in
    one_heard c.args.hearing.now.from c.args.hearing.now.to reader c.feed.new.self c.args.piece.now c.in_ok-taken.taken (c.in-Some.hosts, c.in-Some.frame)
    c.args.hearing.now.heard c.came.new.hearing.heard (λ i. omega (arith, c.type_inv.piece i)) d next h

pub returns-in_default-clause-all : goal.returns-in_default-clause-all
returns-in_default-clause-all g c =
    let reader = c.args.stream.now.reader in
    let d : Decides reader.version reader.bytes c.args.piece.now c.in_ok-taken.taken (Ok None) = search rules in
    let next : c.feed.new.self ≡ next_of reader c.args.piece.now None = search rules in
    no_frame c.args.hearing.now.from c.args.hearing.now.to reader c.feed.new.self c.args.piece.now c.in_ok-taken.taken c.args.hearing.now.heard
    (λ i. omega (arith, c.type_inv.piece i)) d next
