use Rattle.std.proofs.Common.{subst, sym}
use Rattle.rvm_host.specs.Hosts.{host_of}
use Rattle.rvm_command.proofs.Targets.{is_cut, is_heard, is_refused, not_heard}
use Rattle.rvm_command.specs.Restoring.{IsRefused}
use Rattle.rvm_command.specs.Saved.{Restores}
use Rattle.rvm_command.proofs.restore.hear.Goals as goal

pub returns-in-Ok-default-Some-clause-heard : goal.returns-in-Ok-default-Some-clause-heard
returns-in-Ok-default-Some-clause-heard g c =
    let d = rw c.in-Ok-default-Some.field-0-1-is at c.in-Ok-default-Some.ensures.decides in
    let next = rw c.in-Ok-default-Some.field-0-1-is at c.in-Ok-default-Some.ensures.next in
    let spells = rw c.in-Ok-default-Some.field-0-1-is at c.in-Ok-default-Some.ensures.whole in
    is_heard c.args.reader.now c.args.left.now c.in-Ok-default-Some.count c.in-Ok-default-Some.received c.feed.new.self
    c.args.host.now c.tell.new.host c.tell.result c.requires.between d spells next c.tell.ensures.next c.tell.ensures.count

pub returns-in-Ok-default-Some-clause-refused : goal.returns-in-Ok-default-Some-clause-refused
returns-in-Ok-default-Some-clause-refused g c =
    not_heard c.args.reader.now c.args.left.now (host_of c.args.host.now) c.tell.result c.tell.ensures.fault

pub returns-in-Ok-default-None-clause-refused : goal.returns-in-Ok-default-None-clause-refused
returns-in-Ok-default-None-clause-refused g c =
    let d = rw c.in-Ok-default-None.field-0-1-is at c.in-Ok-default-None.ensures.decides in
    is_cut c.args.reader.now c.args.left.now _ (host_of c.args.host.now) c.requires.between c.requires.some d

pub returns-in-Err-clause-refused : goal.returns-in-Err-clause-refused
returns-in-Err-clause-refused g c =
    subst (IsRefused (Restores c.args.reader.now.version c.args.left.now (host_of c.args.host.now))) (sym c.fault_of.ensures)
    (is_refused c.args.reader.now c.args.left.now (host_of c.args.host.now) c.in-Err.fault c.requires.between
    c.in-Err.ensures.refused)
