use Rattle.std.proofs.Common.{◌≡◌, arith, false, rules, true}
use Rattle.std.specs.List.{list_any}
use Rattle.std.specs.Str.{bytes_eq}
use Rattle.rvm_debug.proofs.Reading.{lines_of_none}
use Rattle.rvm_link.proofs.Naming.{all_named, fault_named, host_named, nothing_named, taken_named}
use Rattle.rvm_link.proofs.peers.addresses_in.Goals as goal

pub returns-in-Fault-clause-fault : goal.returns-in-Fault-clause-fault
returns-in-Fault-clause-fault c =
    fault_named c.loop-rest.invariant.lines c.split_line.ensures.lines c.len.ensures.value c.in-Fault.ensures

pub returns-then-is_taken-clause-fault : goal.returns-then-is_taken-clause-fault
returns-then-is_taken-clause-fault c =
    let taken : list_any (λ a. bytes_eq a.now c.in-Host.address.now) c.loop-rest.addresses.items ≡ true = search rules in
    taken_named c.in-Host.address c.loop-rest.invariant.lines c.split_line.ensures.lines c.len.ensures.value c.in-Host.ensures
    taken

pub loop-rest-preserved-in-Nothing : goal.loop-rest-preserved-in-Nothing
loop-rest-preserved-in-Nothing c = record {
  count = omega arith;
  lines = nothing_named c.loop-rest.invariant.lines c.split_line.ensures.lines c.len.ensures.value c.in-Nothing.ensures;
}

pub loop-rest-preserved : goal.loop-rest-preserved
loop-rest-preserved c =
    let free : list_any (λ a. bytes_eq a.now c.in-Host.address.now) c.loop-rest.addresses.items ≡ false = search rules in record {
      count = omega arith;
      lines =
          host_named c.in-Host.address c.loop-rest.invariant.lines c.split_line.ensures.lines c.len.ensures.value
          c.in-Host.ensures free c.push.ensures.items;
    }

pub returns-clause-peers : goal.returns-clause-peers
returns-clause-peers c =
    all_named c.loop-rest.invariant.lines
    (lines_of_none c.loop-rest.rest.now c.is_empty.result c.is_empty.ensures c.loop-rest-test.false)
