use Rattle.std.proofs.Common.{subst, sym}
use Rattle.rvm_host.specs.Hosts.{host_of}
use Rattle.rvm_command.specs.Saved.{IsLeft}
use Rattle.rvm_command.proofs.Targets.{more_left, none_is, none_left, refused_all, rest_is, still_between}
use Rattle.rvm_command.proofs.restore.hear_all.Goals as goal

pub loop-left-preserved : goal.loop-left-preserved
loop-left-preserved g c =
    record {
      between = still_between _ _ _ _ _ _ c.in-Ok.ensures.heard;
      target = c.hear.ensures.target;
      left =
          subst (λ l. IsLeft c.args.bytes.now c.hear.new.reader.version l (host_of c.hear.new.host))
          (sym (rest_is c.in-Ok.count c.loop-left.left.now))
          (more_left c.args.bytes.now c.loop-left.reader.version c.loop-left.left.now (host_of c.loop-left.host) c.in-Ok.count
          c.hear.new.reader (host_of c.hear.new.host) c.loop-left.invariant.left c.in-Ok.ensures.heard);
    }

pub returns-clause-heard : goal.returns-clause-heard
returns-clause-heard g c =
    none_left c.args.bytes.now c.loop-left.reader.version c.loop-left.left.now (host_of c.loop-left.host)
    c.loop-left.invariant.left (none_is c.loop-left.left.now c.loop-left-test.ensures)

pub returns-in-Err-clause-refused : goal.returns-in-Err-clause-refused
returns-in-Err-clause-refused g c =
    refused_all c.args.bytes.now c.loop-left.reader.version c.loop-left.left.now (host_of c.loop-left.host) c.in-Err.fault
    c.loop-left.invariant.left c.in-Err.ensures.refused
