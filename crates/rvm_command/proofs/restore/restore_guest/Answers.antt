use Rattle.rvm_host.specs.Hosts.{host_of}
use Rattle.rvm_command.proofs.Targets.{not_restored, restored}
use Rattle.rvm_command.proofs.restore.restore_guest.Goals as goal

pub returns-in-Ok-clause-guest : goal.returns-in-Ok-clause-guest
returns-in-Ok-clause-guest g c =
    restored c.args.bytes.now (host_of c.hear_all.new.host) c.running_guest.result c.in-Ok.ensures.heard
    c.running_guest.ensures.guest

pub returns-in-Ok-clause-refused : goal.returns-in-Ok-clause-refused
returns-in-Ok-clause-refused g c =
    not_restored c.args.bytes.now (host_of c.hear_all.new.host) c.running_guest.result c.in-Ok.ensures.heard
    c.running_guest.ensures.refused
