use Rattle.std.proofs.Common.{◌∙◌, ap, sym}
use Rattle.rvm_message.specs.declared.event.HostEvent.TheVariants.{Came}
use Rattle.rvm_audit.specs.Cuts.{marked}
use Rattle.rvm_audit.specs.Merging.{places_of}
use Rattle.rvm_audit.proofs.Spellings.{stays_blocked}
use Rattle.rvm_audit.proofs.known.Known.may_pass.Goals as goal

pub returns-in-Some-clause-no : goal.returns-in-Some-clause-no
returns-in-Some-clause-no c =
    stays_blocked c.args.version c.args.count c.args.host (places_of c.args.self.now.made) (marked c.args.self.now.spent.items)
    c.args.framed.now.event c.may_come.result c.in-Some.from c.get.result.now
    (c.in-Some.ensures ∙ ap (Came c.in-Some.from) (sym c.get.ensures)) c.may_come.ensures.no
