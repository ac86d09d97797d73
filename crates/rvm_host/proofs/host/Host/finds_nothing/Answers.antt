use Rattle.std.proofs.Common.{None, refl, subst}
use Rattle.rvm_message.specs.Events.{event_of}
use Rattle.rvm_message.specs.Exchanges.{dry_exchange}
use Rattle.rvm_host.specs.Hosts.{PlainHost, Steps}
use Rattle.rvm_host.specs.Modes.{plain_of}
use Rattle.rvm_host.proofs.Settling.{settle}
use Rattle.rvm_host.proofs.host.Host.finds_nothing.Goals as goal

pub returns : goal.returns
returns g c = λ is.
    let f = c.self.inside in
    let x = dry_exchange c.args.count in
    let host : PlainHost = record { mode = plain_of f.mode; partner = f.partner; id = f.id; count = f.count; limit = f.limit; version = f.version } in
    subst (λ (h : PlainHost). Steps h (event_of x.event) (x.reply, None) h) c.self.view_is
    (settle host host (event_of x.event) (x.reply, None) None (plain_of f.mode) f.partner
    (c.finds_nothing.ensures is f.version) refl refl refl)
