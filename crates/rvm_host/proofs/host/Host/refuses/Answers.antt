use Rattle.std.proofs.Common.{◌≡◌, ◌∙◌, sym, subst}
use Rattle.rvm_message.specs.Events.{command_of}
use Rattle.rvm_message.specs.Replies.{is_refused_outright}
use Rattle.rvm_protocol.specs.Commands as commands
use Rattle.rvm_host.specs.Hosts.{PlainHost, step_of}
use Rattle.rvm_host.specs.Modes.{plain_of}
use Rattle.rvm_host.proofs.Refused.{obey_refused}
use Rattle.rvm_host.proofs.host.Host.refuses.Goals as goal

pub returns : goal.returns
returns g c =
    let f = c.self.inside in
    let before : PlainHost = record { mode = plain_of f.mode; partner = f.partner; id = f.id; count = f.count; limit = f.limit; version = f.version } in
    let e = commands.Do (command_of c.args.command.now) in
    subst (λ (h : PlainHost). c.refuses.result ≡ is_refused_outright (step_of h e).reply) c.self.view_is
    (c.refuses.ensures f.version ∙ sym (obey_refused before c.args.command.now c.in_default.not-Begin))
