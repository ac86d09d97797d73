use Rattle.std.proofs.Common.{refl, subst}
use Rattle.rvm_host.specs.Hosts.{PlainHost}
use Rattle.rvm_host.specs.Modes.{plain_of}
use Rattle.rvm_host.specs.Retiring.{HostRetires}
use Rattle.rvm_host.proofs.Retiring.{host_keeps, host_retires}
use Rattle.rvm_host.proofs.host.Host.retire.Given.{Over}
use Rattle.rvm_host.proofs.host.Host.retire.Goals as goal

module _ (g : Over) (c : goal.After-retire g) where
  abbrev before : PlainHost
  before =
      let f = c.self.inside in
      record { mode = plain_of f.mode; partner = f.partner; id = f.id; count = f.count; limit = f.limit; version = f.version }

  abbrev after : PlainHost
  after = record before { mode = plain_of c.retire.new.self }

pub returns : goal.returns
returns g c =
    let a = c.args in
    subst (λ (h : PlainHost). HostRetires a.harts a.turn a.count h (after g c) c.retire.result) c.self.view_is
    (host_retires (before g c).mode a.harts a.turn a.count (before g c) (after g c) c.retire.result refl c.retire.ensures refl)

pub invariant_of-self : goal.invariant_of-self
invariant_of-self g c =
    let a = c.args in
    host_keeps (before g c) (plain_of c.retire.new.self) a.harts a.turn a.count c.retire.result c.retire.ensures c.self.invariant
