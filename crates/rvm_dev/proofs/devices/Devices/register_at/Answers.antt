use Rattle.std.proofs.Common.{◌≡◌, length, arith, length-take}
use Rattle.rvm_dev.proofs.Registers.{register_at-IsOfHart}
use Rattle.rvm_dev.proofs.devices.Devices.register_at.Goals as goal

pub returns-clause-hart : goal.returns-clause-hart
returns-clause-hart c =
    let harts : length c.args.self.now.msip ≡ c.self.inside.harts =
    rw (← c.self.view_is) (omega (arith, length-take c.self.inside.harts c.self.inside.msip)) in
    rw (harts, c.at.ensures) (register_at-IsOfHart c.self.inside.harts c.args.address)
