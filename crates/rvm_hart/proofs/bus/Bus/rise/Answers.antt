use Rattle.std.proofs.Common.{◌∙◌, arith}
use Rattle.rvm_hart.proofs.Strides.{rises_time}
use Rattle.rvm_hart.proofs.bus.Bus.rise.Goals as goal

pub returns : goal.returns
returns g c = c.tick_many.ensures ∙ rises_time c.args.steps c.args.self.now (omega arith)
