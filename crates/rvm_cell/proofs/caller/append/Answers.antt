use Rattle.std.proofs.Common.{arith}
use Rattle.std.specs.Prelude.{IsOk}
use Rattle.rvm_cell.proofs.Works.{all_appended}
use Rattle.rvm_cell.proofs.caller.append.Goals as goal

pub returns : goal.returns
returns c =
    let ok : IsOk c.append.result = c.append.ensures.succeeds (omega (arith, c.requires)) in
    all_appended c.append.result c.append.new.self.items c.args.all.now.items c.args.more.items c.append.ensures.items ok
