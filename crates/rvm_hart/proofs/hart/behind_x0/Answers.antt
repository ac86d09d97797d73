use Rattle.std.proofs.Common.{◌≡◌, rules, take, drop}
use Rattle.rvm_hart.proofs.Whole.{all_behind}
use Rattle.rvm_hart.proofs.hart.behind_x0.Goals as goal

pub returns-clause-registers : goal.returns-clause-registers
returns-clause-registers c =
    let part : c.copy_from_slice.new.self ≡ take 31 (drop 1 c.args.regs.now) = search rules in
    all_behind c.args.regs.now c.copy_from_slice.new.self (search rules) part
