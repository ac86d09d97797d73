use Rattle.rvm_audit.proofs.Stretched.{both_stretched, joined_stretched}
use Rattle.rvm_audit.proofs.stretch.Stretches.note_quiet.Goals as goal

pub returns-in-Ok : goal.returns-in-Ok
returns-in-Ok c =
    joined_stretched c.add-in-Ok.result c.self.inside.items.items c.pop.new.self.items c.in-Some.last c.in-Ok.stretch c.args.item.now
    c.add-in-Ok.new.self c.args.self.now c.self.view_is c.in-Some.ensures.items c.in-Ok.ensures.joined c.add-in-Ok.ensures

pub returns-in_ok-add-in-Err : goal.returns-in_ok-add-in-Err
returns-in_ok-add-in-Err c =
    both_stretched c.add-in-Err-2.result c.self.inside.items.items c.pop.new.self.items c.in-Some.last c.in-Err.last
    c.of_quiet-in-Err.result c.args.item.now c.add-in-Err.new.self c.add-in-Err-2.new.self c.args.self.now c.self.view_is
    c.in-Some.ensures.items c.in-Err.ensures.alone c.in_ok-add-in-Err.ensures c.of_quiet-in-Err.ensures c.add-in-Err-2.ensures
