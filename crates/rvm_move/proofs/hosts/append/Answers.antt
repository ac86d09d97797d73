use Rattle.std.proofs.Common.{◌∙◌, sym}
use Rattle.rvm_cell.proofs.Works.{all_appended}
use Rattle.rvm_move.proofs.hosts.append.Goals as goal

pub returns : goal.returns
returns c told =
    all_appended c.append.result c.append.new.self.items c.args.all.now.items c.args.more.items c.append.ensures.items
    (sym c.is_ok.ensures.value ∙ told)
