use Rattle.rvm_board.proofs.Made.{one_part_more}
use Rattle.rvm_board.proofs.debugged.Debugged.hart_parts.Goals as goal

pub loop-hart-preserved : goal.loop-hart-preserved
loop-hart-preserved g c =
    let part = c.hart_part.ensures in
    one_part_more c.args.self.now.guest c.loop-hart.hart c.hart_part.result c.loop-hart.parts.items c.push.new.self.items
    part.part part.held part.whole c.push.ensures.items c.loop-hart.invariant
